-- Demand 3. After a clearing and any run of Replace calls, accepted and refused, map and picture are those of a fresh clearing of the frame as it
-- then is: of the rules (`run_fresh`), and of any buffers that calls which keep their promises leave (`ran_fresh`). And no call changes what is
-- farther than s + 2r from its rectangle (`replace_alone`, `replaces_alone`). Assumes nothing.
use mathlib.Core.Path.{◌≡◌, refl, sym, ap, ◌∙◌, subst}
use mathlib.Core.Bool.{Bool, true, false, cond}
use mathlib.Core.List.{List, [], ◌∷◌}
use Prim.Native.Nat.{ℕ, zero, suc, ◌+◌, ◌*◌, ◌<◌}
use native.Mathlib.Omega.{arith}
use Rattle.rules.specs.Shape.{Shape}
use Rattle.rules.specs.declared.Settings.{Settings}
use Rattle.rules.specs.declared.Rgb.{Rgb}
use Rattle.rules.specs.declared.Rect.{Rect}
use Rattle.std.specs.Prelude.{Result}
use Rattle.rules.specs.declared.Refusal.{Refusal}
use Rattle.rules.specs.Window.{Plane, Shown}
use Rattle.rules.specs.Setup.{Setup, shape}
use Rattle.rules.specs.Buffers.{pixels, masked, values, State, shown_by, map_of, picture_of, clear, near, patch, placed, pasted, reach, replace}
use Rattle.rules.specs.Promise.{Lent, state, lent, unless, wiped, no_clear, no_replace, Replaces}
use Rattle.rules.specs.Run.{Call, accepted, step, run, Fresh, Ran, cleared as after_clear, replaced as after_replace}
use Rattle.rules.proofs.Local.{Agree, Local, entry_local, cleared_local}
use Rattle.rules.proofs.Near.{Far, far_no, far_sees}
use Rattle.rules.proofs.Buffers.{values_entries, pixels_bytes, entries_cong, bytes_cong, masked_agree}
use Rattle.rules.proofs.Answers.{or_free}

pub patch_no : {A : Type 0} (t : ℕ → ℕ → Bool) (new old : Plane A) (y x : ℕ) → t y x ≡ false → patch t new old y x ≡ old y x
unfolding patch
patch_no t new old y x e = rw e

-- ---- one accepted call

module _ (z : Shape) (k : Settings) (c : Rect) (new : List ℕ) where
  pub far_agree : (frame : List ℕ) (y x : ℕ) → near (reach k) c y x ≡ false → Agree z (reach k) y x (pixels z frame) (pixels z (pasted z c new frame))
  far_agree frame y x e v u w =
      let f : Plane Rgb = patch (near 0 c) (placed c new) (pixels z frame) in
      let kept : f v u ≡ pixels z frame v u = patch_no (near 0 c) (placed c new) (pixels z frame) v u (far_sees z (reach k) c y x v u e w) in
      sym (pixels_bytes z f v u w.row w.column ∙ kept)

  -- the mask stays, so under it they agree too
  pub far_shown : (mask frame : List ℕ) (y x : ℕ) → near (reach k) c y x ≡ false → Agree z (reach k) y x (masked z mask frame) (masked z mask (pasted z c new frame))
  far_shown mask frame y x e = masked_agree z mask (reach k) y x frame (pasted z c new frame) (far_agree frame y x e)

  -- what is brought up to date within the reach is up to date everywhere, for any rule that is local at the reach
  refresh :
      {B : Type 0} (F : Plane (Shown Rgb) → Plane B)
      → Local z (reach k) F
      → (mask frame : List ℕ) (old : Plane B) (y x : ℕ)
      → y < z.h
      → x < z.w
      → old y x ≡ F (masked z mask frame) y x
      → patch (near (reach k) c) (F (masked z mask (pasted z c new frame))) old y x ≡ F (masked z mask (pasted z c new frame)) y x
  unfolding patch
  refresh {B} F l mask frame old y x hy hx h = go (near (reach k) c y x) refl
    where
      go : (b : Bool) → near (reach k) c y x ≡ b → cond b (F (masked z mask (pasted z c new frame)) y x) (old y x) ≡ F (masked z mask (pasted z c new frame)) y x
      go true e = refl
      go false e = h ∙ l (masked z mask frame) (masked z mask (pasted z c new frame)) y x hy hx (far_shown mask frame y x e)

-- ---- a run of calls

module _ (p : Setup) where
  pub replace_fresh : (c : Rect) (new frame : List ℕ) → replace p c new (clear p frame) ≡ clear p (pasted (shape p) c new frame)
  unfolding replace clear
  replace_fresh c new frame =
      let z = shape p in
      let k = p.settings in
      let f = shown_by p frame in
      let map =
      entries_cong z _ _
      (λ y x hy hx. refresh z k c new (map_of p) (entry_local z k p.light) p.mask frame _ y x hy hx (values_entries z (map_of p f) y x hy hx)) in
      let picture =
      bytes_cong z _ _
      (λ y x hy hx. refresh z k c new (picture_of p) (cleared_local z k p.light) p.mask frame _ y x hy hx (pixels_bytes z (picture_of p f) y x hy hx)) in
      λ i. record { frame = pasted z c new frame; map = map i; picture = picture i }

  -- an accepted call keeps a fresh state fresh
  fresh_replace : (s : State) (c : Rect) (new : List ℕ) → Fresh p s → Fresh p (replace p c new s)
  unfolding replace
  fresh_replace s c new h = ap (replace p c new) h ∙ replace_fresh c new s.frame

  step_fresh : (s : State) (c : Call) → Fresh p s → Fresh p (step p s c)
  unfolding step
  step_fresh s c h = go (accepted p s c)
    where
      go : (b : Bool) → Fresh p (cond b (replace p c.rect c.new s) s)
      go true = fresh_replace s c.rect c.new h
      go false = h

  run_from : (s : State) (cs : List Call) → Fresh p s → Fresh p (run p s cs)
  unfolding run
  run_from s [] h = h
  run_from s (c ∷ cs) h = run_from (step p s c) cs (step_fresh s c h)

  -- demand 3, first half
  pub run_fresh : (frame : List ℕ) (cs : List Call) → Fresh p (run p (clear p frame) cs)
  unfolding clear
  run_fresh frame cs = run_from (clear p frame) cs refl

-- ---- what a replacement leaves alone

-- the frame outside the rectangle; map and picture farther than s + 2·r from it, in rows or in columns
pub record Alone (z : Shape) (k : Settings) (c : Rect) (s m : State) : Type 0 where
  pub frame : (y x : ℕ) → y < z.h → x < z.w → Far 0 c y x → pixels z m.frame y x ≡ pixels z s.frame y x
  pub map : (y x : ℕ) → y < z.h → x < z.w → Far (k.s + 2 * k.r) c y x → values z m.map y x ≡ values z s.map y x
  pub picture : (y x : ℕ) → y < z.h → x < z.w → Far (k.s + 2 * k.r) c y x → pixels z m.picture y x ≡ pixels z s.picture y x

-- demand 3, second half: from any state
pub replace_alone : (p : Setup) (c : Rect) (new : List ℕ) (s : State) → Alone (shape p) p.settings c s (replace p c new s)
unfolding replace
replace_alone p c new s =
    let z = shape p in
    let k = p.settings in
    let e : k.s + 2 * k.r ≡ reach k = omega arith in
    record {
      frame = λ y x hy hx f. pixels_bytes z _ y x hy hx ∙ patch_no (near 0 c) _ _ y x (far_no 0 c y x f);
      map = λ y x hy hx f. values_entries z _ y x hy hx ∙ patch_no (near (reach k) c) _ _ y x (far_no (reach k) c y x (rw e at f));
      picture = λ y x hy hx f. pixels_bytes z _ y x hy hx ∙ patch_no (near (reach k) c) _ _ y x (far_no (reach k) c y x (rw e at f));
    }

-- ---- demand 3 of the calls' own promises

-- what holds of the buffers after an accepted and after a refused call holds after the call
either_way : (P : Lent → Type 0) (n : ℕ) (new old m : Lent) → m ≡ unless n new old → P new → P old → P m
either_way P zero new old m e p q = subst P (sym e) p
either_way P (suc n) new old m e p q = subst P (sym e) q

module _ (p : Setup) where
  pub ran_fresh : (m : Lent) → Ran p m → Fresh p (state m)
  unfolding clear
  ran_fresh _ (after_clear l m r q e) =
      let none : no_clear p l ≡ 0 = or_free _ _ _ q.answer e in
      let left : m ≡ lent (clear p l.frame) (wiped (shape p) l.work) = rw none at q.after in
      rw left refl
  ran_fresh _ (after_replace l m work c new r ran q) =
      let old : Fresh p (state l) = ran_fresh l ran in
      either_way (λ (n : Lent). Fresh p (state n)) (no_replace p c new (lent (state l) work)) _ (lent (state l) work) m q.after
      (fresh_replace p (state l) c new old) old

  pub replaces_alone : (c : Rect) (new : List ℕ) (l m : Lent) (r : Result ℕ Refusal) → Replaces p c new l r m → Alone (shape p) p.settings c (state l) (state m)
  replaces_alone c new l m r q =
      either_way (λ (n : Lent). Alone (shape p) p.settings c (state l) (state n)) (no_replace p c new l) _ l m q.after
      (replace_alone p c new (state l)) (record { frame = λ y x hy hx e. refl; map = λ y x hy hx e. refl; picture = λ y x hy hx e. refl })
