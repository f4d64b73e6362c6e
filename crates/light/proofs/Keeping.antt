-- The candidate that leads, position by position: the brightest so far, the first on a tie. Assumes nothing.
use mathlib.Core.Path.{◌≡◌, refl, sym, ap, ◌∙◌}
use mathlib.Core.Bool.{Bool, true, false, cond, ◌&&◌, ◌||◌}
use mathlib.Core.List.{List, [], ◌∷◌, ◌++◌, append-nil}
use Prim.Native.Nat.{ℕ, zero, suc, ◌+◌, ◌<◌, max}
use native.Mathlib.Decide.{dec_lt}
use native.Mathlib.Nat.{add-zero}
use native.Mathlib.Omega.{arith}
use borrow.Author.Tests.{lt-ltb, le-ltb, le-leb, lt-leb, ne_eqb}
use lib.Dec.{ltb, leb, eqb}
use lib.IntN.{ℤ}
use Rattle.rules.specs.Light.{guide, keep, best}
use Rattle.rules.specs.Buffers.{pixel_at}
use Rattle.light.specs.declared.Leader.{Leader}
use Rattle.light.specs.declared.Walk.{Walk}
use Rattle.light.specs.declared.Cut.{Cut}
use Rattle.light.specs.Steps.{value, upto, next, admitted, kept, Walked, Chosen}
use Rattle.light.proofs.Positions.{keep_more, hits_more}

best_more : (g : ℕ → ℕ) (p o : ℕ) (l : List ℕ) → best g p (l ++ (o ∷ [])) ≡ cond (ltb (g (best g p l)) (g o)) o (best g p l)
best_more g p o [] = refl
best_more g p o (i ∷ l) = best_more g (cond (ltb (g p) (g i)) i p) o l

kept_one : (g : ℕ → ℕ) (o : ℕ) (l : List ℕ) → kept g (l ++ (o ∷ [])) ≡ next (kept g l) true o (g o)
kept_one g o [] = rw (le-leb 0 (g o) (omega arith))
kept_one g o (p ∷ l) = go (dec_lt (g (best g p l)) (g o))
  where
    go : Dec (g (best g p l) < g o) → kept g ((p ∷ l) ++ (o ∷ [])) ≡ next (kept g (p ∷ l)) true o (g o)
    go (yes h) = rw (best_more g p o l, lt-ltb (g (best g p l)) (g o) h, le-leb (g (best g p l) + 1) (g o) (omega arith))
    go (no h) = rw (best_more g p o l, le-ltb (g (best g p l)) (g o) (omega arith), lt-leb (g (best g p l) + 1) (g o) (omega arith))

kept_more : (g : ℕ → ℕ) (t : ℕ → Bool) (p : ℕ) → kept g (keep t (upto (p + 1))) ≡ next (kept g (keep t (upto p))) (t p) p (g p)
kept_more g t p = ap (kept g) (keep_more t p) ∙ go (t p)
  where
    go : (b : Bool) → kept g (keep t (upto p) ++ cond b (p ∷ []) []) ≡ next (kept g (keep t (upto p))) b p (g p)
    go true = kept_one g p (keep t (upto p))
    go false = ap (kept g) (append-nil (keep t (upto p)))

next_lt : (n : ℕ) (b : Leader) (ok : Bool) (o x : ℕ) → b.place < n → o < n → (next b ok o x).place < n
next_lt n b ok o x h k = go ok (leb b.top x)
  where
    go : (s t : Bool) → (cond s (cond t (record { place = o; top = x + 1 }) b) b).place < n
    go true true = k
    go true false = h
    go false t = h

-- ---- a turn at position p: x is the level, y the guide

module _ (frame : List ℕ) (work : List ℤ) (c : Cut) where
  module _ (p : ℕ) (b : Walk) (b' : Leader) (seen' x y : ℕ) (ok : Bool) where
    pub turn : Walked frame work c p b → x ≡ value work p → y ≡ guide (pixel_at frame p)
        → ok ≡ (ltb c.value x || (eqb c.value x && ltb b.seen c.ties))
        → b' ≡ next b.leader ok p y → seen' ≡ b.seen + cond (eqb c.value x) 1 0 → Walked frame work c (p + 1) (record { leader = b'; seen = seen' })
    turn l ex ey eo eb es =
        let d = value work in
        let t : ok ≡ admitted d c p = eo ∙ (λ i. ltb c.value (ex i) || (eqb c.value (ex i) && ltb (l.level i) c.ties)) in
        record {
          leads = eb ∙ (λ i. next (l.leads i) (t i) p (ey i)) ∙ sym (kept_more (λ o. guide (pixel_at frame o)) (admitted d c) p);
          level = es ∙ (λ i. l.level i + cond (eqb c.value (ex i)) 1 0) ∙ sym (hits_more d p c.value);
          inside = rw eb (next_lt (max 1 (p + 1)) b.leader ok p y (omega (arith, l.inside)) (omega arith));
        }

  pub start : Walked frame work c 0 (record { leader = record { place = 0; top = 0 }; seen = 0 })
  start = record { leads = refl; level = refl; inside = omega arith }

  -- a pixel below the cutoff changes nothing
  below : (p : ℕ) (b : Walk) → value work p < c.value → Walked frame work c p b → Walked frame work c (p + 1) b
  below p b h l =
      let x = value work p in
      let e : false ≡ (ltb c.value x || (eqb c.value x && ltb b.seen c.ties)) = rw (le-ltb c.value x (omega arith), ne_eqb c.value x (λ k. omega arith)) in
      let f : b.seen ≡ b.seen + cond (eqb c.value x) 1 0 = rw (ne_eqb c.value x (λ k. omega arith), add-zero) in
      turn p b b.leader b.seen x (guide (pixel_at frame p)) false l refl refl e refl f

  -- and so do n of them
  pub passed : (p n : ℕ) (b : Walk) → ((x : ℕ) → x < n → value work (p + x) < c.value) → Walked frame work c p b → Walked frame work c (p + n) b
  passed p zero b h l = rw (add-zero p) l
  passed p (suc n) b h l =
      let e : p + suc n ≡ p + n + 1 = omega arith in
      rw e (below (p + n) b (h n (omega arith)) (passed p n b (λ x q. h x (omega arith)) l))

  -- at the end the leader is the one that is chosen
  pub chosen : (p : ℕ) (b : Walk) → 0 < p → Walked frame work c p b → Chosen frame work p c b.leader.place
  chosen p b h l = record { inside = omega (arith, l.inside); best = ap (λ (i : Leader). i.place) l.leads }
