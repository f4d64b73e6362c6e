-- What the reader's answer says of the line: where it ends it is the first part between line ends, with that many fields; where it is broken, that part
-- has no end, or a byte of the class other. Then: a line is plain where its fields are, and a number is plain. Assumes nothing.
use mathlib.Core.Path.{◌≡◌, refl, sym, ap, ap₂, ◌∙◌}
use mathlib.Core.Bool.{Bool, true, false, cond, ◌&&◌, and-false, and_assoc}
use mathlib.Core.List.{List, [], ◌∷◌}
use Prim.Native.Nat.{ℕ, suc, ◌+◌, ◌-◌, ◌≤◌, ◌<◌}
use native.Mathlib.Omega.{arith}
use lib.Dec.{leb, eqb}
use lib.ListN.{length, take, drop, length-drop}
use lib.Seq.{drop-drop}
use borrow.Author.Tests.{eqb-true}
use Rattle.fields.specs.declared.Class.{Class}
use Rattle.fields.specs.declared.Class.TheVariants.{Digit, Lower, Tab, LineEnd, Other}
use Rattle.fields.specs.declared.Line.{Line}
use Rattle.std.specs.Prelude.{Option, Some, None}
use Rattle.fields.specs.Bytes.{class_of, counted, on_class, scan, line_of, usual, plain}
use Rattle.fields.specs.Every.{every}
use Rattle.fields.specs.Fields.{cons_head, joined, split}
use Rattle.fields.specs.Decimal.{digit, figured, led, numeral}
use Rattle.fields.proofs.Every.{both, every_also, up_to_every}

-- ---- the separators by their classes

abbrev is_tab : Class → Bool
is_tab Digit = false
is_tab Lower = false
is_tab Tab = true
is_tab LineEnd = false
is_tab Other = false

abbrev is_end : Class → Bool
is_end Digit = false
is_end Lower = false
is_end Tab = false
is_end LineEnd = true
is_end Other = false

module _ (d l t e : Bool) where
  no_tab : t ≡ false → is_tab (cond d Digit (cond l Lower (cond t Tab (cond e LineEnd Other)))) ≡ false
  no_tab h = rw h (go d l e)
    where
      go : (d l e : Bool) → is_tab (cond d Digit (cond l Lower (cond e LineEnd Other))) ≡ false
      go true l e = refl
      go false true e = refl
      go false false true = refl
      go false false false = refl

  no_end : e ≡ false → is_end (cond d Digit (cond l Lower (cond t Tab (cond e LineEnd Other)))) ≡ false
  no_end h = rw h (go d l t)
    where
      go : (d l t : Bool) → is_end (cond d Digit (cond l Lower (cond t Tab Other))) ≡ false
      go true l t = refl
      go false true t = refl
      go false false true = refl
      go false false false = refl

pub tab_class : (b : ℕ) → eqb b 9 ≡ is_tab (class_of b)
tab_class b = go (eqb b 9) refl
  where
    go : (t : Bool) → eqb b 9 ≡ t → eqb b 9 ≡ is_tab (class_of b)
    go true h = h ∙ sym (ap (λ (n : ℕ). is_tab (class_of n)) (eqb-true b 9 h))
    go false h = h ∙ sym (no_tab (leb 48 b && leb b 57) (leb 97 b && leb b 122) (eqb b 9) (eqb b 10) h)

pub end_class : (b : ℕ) → eqb b 10 ≡ is_end (class_of b)
end_class b = go (eqb b 10) refl
  where
    go : (t : Bool) → eqb b 10 ≡ t → eqb b 10 ≡ is_end (class_of b)
    go true h = h ∙ sym (ap (λ (n : ℕ). is_end (class_of n)) (eqb-true b 10 h))
    go false h = h ∙ sym (no_end (leb 48 b && leb b 57) (leb 97 b && leb b 122) (eqb b 9) (eqb b 10) h)

-- ---- a byte before a list that is split

pub some_part : (sep : ℕ) (l : List ℕ) → 0 < length (split sep l)
some_part sep [] = omega arith
some_part sep (x ∷ xs) = go (eqb x sep) (split sep xs)
  where
    go : (t : Bool) (fs : List (List ℕ)) → 0 < length (joined t x fs)
    go true fs = omega arith
    go false [] = omega arith
    go false (f ∷ fs) = omega arith

length_cons : (x : ℕ) (fs : List (List ℕ)) → 0 < length fs → length (cons_head x fs) ≡ length fs
length_cons x [] h = absurd (let z : ⊥ = omega arith in z)
length_cons x (f ∷ fs) h = refl

-- ---- a line that ends

-- the line is d bytes long and has n fields, of which those before the list are counted in f
record At (l : List ℕ) (i f e n : ℕ) : Type 0 where
  d : ℕ
  place : e ≡ i + d
  inside : d < length l
  line : split 10 l ≡ take d l ∷ split 10 (drop (suc d) l)
  count : f + length (split 9 (take d l)) ≡ suc n

module _ (b : ℕ) (bs : List ℕ) (i f e n : ℕ) where
  -- a byte that is no line end, before a line that ends
  before : eqb b 10 ≡ false → (g : ℕ) → (p : At bs (suc i) g e n)
      → f + length (split 9 (b ∷ take p.d bs)) ≡ g + length (split 9 (take p.d bs)) → At (b ∷ bs) i f e n
  before h g p q =
      record {
        d = suc p.d;
        place = omega (arith, p.place);
        inside = omega (arith, p.inside);
        line = rw h (ap (cons_head b) p.line);
        count = q ∙ p.count;
      }

  kept : eqb b 9 ≡ false → (d : ℕ) → length (split 9 (b ∷ take d bs)) ≡ length (split 9 (take d bs))
  kept h d = rw h (length_cons b (split 9 (take d bs)) (some_part 9 (take d bs)))

  more : eqb b 9 ≡ true → (d : ℕ) → length (split 9 (b ∷ take d bs)) ≡ suc (length (split 9 (take d bs)))
  more h d = rw h

  onward : (k : Class) (rest : Option Line) → eqb b 10 ≡ is_end k → eqb b 9 ≡ is_tab k → on_class k i f rest ≡ Some (record { end = e; fields = n })
      → (rest ≡ Some (record { end = e; fields = n }) → At bs (suc i) (counted k f) e n) → At (b ∷ bs) i f e n
  onward Digit rest he ht q p = before he f (p q) (ap (λ (m : ℕ). f + m) (kept ht (p q).d))
  onward Lower rest he ht q p = before he f (p q) (ap (λ (m : ℕ). f + m) (kept ht (p q).d))
  onward Tab rest he ht q p = let m = more ht (p q).d in before he (suc f) (p q) (omega arith)
  onward LineEnd rest he ht q p =
      let same : ◌≡◌ {A = Line} (record { end = i; fields = f }) (record { end = e; fields = n }) = cc in
      let u : i ≡ e = ap (λ (l : Line). l.end) same in
      let v : f ≡ n = ap (λ (l : Line). l.fields) same in
      record { d = 0; place = omega arith; inside = omega arith; line = rw he; count = omega arith }
  onward Other rest he ht q p = absurd (let z : ◌≡◌ {A = ℕ} 0 1 = cc in let y : ⊥ = omega arith in y)

ends_at : (l : List ℕ) (i f e n : ℕ) → scan l i f ≡ Some (record { end = e; fields = n }) → At l i f e n
ends_at [] i f e n q = absurd (let z : ◌≡◌ {A = ℕ} 0 1 = cc in let y : ⊥ = omega arith in y)
ends_at (b ∷ bs) i f e n q =
    onward b bs i f e n (class_of b) (scan bs (suc i) (counted (class_of b) f)) (end_class b) (tab_class b) q
    (ends_at bs (suc i) (counted (class_of b) f) e n)

-- what a caller learns of the line between at and e
pub record Ended (s : List ℕ) (at e n : ℕ) : Type 0 where
  pub from : at ≤ e
  pub within : e < length s
  pub line : split 10 (drop at s) ≡ take (e - at) (drop at s) ∷ split 10 (drop (e + 1) s)
  pub count : n ≡ length (split 9 (take (e - at) (drop at s)))

pub ended : (s : List ℕ) (at e n : ℕ) → at ≤ length s → line_of s at ≡ Some (record { end = e; fields = n }) → Ended s at e n
unfolding line_of
ended s at e n h q =
    let p = ends_at (drop at s) at 1 e n q in
    let d : p.d ≡ e - at = omega (arith, p.place) in
    let k : at + suc p.d ≡ e + 1 = omega (arith, p.place) in
    let m : length (drop at s) ≡ length s - at = length-drop at s in
    record {
      from = omega (arith, p.place);
      within = omega (arith, p.place, p.inside);
      line = p.line ∙ ap₂ (λ (x : ℕ) (y : List ℕ). take x (drop at s) ∷ split 10 y) d (drop-drop (suc p.d) at s ∙ ap (λ (x : ℕ). drop x s) k);
      count = let c = p.count in let z : n ≡ length (split 9 (take p.d (drop at s))) = omega arith in z ∙ ap (λ (x : ℕ). length (split 9 (take x (drop at s)))) d;
    }

-- ---- a line that is broken

-- the first part has an end, and no byte of the class other
abbrev pub sound : List (List ℕ) → Bool
sound [] = false
sound (p ∷ []) = false
sound (p ∷ q ∷ ps) = plain p

sound_cons : (b : ℕ) (ps : List (List ℕ)) → sound (cons_head b ps) ≡ (usual (class_of b) && sound ps)
sound_cons b [] = sym (and-false (usual (class_of b)))
sound_cons b (p ∷ []) = sym (and-false (usual (class_of b)))
sound_cons b (p ∷ q ∷ ps) = refl

module _ (b : ℕ) (ps : List (List ℕ)) where
  unsound : (k : Class) (i f : ℕ) (rest : Option Line) → class_of b ≡ k → eqb b 10 ≡ is_end k → on_class k i f rest ≡ None
      → (rest ≡ None → sound ps ≡ false) → sound (joined (eqb b 10) b ps) ≡ false
  unsound Digit i f rest c he q p = rw he (sound_cons b ps ∙ rw c (p q))
  unsound Lower i f rest c he q p = rw he (sound_cons b ps ∙ rw c (p q))
  unsound Tab i f rest c he q p = rw he (sound_cons b ps ∙ rw c (p q))
  unsound LineEnd i f rest c he q p = absurd (let z : ◌≡◌ {A = ℕ} 0 1 = cc in let y : ⊥ = omega arith in y)
  unsound Other i f rest c he q p = rw he (sound_cons b ps ∙ rw c)

broken_at : (l : List ℕ) (i f : ℕ) → scan l i f ≡ None → sound (split 10 l) ≡ false
broken_at [] i f q = refl
broken_at (b ∷ bs) i f q =
    unsound b (split 10 bs) (class_of b) i f (scan bs (suc i) (counted (class_of b) f)) refl (end_class b) q
    (broken_at bs (suc i) (counted (class_of b) f))

pub broken : (s : List ℕ) (at : ℕ) → line_of s at ≡ None → sound (split 10 (drop at s)) ≡ false
unfolding line_of
broken s at q = broken_at (drop at s) at 1 q

-- ---- plain lines

plain_cons : (b : ℕ) (fs : List (List ℕ)) → 0 < length fs → every plain (cons_head b fs) ≡ (usual (class_of b) && every plain fs)
plain_cons b [] h = absurd (let z : ⊥ = omega arith in z)
plain_cons b (f ∷ fs) h = and_assoc (usual (class_of b)) (plain f) (every plain fs)

pub plain_fields : (l : List ℕ) → every plain (split 9 l) ≡ plain l
plain_fields [] = refl
plain_fields (b ∷ bs) = go (eqb b 9) refl (plain_fields bs)
  where
    go : (t : Bool) → eqb b 9 ≡ t → every plain (split 9 bs) ≡ plain bs → every plain (joined t b (split 9 bs)) ≡ (usual (class_of b) && plain bs)
    go true h p = p ∙ sym (ap (λ (n : ℕ). usual (class_of n) && plain bs) (eqb-true b 9 h))
    go false h p = plain_cons b (split 9 bs) (some_part 9 bs) ∙ ap (λ (t : Bool). usual (class_of b) && t) p

pub plain_numeral : (s : List ℕ) → numeral s ≡ true → plain s ≡ true
unfolding numeral figured
plain_numeral s h = every_also digit (λ b. usual (class_of b)) (λ b d. rw d) s (up_to_every 6 digit s (both (led s) (figured s) h).1)
