-- A list that comes back with one of its parts rewritten, and a list that is written so, run by run. Assumes nothing.
use mathlib.Core.Path.{◌≡◌, refl, sym, ap, ◌∙◌}
use mathlib.Core.Bool.{Bool, true, false, cond}
use mathlib.Core.List.{List, ◌++◌}
use Prim.Native.Nat.{ℕ, ◌+◌, ◌-◌, ◌≤◌, ◌<◌}
use native.Mathlib.Decide.{dec_lt}
use native.Mathlib.Omega.{arith}
use lib.ListN.{length, get_or, take, drop, length-append, length-drop, get_or-append}
use lib.Seq.{get_or-take, get_or-drop, get_or-append-add, length-take-le}
use Rattle.writer.specs.Run.{Run}

-- ---- a list xs whose part of k elements from a on has come back as ys

abbrev pub back : List ℕ → ℕ → ℕ → List ℕ → List ℕ
back xs a k ys = take a xs ++ (ys ++ drop k (drop a xs))

module _ (xs ys : List ℕ) (a k : ℕ) (long : length ys ≡ k) (within : a + k ≤ length xs) where
  head_length : length (take a xs) ≡ a
  head_length = length-take-le a xs (omega arith)

  back_length : length (back xs a k ys) ≡ length xs
  back_length = simp (length-append, length-drop) (omega (arith, head_length))

  back_before : (p : ℕ) → p < a → get_or (back xs a k ys) p 0 ≡ get_or xs p 0
  back_before p h =
      get_or-append (take a xs) (ys ++ drop k (drop a xs)) 0 p (omega (arith, head_length)) ∙ get_or-take a xs p 0 h

  at_rest : (p : ℕ) → a ≤ p → get_or (back xs a k ys) p 0 ≡ get_or (ys ++ drop k (drop a xs)) (p - a) 0
  at_rest p h =
      ap (λ (i : ℕ). get_or (back xs a k ys) i 0) (let z : p ≡ length (take a xs) + (p - a) = omega (arith, head_length) in z)
      ∙ get_or-append-add (take a xs) (ys ++ drop k (drop a xs)) (p - a) 0

  back_in : (p : ℕ) → a ≤ p → p < a + k → get_or (back xs a k ys) p 0 ≡ get_or ys (p - a) 0
  back_in p h l = at_rest p h ∙ get_or-append ys (drop k (drop a xs)) 0 (p - a) (omega arith)

  back_after : (p : ℕ) → a + k ≤ p → get_or (back xs a k ys) p 0 ≡ get_or xs p 0
  back_after p h =
      at_rest p (omega arith)
      ∙ ap (λ (i : ℕ). get_or (ys ++ drop k (drop a xs)) i 0) (let z : p - a ≡ length ys + (p - a - k) = omega arith in z)
      ∙ get_or-append-add ys (drop k (drop a xs)) (p - a - k) 0
      ∙ get_or-drop k (drop a xs) (p - a - k) 0
      ∙ get_or-drop a xs (k + (p - a - k)) 0
      ∙ ap (λ (i : ℕ). get_or xs i 0) (let z : a + (k + (p - a - k)) ≡ p = omega arith in z)

-- the same where ys is the old part but for a run of n at its front
module _ (F : ℕ → ℕ) (xs ys : List ℕ) (a k n : ℕ) (r : Run F a n (take k (drop a xs)) ys) (within : a + k ≤ length xs) (fit : n ≤ k) where
  part_length : length ys ≡ k
  part_length = r.same ∙ length-take-le k (drop a xs) (simp length-drop (omega arith))

  run_length : length (back xs a k ys) ≡ length xs
  run_length = back_length xs ys a k part_length within

  run_in : (p : ℕ) → a ≤ p → p < a + n → get_or (back xs a k ys) p 0 ≡ F p
  run_in p h l =
      back_in xs ys a k part_length within p h (omega arith) ∙ r.in_run (p - a) (omega arith) ∙ ap F (let z : a + (p - a) ≡ p = omega arith in z)

  run_past : (p : ℕ) → a + n ≤ p → get_or (back xs a k ys) p 0 ≡ get_or xs p 0
  run_past p h = by (dec_lt p (a + k))
    where
      by : Dec (p < a + k) → get_or (back xs a k ys) p 0 ≡ get_or xs p 0
      by (yes l) =
          back_in xs ys a k part_length within p (omega arith) l
          ∙ r.past (p - a) (omega arith)
          ∙ get_or-take k (drop a xs) (p - a) 0 (omega arith)
          ∙ get_or-drop a xs (p - a) 0
          ∙ ap (λ (i : ℕ). get_or xs i 0) (let z : a + (p - a) ≡ p = omega arith in z)
      by (no l) = back_after xs ys a k part_length within p (omega arith)

-- ---- new is old, but F of the place where I says so

pub record Upto (F : ℕ → ℕ) (I : ℕ → Bool) (old new : List ℕ) : Type 0 where
  pub same : length new ≡ length old
  pub at : (p : ℕ) → p < length old → get_or new p 0 ≡ cond (I p) (F p) (get_or old p 0)

pub upto_none : (F : ℕ → ℕ) (I : ℕ → Bool) (old : List ℕ) → ((p : ℕ) → I p ≡ false) → Upto F I old old
upto_none F I old z = record { same = refl; at = λ p l. sym (ap (λ (b : Bool). cond b (F p) (get_or old p 0)) (z p)) }

-- J is I and the n places from a on
pub record Adds (I J : ℕ → Bool) (a n : ℕ) : Type 0 where
  pub here : (p : ℕ) → a ≤ p → p < a + n → J p ≡ true
  pub else : (p : ℕ) → (a ≤ p → p < a + n → ⊥) → J p ≡ I p

-- one run more
pub upto_more : (F : ℕ → ℕ) (I J : ℕ → Bool) (old xs ys : List ℕ) (a k n : ℕ) → Upto F I old xs → Run F a n (take k (drop a xs)) ys → a + k ≤ length xs → n ≤ k → Adds I J a n
    → Upto F J old (back xs a k ys)
upto_more F I J old xs ys a k n u r within fit adds = record {
  same = run_length F xs ys a k n r within fit ∙ u.same;
  at = λ p l. by p l (dec_lt p a) (dec_lt p (a + n));
}
  where
    new : List ℕ
    new = back xs a k ys

    other : (p : ℕ) → p < length old → J p ≡ I p → get_or (back xs a k ys) p 0 ≡ get_or xs p 0 → get_or (back xs a k ys) p 0 ≡ cond (J p) (F p) (get_or old p 0)
    other p l e g = g ∙ u.at p l ∙ sym (ap (λ (b : Bool). cond b (F p) (get_or old p 0)) e)

    by : (p : ℕ) → p < length old → Dec (p < a) → Dec (p < a + n) → get_or (back xs a k ys) p 0 ≡ cond (J p) (F p) (get_or old p 0)
    by p l (yes lt) d =
        other p l (adds.else p (λ g h. omega arith)) (back_before xs ys a k (part_length F xs ys a k n r within fit) within p lt)
    by p l (no ge) (yes lt) =
        run_in F xs ys a k n r within fit p (omega arith) lt
        ∙ sym (ap (λ (b : Bool). cond b (F p) (get_or old p 0)) (adds.here p (omega arith) lt))
    by p l (no ge) (no far) = other p l (adds.else p (λ g h. omega arith)) (run_past F xs ys a k n r within fit p (omega arith))
