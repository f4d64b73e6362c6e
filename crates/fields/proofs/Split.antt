-- How a list splits at its first separator. Assumes nothing.
use mathlib.Core.Path.{◌≡◌, refl, sym, ap, ap₂, ◌∙◌, subst}
use mathlib.Core.Bool.{Bool}
use mathlib.Core.List.{List, [], ◌∷◌, ◌++◌}
use Prim.Native.Nat.{ℕ, zero, suc, ◌+◌, ◌-◌, ◌≤◌, ◌<◌, suc-le-suc}
use mathlib.Core.Logic.{⊎_elim}
use native.Mathlib.Nat.{eq-or-lt_of_le, le_of_suc-le-suc, zero-lt-suc}
use native.Mathlib.Omega.{arith}
use lib.ListN.{length, get_or, take, drop, length-drop}
use lib.Seq.{drop-drop, get_or-drop, get_or-take, split_at, take_all, length-take-le}
use borrow.Author.Tests.{eq-eqb, ne_eqb}
use Rattle.fields.specs.Fields.{cons_head, joined, split, field_of, begins, Ends}

module _ (sep : ℕ) where
  -- no byte is the separator
  abbrev pub Free : List ℕ → Type 0
  Free s = (k : ℕ) → k < length s → get_or s k 0 ≡ sep → ⊥

  pub free_both : (a b : List ℕ) (x : ℕ) → Free a → (x ≡ sep → ⊥) → Free b → Free (a ++ x ∷ b)
  free_both [] b x f n g zero l q = n q
  free_both [] b x f n g (suc k) l q = g k (le_of_suc-le-suc l) q
  free_both (y ∷ a) b x f n g zero l q = f 0 (zero-lt-suc (length a)) q
  free_both (y ∷ a) b x f n g (suc k) l q = free_both a b x (λ i h. f (suc i) (suc-le-suc h)) n g k (le_of_suc-le-suc l) q

  pub split_append : (a b : List ℕ) → Free a → split sep (a ++ sep ∷ b) ≡ a ∷ split sep b
  split_append [] b f = ap (λ (t : Bool). joined t sep (split sep b)) (eq-eqb sep sep refl)
  split_append (x ∷ a) b f =
      ap (λ (t : Bool). joined t x (split sep (a ++ sep ∷ b))) (ne_eqb x sep (f 0 (zero-lt-suc (length a))))
      ∙ ap (cons_head x) (split_append a b (λ k l. f (suc k) (suc-le-suc l)))

  pub split_last : (s : List ℕ) → Free s → split sep s ≡ s ∷ []
  split_last [] h = refl
  split_last (x ∷ xs) h =
      ap (λ (b : Bool). joined b x (split sep xs)) (ne_eqb x sep (h 0 (zero-lt-suc (length xs))))
      ∙ ap (cons_head x) (split_last xs (λ k l. h (suc k) (suc-le-suc l)))

  split_first : (s : List ℕ) (e : ℕ) → e < length s → ((k : ℕ) → k < e → get_or s k 0 ≡ sep → ⊥) → get_or s e 0 ≡ sep
      → split sep s ≡ take e s ∷ split sep (drop (suc e) s)
  split_first s e l h q =
      let short = length-take-le e s (omega arith) in
      ap (split sep) (split_at s e 0 l ∙ ap (λ (x : ℕ). take e s ++ x ∷ drop (suc e) s) q)
      ∙ split_append (take e s) (drop (suc e) s) (λ k m r. let n : k < e = omega arith in h k n (sym (get_or-take e s k 0 n) ∙ r))

  module _ (s : List ℕ) (at r : ℕ) (f : Ends s at sep r) where
    no_sep : (k : ℕ) → k < r - at → get_or (drop at s) k 0 ≡ sep → ⊥
    no_sep k l q = f.none (at + k) (omega arith) (omega (arith, f.from)) (sym (get_or-drop at s k 0) ∙ q)

    -- where the end is the list's, the rest is the last part
    pub rest_last : r ≡ length s → split sep (drop at s) ≡ drop at s ∷ []
    rest_last e = split_last (drop at s) (λ k l. no_sep k (let m : k < length s - at = subst (λ (n : ℕ). k < n) (length-drop at s) l in omega arith))

    pub rest_first : r < length s → split sep (drop at s) ≡ take (r - at) (drop at s) ∷ split sep (drop (r + 1) s)
    rest_first l =
        split_first (drop at s) (r - at) (simp length-drop (omega (arith, f.from))) no_sep
        (get_or-drop at s (r - at) 0 ∙ ap (λ (n : ℕ). get_or s n 0) (let z : at + (r - at) ≡ r = omega (arith, f.from) in z) ∙ f.here l)
        ∙ ap (λ (t : List ℕ). take (r - at) (drop at s) ∷ split sep t)
        (drop-drop (suc (r - at)) at s ∙ ap (λ (n : ℕ). drop n s) (let z : at + suc (r - at) ≡ r + 1 = omega (arith, f.from) in z))

    -- the first part of the rest, in either case
    pub rest_head : (ps : List (List ℕ)) × (split sep (drop at s) ≡ take (r - at) (drop at s) ∷ ps)
    rest_head =
        ⊎_elim
        (λ (e : r ≡ length s). ([], rest_last e ∙ ap (λ (l : List ℕ). l ∷ []) (sym (take_all (r - at) (drop at s) (simp length-drop (omega arith))))))
        (λ (l : r < length s). (split sep (drop (r + 1) s), rest_first l))
        (eq-or-lt_of_le f.within)

    -- ---- the n-th part of the whole, k parts on: the part itself and the place at which it begins

    module _ (n k : ℕ) where
      module _ (le : n ≤ k) where
        here : n - k ≡ 0
        here = omega arith

        pub part_here : take (r - at) (drop at s) ≡ field_of sep (drop at s) (n - k)
        unfolding field_of
        part_here = sym (ap₂ (λ (fs : List (List ℕ)) (m : ℕ). get_or fs m []) rest_head.1 here)

        pub place_here : at ≡ begins at (split sep (drop at s)) (n - k)
        place_here = sym (ap₂ (begins at) rest_head.1 here)

      module _ (l : k < n) where
        next : n - k ≡ suc (n - (k + 1))
        next = omega arith

        -- it is one part less on in what follows the end
        pub part_next : r < length s → field_of sep (drop at s) (n - k) ≡ field_of sep (drop (r + 1) s) (n - (k + 1))
        unfolding field_of
        part_next h = ap₂ (λ (fs : List (List ℕ)) (m : ℕ). get_or fs m []) (rest_first h) next

        pub place_next : r < length s → begins at (split sep (drop at s)) (n - k) ≡ begins (r + 1) (split sep (drop (r + 1) s)) (n - (k + 1))
        place_next h =
            let m : length (take (r - at) (drop at s)) ≡ r - at = length-take-le (r - at) (drop at s) (simp length-drop (omega arith)) in
            ap₂ (begins at) (rest_first h) next
            ∙ ap (λ (i : ℕ). begins i (split sep (drop (r + 1) s)) (n - (k + 1))) (let z : at + length (take (r - at) (drop at s)) + 1 ≡ r + 1 = omega (arith, f.from) in z)

        -- there is none where the end is the list's
        pub part_none : r ≡ length s → field_of sep (drop at s) (n - k) ≡ []
        unfolding field_of
        part_none h = ap₂ (λ (fs : List (List ℕ)) (m : ℕ). get_or fs m []) (rest_last h) next

        pub place_none : r ≡ length s → begins at (split sep (drop at s)) (n - k) ≡ 0
        place_none h = ap₂ (begins at) (rest_last h) next

-- the same, for a loop over the parts
pub ruleset parts_on = (part_here, part_next, part_none, place_here, place_next, place_none)
