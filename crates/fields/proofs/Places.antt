-- Where a part lies: a part of a part is a part of the whole, and a part's bytes stand in the whole where the part begins. Assumes nothing.
use mathlib.Core.Path.{◌≡◌, refl, sym, ap, subst, ◌∙◌}
use mathlib.Core.Bool.{Bool, true, false}
use mathlib.Core.List.{List, [], ◌∷◌, ◌++◌, append-nil, append_assoc}
use Prim.Native.Nat.{ℕ, zero, suc, ◌+◌, ◌≤◌, ◌<◌}
use native.Mathlib.Nat.{add_assoc}
use native.Mathlib.Decide.{dec_lt}
use native.Mathlib.Omega.{arith}
use lib.Dec.{eqb}
use lib.ListN.{length, get_or, length-append, get_or-eq_default}
use borrow.Author.Tests.{eqb-true}
use Rattle.fields.specs.Fields.{cons_head, joined, split, field_of, begins, field_at}
use Rattle.fields.specs.Parts.{on}
use Rattle.fields.proofs.Lines.{some_part}

pub on_on : (p : ℕ × ℕ) (i j : ℕ) → on (on p i) j ≡ on p (j + i)
on_on p i j = ap (λ (o : ℕ). (p.0, o)) (sym (add_assoc j i p.1))

-- ---- a list is its parts, with the separators between them

abbrev pub join : ℕ → List (List ℕ) → List ℕ
join sep [] = []
join sep (f ∷ []) = f
join sep (f ∷ g ∷ fs) = f ++ sep ∷ join sep (g ∷ fs)

join_cons : (sep x : ℕ) (fs : List (List ℕ)) → join sep (cons_head x fs) ≡ x ∷ join sep fs
join_cons sep x [] = refl
join_cons sep x (f ∷ []) = refl
join_cons sep x (f ∷ g ∷ fs) = refl

join_sep : (sep x : ℕ) (fs : List (List ℕ)) → x ≡ sep → 0 < length fs → join sep ([] ∷ fs) ≡ x ∷ join sep fs
join_sep sep x [] e h = absurd (let z : ⊥ = omega arith in z)
join_sep sep x (f ∷ fs) e h = ap (λ (y : ℕ). y ∷ join sep (f ∷ fs)) (sym e)

pub join_split : (sep : ℕ) (s : List ℕ) → join sep (split sep s) ≡ s
join_split sep [] = refl
join_split sep (x ∷ xs) = go (eqb x sep) refl ∙ ap (λ (l : List ℕ). x ∷ l) (join_split sep xs)
  where
    go : (b : Bool) → eqb x sep ≡ b → join sep (joined b x (split sep xs)) ≡ x ∷ join sep (split sep xs)
    go true e = join_sep sep x (split sep xs) (eqb-true x sep e) (some_part sep xs)
    go false e = join_cons sep x (split sep xs)

-- ---- the bytes of a part stand at its place

pub record Stands (bytes whole : List ℕ) (place : ℕ) : Type 0 where
  pub before : List ℕ
  pub after : List ℕ
  pub from : place ≡ length before
  pub all : whole ≡ before ++ (bytes ++ after)

begins_on : (at : ℕ) (fs : List (List ℕ)) (n : ℕ) → n < length fs → begins at fs n ≡ at + begins 0 fs n
begins_on at [] n h = absurd (let z : ⊥ = omega arith in z)
begins_on at (f ∷ fs) zero h = omega arith
begins_on at (f ∷ fs) (suc n) h =
    let there = begins_on (at + length f + 1) fs n (omega arith) in
    let here = begins_on (0 + length f + 1) fs n (omega arith) in
    omega arith

join_stands : (sep : ℕ) (fs : List (List ℕ)) (n : ℕ) → n < length fs → Stands (get_or fs n []) (join sep fs) (begins 0 fs n)
join_stands sep [] n h = absurd (let z : ⊥ = omega arith in z)
join_stands sep (f ∷ []) zero h = record { before = []; after = []; from = refl; all = sym (append-nil f) }
join_stands sep (f ∷ []) (suc n) h = absurd (let z : ⊥ = omega arith in z)
join_stands sep (f ∷ g ∷ fs) zero h = record { before = []; after = sep ∷ join sep (g ∷ fs); from = refl; all = refl }
join_stands sep (f ∷ g ∷ fs) (suc n) h =
    let p = join_stands sep (g ∷ fs) n (omega arith) in
    let on = begins_on (0 + length f + 1) (g ∷ fs) n (omega arith) in
    record {
      before = f ++ sep ∷ p.before;
      after = p.after;
      from = let l = length-append f (sep ∷ p.before) in omega (arith, p.from);
      all = ap (λ (l : List ℕ). f ++ sep ∷ l) p.all ∙ sym (append_assoc f (sep ∷ p.before) (get_or (g ∷ fs) n [] ++ p.after));
    }

pub field_stands : (sep : ℕ) (s : List ℕ) (n : ℕ) → Stands (field_of sep s n) s (field_at sep s n)
unfolding field_of field_at
field_stands sep s n = go (dec_lt n (length (split sep s)))
  where
    none : (at : ℕ) (fs : List (List ℕ)) (n : ℕ) → length fs ≤ n → begins at fs n ≡ 0
    none at [] n h = refl
    none at (f ∷ fs) zero h = absurd (let z : ⊥ = omega arith in z)
    none at (f ∷ fs) (suc n) h = none (at + length f + 1) fs n (omega arith)

    go : Dec (n < length (split sep s)) → Stands (get_or (split sep s) n []) s (begins 0 (split sep s) n)
    go (yes h) = subst (λ (l : List ℕ). Stands (get_or (split sep s) n []) l (begins 0 (split sep s) n)) (join_split sep s) (join_stands sep (split sep s) n h)
    go (no h) =
        let past : length (split sep s) ≤ n = omega arith in
        record { before = []; after = s; from = none 0 (split sep s) n past; all = sym (ap (λ (l : List ℕ). l ++ s) (get_or-eq_default (split sep s) [] past)) }

-- what stands in a part stands in the whole
pub stands_in : {bytes part whole : List ℕ} {i j : ℕ} → Stands bytes part i → Stands part whole j → Stands bytes whole (i + j)
stands_in {bytes} {part} {whole} {i} {j} p q =
    record {
      before = q.before ++ p.before;
      after = p.after ++ q.after;
      from = let l = length-append q.before p.before in omega (arith, p.from, q.from);
      all =
          q.all
          ∙ ap (λ (l : List ℕ). q.before ++ (l ++ q.after)) p.all
          ∙ ap (λ (l : List ℕ). q.before ++ l) (append_assoc p.before (bytes ++ p.after) q.after ∙ ap (λ (l : List ℕ). p.before ++ l) (append_assoc bytes p.after q.after))
          ∙ sym (append_assoc q.before p.before (bytes ++ (p.after ++ q.after)));
    }
