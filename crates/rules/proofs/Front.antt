-- A list folded from the front, one element a turn: what a loop over a slice keeps, for any operation that may be bracketed either way.
-- Assumes nothing.
use mathlib.Core.Path.{◌≡◌, ◌∙◌}
use mathlib.Core.List.{List, foldr}
use Prim.Native.Nat.{ℕ, ◌+◌, ◌<◌}
use native.Mathlib.Numerals.{add-one}
use lib.ListN.{length, drop, get_or}
use lib.Seq.{drop-cons, drop-length}

-- what g reads off each element, folded
abbrev pub folded : {A : Type 0} → (A → A → A) → (ℕ → A) → A → List ℕ → A
folded op g e l = foldr (λ x r. op (g x) r) e l

-- the value so far, with the fold of the elements from i on, is the fold of all
pub record Front {A : Type 0} (op : A → A → A) (g : ℕ → A) (e : A) (l : List ℕ) (i : ℕ) (value : A) : Type 0 where
  pub is : op value (folded op g e (drop i l)) ≡ folded op g e l

pub front_none : {A : Type 0} (op : A → A → A) (g : ℕ → A) (e : A) (l : List ℕ) → op e (folded op g e l) ≡ folded op g e l → Front op g e l 0 e
front_none op g e l h = record { is = h }

pub front_more : {A : Type 0} (op : A → A → A) (g : ℕ → A) (e : A) (l : List ℕ) → ((a b c : A) → op (op a b) c ≡ op a (op b c))
    → (i : ℕ) (value : A) → i < length l → Front op g e l i value → Front op g e l (i + 1) (op value (g (get_or l i 0)))
front_more op g e l assoc i value h f =
    let more : op value (op (g (get_or l i 0)) (folded op g e (drop (i + 1) l))) ≡ folded op g e l = rw add-one (rw (drop-cons l i 0 h) at f.is) in
    record { is = assoc value (g (get_or l i 0)) (folded op g e (drop (i + 1) l)) ∙ more }

pub front_all : {A : Type 0} (op : A → A → A) (g : ℕ → A) (e : A) (l : List ℕ) (value : A) → Front op g e l (length l) value → op value e ≡ folded op g e l
front_all op g e l value f = rw (drop-length l) at f.is
