-- What the parts of the block method leave in lines of samples. Assumes nothing.
use Rattle.std.specs.Prelude.{◌≡◌, List, ℕ, ◌+◌, ◌-◌, ◌*◌, ◌≤◌, ◌<◌, min, get_or}
use Rattle.rules.specs.Count.{lo, hi, crossing, tally}
use Rattle.windows.specs.Span.{span}
use Rattle.windows.specs.Blocks.{start, stop, choose}

-- sample i
abbrev pub entry : List ℕ → ℕ → ℕ
entry l i = get_or l i 0

-- m has F i at each i from `first` to before `end`, and elsewhere what l has
pub record Written (F : ℕ → ℕ) (l m : List ℕ) (first end : ℕ) : Type 0 where
  pub is : (i : ℕ) → first ≤ i → i < end → entry m i ≡ F i
  pub rest : (i : ℕ) → (first ≤ i → i < end → ⊥) → entry m i ≡ entry l i

-- m has G 0, G 1 and so on, n of them, at `to`, and elsewhere what l has
abbrev pub Laid : (ℕ → ℕ) → List ℕ → List ℕ → ℕ → ℕ → Type 0
Laid G l m to n = Written (λ i. G (i - to)) l m to (to + n)

-- the least from the block's start to i, and from i to the block's end, on a line of n in blocks of k
abbrev pub fore : List ℕ → ℕ → ℕ → ℕ
fore l k i = span min (entry l) (start k i) i

abbrev pub aft : List ℕ → ℕ → ℕ → ℕ → ℕ
aft l k n i = span min (entry l) i (stop k n i)

-- the least over the window about i, put together from the block minima p and q
abbrev pub met : List ℕ → List ℕ → ℕ → ℕ → ℕ → ℕ
met p q n s i = choose min (lo s i) (start (2 * s + 1) (hi s n i)) (entry q (lo s i)) (entry p (hi s n i))

-- the windows from `from` to before `end` are put together, with r comparisons
pub record Met (l m p q : List ℕ) (n s from end r : ℕ) : Type 0 where
  pub mins : Written (met p q n s) l m from end
  pub count : tally (crossing s n) from + r ≡ tally (crossing s n) end
