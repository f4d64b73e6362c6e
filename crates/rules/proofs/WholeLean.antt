-- What the filter's gain needs: two windows with the same guides and coarse values at most h apart (`Apart`), and sums over them of how far the guides
-- are from their mean. Assumes nothing.
use mathlib.Core.Path.{◌≡◌, refl, sym, ap}
use mathlib.Core.List.{List, [], ◌∷◌}
use Prim.Native.Nat.{ℕ, ◌+◌, ◌-◌, ◌*◌, ◌≤◌, ◌<◌}
use native.Mathlib.Nat.{add-sub_of_le, mul-le-mul_left, mul-le-mul_right, le_of_mul-le-mul_left}
use native.Mathlib.Decide.{dec_le}
use native.Mathlib.Omega.{arith}
use lib.ListN.{length}
use Rattle.rules.specs.Window.{total}
use Rattle.rules.specs.Transmission.{Sample, Sg, St, Sgg, Sgt}
use Rattle.rules.proofs.Integers.{distance}
use Rattle.rules.proofs.Spread.{twice}

-- ---- (a − s)·(t − u) is at most h·|a − s|, where t and u are at most h apart

lean_up : (s c t u h : ℕ) → t ≤ u + h → (s + c) * t + s * u ≤ s * t + (s + c) * u + h * c
lean_up s c t u h p = omega (arith, mul-le-mul_left c p)

lean_down : (a c t u h : ℕ) → u ≤ t + h → a * t + (a + c) * u ≤ (a + c) * t + a * u + h * c
lean_down a c t u h p = omega (arith, mul-le-mul_left c p)

pub lean : (a s t u h : ℕ) → t ≤ u + h → u ≤ t + h → a * t + s * u ≤ s * t + a * u + h * distance a s
lean a s t u h p q = go (dec_le s a)
  where
    go : Dec (s ≤ a) → a * t + s * u ≤ s * t + a * u + h * distance a s
    go (yes l) = let d : distance a s ≡ a - s = omega arith in rw d (rw (add-sub_of_le l) at (lean_up s (a - s) t u h p))
    go (no l) =
        let k : a ≤ s = omega arith in
        let d : distance a s ≡ s - a = omega arith in
        rw d (rw (add-sub_of_le k) at (lean_down a (s - a) t u h q))

-- |a − s|² = a² + s² − 2as
square_up : (s c : ℕ) → c * c + 2 * ((s + c) * s) ≡ (s + c) * (s + c) + s * s
square_up s c = omega arith

square : (a s : ℕ) → distance a s * distance a s + 2 * (a * s) ≡ a * a + s * s
square a s = go (dec_le s a)
  where
    go : Dec (s ≤ a) → distance a s * distance a s + 2 * (a * s) ≡ a * a + s * s
    go (yes l) = let d : distance a s ≡ a - s = omega arith in rw d (rw (add-sub_of_le l) at (square_up s (a - s)))
    go (no l) =
        let k : a ≤ s = omega arith in
        let d : distance a s ≡ s - a = omega arith in
        let e = rw (add-sub_of_le k) at (square_up a (s - a)) in
        rw d (omega (arith, e))

-- ---- two windows with the same guides, and coarse values at most h apart

pub data Apart (h : ℕ) : List Sample → List Sample → Type 0 where
  none : Apart h [] []
  more : {i j : Sample} {l l' : List Sample} → i.g ≡ j.g → i.t ≤ j.t + h → j.t ≤ i.t + h → Apart h l l' → Apart h (i ∷ l) (j ∷ l')

pub turn : {h : ℕ} {l l' : List Sample} → Apart h l l' → Apart h l' l
turn none = none
turn (more e p q a) = more (sym e) q p (turn a)

pub same_length : {h : ℕ} {l l' : List Sample} → Apart h l l' → length l ≡ length l'
same_length none = refl
same_length (more e p q a) = let k = same_length a in omega arith

-- of the guides every sum is the same
pub same_total : (F : ℕ → ℕ) {h : ℕ} {l l' : List Sample} → Apart h l l' → total (λ (i : Sample). F i.g) l ≡ total (λ (i : Sample). F i.g) l'
same_total F none = refl
same_total F (more e p q a) = let k = same_total F a in let d = ap F e in omega arith

pub St_apart : {h : ℕ} {l l' : List Sample} → Apart h l l' → St l ≤ St l' + length l * h
St_apart none = omega arith
St_apart (more e p q a) = let k = St_apart a in omega arith

-- a pixel of the window has the guide g
pub data Has (g : ℕ) : List Sample → Type 0 where
  here : {i : Sample} {l : List Sample} → i.g ≡ g → Has g (i ∷ l)
  later : {i : Sample} {l : List Sample} → Has g l → Has g (i ∷ l)

pub has_le : (F : ℕ → ℕ) {g : ℕ} {l : List Sample} → Has g l → F g ≤ total (λ (i : Sample). F i.g) l
has_le F (here e) = let d = ap F e in omega arith
has_le F (later h) = let k = has_le F h in omega arith

-- ---- sums of how far the guides, times N, are from S

abbrev pub far : ℕ → ℕ → ℕ → ℕ
far N S g = distance (N * g) S

module _ (N S : ℕ) where
  pub sum_lean : {h : ℕ} {l l' : List Sample} → Apart h l l' → N * Sgt l + S * St l' ≤ S * St l + N * Sgt l' + h * total (λ (i : Sample). far N S i.g) l
  sum_lean none = omega arith
  sum_lean {h} (more {i} {j} e p q a) =
      let k = sum_lean a in
      let d = lean (N * i.g) S i.t j.t h p q in
      let f = ap (λ (n : ℕ). N * n * j.t) e in
      omega (arith, k, d, f)

  pub sum_twice : (m c : ℕ) (l : List Sample) → 2 * (c * (m * total (λ (i : Sample). far N S i.g) l)) ≤ length l * (c * c) + m * m * total (λ (i : Sample). far N S i.g * far N S i.g) l
  sum_twice m c [] = omega arith
  sum_twice m c (i ∷ l) = omega (arith, sum_twice m c l, twice c (m * far N S i.g))

  pub sum_square : (l : List Sample) → total (λ (i : Sample). far N S i.g * far N S i.g) l + 2 * (N * S * Sg l) ≡ N * N * Sgg l + length l * (S * S)
  sum_square [] = omega arith
  sum_square (i ∷ l) = omega (arith, sum_square l, square (N * i.g) S)

-- a distance c whose square is at most the sum of squares, times the sum of distances, is at most m times the sum of squares
pub both : (m c n C E : ℕ) → 0 < m → n ≤ m * m → c * c ≤ E → 2 * (c * (m * C)) ≤ n * (c * c) + m * m * E → c * C ≤ m * E
both m c n C E hm hn hc h =
    let a = mul-le-mul_right (c * c) hn in
    let b = mul-le-mul_left (m * m) hc in
    le_of_mul-le-mul_left {k = m} (omega (arith, a, b, h)) hm
