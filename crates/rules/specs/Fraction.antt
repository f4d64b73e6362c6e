-- Fractions: a whole number over another, never rounded, with the rules of school; and how far a whole number is from one. Assumes nothing.
use Rattle.std.specs.Prelude.{ℕ, suc, ◌*◌, ◌<◌, cond, length, ℤ, pos, negsuc, neg_ℤ, ◌+ℤ◌, ◌-ℤ◌, ◌*ℤ◌, ◌<ℤ◌, ◌≤ℤ◌}
use mathlib.Core.List.{List, foldr}
use Rattle.std.specs.Int.Signed.{lt_z}

-- top / bottom, a number where bottom is above 0
pub record Fraction : Type 0 where
  pub top : ℤ
  pub bottom : ℕ

unfoldable pub whole : ℕ → Fraction
whole n = record { top = pos n; bottom = 1 }

infixl 6 ◌+ᶠ◌ ◌-ᶠ◌
infixl 7 ◌*ᶠ◌ ◌/ᶠ◌
infix 4 ◌<ᶠ◌ ◌≤ᶠ◌
unfoldable pub ◌+ᶠ◌ : Fraction → Fraction → Fraction
p +ᶠ q = record { top = p.top *ℤ pos q.bottom +ℤ q.top *ℤ pos p.bottom; bottom = p.bottom * q.bottom }

unfoldable pub ◌-ᶠ◌ : Fraction → Fraction → Fraction
p -ᶠ q = record { top = p.top *ℤ pos q.bottom -ℤ q.top *ℤ pos p.bottom; bottom = p.bottom * q.bottom }

unfoldable pub ◌*ᶠ◌ : Fraction → Fraction → Fraction
p *ᶠ q = record { top = p.top *ℤ q.top; bottom = p.bottom * q.bottom }

-- bottom / top, and so division: no number where top is 0
unfoldable pub turned : ℤ → ℕ → Fraction
turned (pos n) b = record { top = pos b; bottom = n }
turned (negsuc n) b = record { top = neg_ℤ (pos b); bottom = suc n }

unfoldable pub ◌/ᶠ◌ : Fraction → Fraction → Fraction
p /ᶠ q = p *ᶠ turned q.top q.bottom

-- order, by the products crosswise
abbrev pub cross : Fraction → Fraction → ℤ
cross p q = p.top *ℤ pos q.bottom

abbrev pub ◌<ᶠ◌ : Fraction → Fraction → Type 0
p <ᶠ q = cross p q <ℤ cross q p

abbrev pub ◌≤ᶠ◌ : Fraction → Fraction → Type 0
p ≤ᶠ q = cross p q ≤ℤ cross q p

unfoldable pub smaller : Fraction → Fraction → Fraction
smaller p q = cond (lt_z (cross q p) (cross p q)) q p

unfoldable pub larger : Fraction → Fraction → Fraction
larger p q = cond (lt_z (cross p q) (cross q p)) q p

-- held into 0..n
abbrev pub heldᶠ : ℕ → Fraction → Fraction
heldᶠ n p = larger (whole 0) (smaller (whole n) p)

-- of a window: the sum, and the mean, of what f reads off each value
abbrev pub sum : {A : Type 0} → (A → Fraction) → List A → Fraction
sum f l = foldr (λ i s. f i +ᶠ s) (whole 0) l

abbrev pub mean : {A : Type 0} → (A → Fraction) → List A → Fraction
mean f l = sum f l /ᶠ whole (length l)

-- n ten-thousandths
abbrev pub part : ℕ → Fraction
part n = whole n /ᶠ whole 10000

-- ---- how far a whole number n is from an exact p, which is a number

-- less than `under` below it and less than `over` above it
pub record Off (under over : Fraction) (n : ℕ) (p : Fraction) : Type 0 where
  pub number : 0 < p.bottom
  pub low : p <ᶠ whole n +ᶠ under
  pub high : whole n <ᶠ p +ᶠ over

-- never below it, and less than `over` above it
pub record Over (over : Fraction) (n : ℕ) (p : Fraction) : Type 0 where
  pub number : 0 < p.bottom
  pub low : p ≤ᶠ whole n
  pub high : whole n <ᶠ p +ᶠ over

-- at most `by` from it
pub record Beside (by : Fraction) (n : ℕ) (p : Fraction) : Type 0 where
  pub number : 0 < p.bottom
  pub low : p ≤ᶠ whole n +ᶠ by
  pub high : whole n ≤ᶠ p +ᶠ by

-- two exact ones, both numbers: p is at most `by` above q
pub record Upto (by p q : Fraction) : Type 0 where
  pub number : 0 < p.bottom
  pub other : 0 < q.bottom
  pub most : p ≤ᶠ q +ᶠ by
