-- The quotient of two whole numbers that go into doubles without loss is the exact quotient, rounded once (`exact_quotient`). So the promise of Band figure
-- fixes its two doubles: the sum of the band's entries over 10000 times their count, and the least entry over 10,000, each rounded once (`figured`).
-- Assumes nothing.
use mathlib.Core.Path.{◌≡◌, refl, sym, ap, ◌∙◌}
use mathlib.Core.Bool.{true, false, true≢false}
use mathlib.Core.List.{List}
use Prim.Native.Nat.{ℕ, zero, suc, ◌+◌, ◌-◌, ◌*◌, ◌^◌, min, ◌≤◌, ◌<◌}
use native.Mathlib.Nat.{mul-pos, mul-le-mul_right}
use native.Mathlib.Decide.{dec_le}
use native.Mathlib.Omega.{arith}
use lib.IntN.{pos}
use lib.ListN.{length, get_or, take, drop}
use lib.Seq.{drop-cons}
use lib.Dec.{T, le→leb}
use borrow.Author.Tests.{ne_eqb}
use lib.Ieee.{Float, nan, inf, fin, Format, binary64, up, down, round, div, of_int, in_float}
use lib.Ieee.Fits.{up_pos, down_pos}
use lib.Ieee.Exact.{HasValue}
use lib.Ieee.Back.{round_whole}
use lib.Ieee.Scale.{round_same}
use Rattle.rules.specs.Shape.{described}
use Rattle.rules.specs.declared.Size.{Size}
use Rattle.rules.specs.declared.Figure.{Figure}
use Rattle.rules.specs.declared.Band.{Band}
use Rattle.rules.specs.declared.Band.TheVariants as band
use Rattle.rules.specs.Window.{from, least, total}
use Rattle.rules.specs.Fold.{Σ}
use Rattle.rules.specs.Picture.{quotient, figure_of, figure}
use Rattle.rules.specs.Refusals.{refuse_band}
use Rattle.rules.specs.Promise.{figure_or, Bands}
use Rattle.rules.proofs.Local.{from_length}
use Rattle.rules.proofs.Good.{size_good, map_good, band_good, entries_good}
use Rattle.rules.proofs.Exactly.{band_exact}
use Rattle.rules.proofs.Answers.{figure_free}

-- a number to 2^53 loses nothing
pub in_float_lem : (n : ℕ) → n ≤ 2 ^ 53 → T (in_float binary64 (pos n))
unfolding in_float
in_float_lem n h = le→leb n (2 ^ 53) h

cross : (x y a b p q : ℕ) → x * 1 ≡ a * p → y * 1 ≡ b * q → x * q * b ≡ a * (y * p)
cross x y a b p q h k =
    let u : x ≡ a * p = omega arith in
    let v : y ≡ b * q = omega arith in
    ap (λ (n : ℕ). n * q * b) u ∙ (let w : a * p * q * b ≡ a * (b * q * p) = omega arith in w) ∙ ap (λ (n : ℕ). a * (n * p)) (sym v)

div_values : (f : Format) (x y : Float) (a b : ℕ) → 0 < b → HasValue x false a 1 → HasValue y false b 1 → div f x y ≡ round f false a b
unfolding div
div_values f nan y a b l h k = absurd h
div_values f (inf s) y a b l h k = absurd h
div_values f (fin s m e) nan a b l h k = absurd k
div_values f (fin s m e) (inf t) a b l h k = absurd k
div_values f (fin true m e) (fin t n d) a b l h k = absurd (true≢false h.0)
div_values f (fin false m e) (fin true n d) a b l h k = absurd (true≢false k.0)
div_values f (fin false m e) (fin false n d) a b l h k =
    let q : 0 < b * down d = mul-pos l (down_pos d) in
    let some : n ≡ 0 → ⊥ = λ z. (let w : n * up d ≡ 0 * up d = ap (λ (i : ℕ). i * up d) z in omega (arith, k.1)) in
    let above : 0 < n = omega arith in
    rw (ne_eqb n 0 some)
    (round_same f false (m * up e * down d) (n * up d * down e) a b
    (mul-pos (mul-pos above (up_pos d)) (down_pos e)) l
    (cross (m * up e) (n * up d) a b (down e) (down d) h.1 k.1))

pub exact_quotient : (a b : ℕ) → a ≤ 2 ^ 53 → b ≤ 2 ^ 53 → 0 < b → quotient a b ≡ round binary64 false a b
unfolding quotient of_int
exact_quotient a b l m h =
    div_values binary64 (round binary64 false a 1) (round binary64 false b 1) a b h (round_whole binary64 false a l) (round_whole binary64 false b m)

-- ---- the entries at n positions from a on

-- as a part of the map
part_is : (map : List ℕ) (a n : ℕ) → a + n ≤ length map → take n (drop a map) ≡ from a n (λ p. get_or map p 0)
part_is map a zero h = refl
part_is map a (suc n) h = let l : a < length map = omega arith in rw (drop-cons map a 0 l, part_is map (suc a) n (omega arith))

sum_is : (a n : ℕ) (f : ℕ → ℕ) → total (λ t. t) (from a n f) ≡ Σ ◌+◌ 0 a n f
sum_is a zero f = refl
sum_is a (suc n) f = ap (λ (m : ℕ). f a + m) (sum_is (suc a) n f)

sum_le : (a n : ℕ) (f : ℕ → ℕ) → ((p : ℕ) → f p ≤ 10000) → Σ ◌+◌ 0 a n f ≤ 10000 * n
sum_le a zero f h = omega arith
sum_le a (suc n) f h = omega (arith, h a, sum_le (suc a) n f h)

-- v is the least of the values from a to b, the last left out: one of them, and at most each
pub record Smallest (f : ℕ → ℕ) (a b v : ℕ) : Type 0 where
  pub place : ℕ
  pub start : a ≤ place
  pub end : place < b
  pub here : f place ≡ v
  pub most : (p : ℕ) → a ≤ p → p < b → v ≤ f p

-- one more in front
lower : (f : ℕ → ℕ) (a b v : ℕ) → a < b → Smallest f (suc a) b v → Smallest f a b (min (f a) v)
lower f a b v h rest = go (dec_le (f a) v)
  where
    each : (p : ℕ) → a ≤ p → p < b → Dec (p ≤ a) → min (f a) v ≤ f p
    each p x y (yes l) = let e : p ≡ a = omega arith in rw e (omega arith)
    each p x y (no l) = omega (arith, rest.most p (omega arith) y)

    go : Dec (f a ≤ v) → Smallest f a b (min (f a) v)
    go (yes l) = record { place = a; start = omega arith; end = h; here = omega arith; most = λ p x y. each p x y (dec_le p a) }
    go (no l) =
        let e : v ≡ min (f a) v = omega arith in
        record { place = rest.place; start = omega (arith, rest.start); end = rest.end; here = rest.here ∙ e; most = λ p x y. each p x y (dec_le p a) }

least_is : (f : ℕ → ℕ) (a n b : ℕ) → ((p : ℕ) → f p ≤ 10000) → 0 < n → b ≡ a + n → Smallest f a b (least 10000 (from a n f))
least_is f a zero b h k e = absurd (omega arith)
least_is f a (suc zero) b h k e =
    record {
      place = a;
      start = omega arith;
      end = omega arith;
      here = omega (arith, h a);
      most = λ p x y. (let q : p ≡ a = omega arith in rw q (omega arith));
    }
least_is f a (suc (suc n)) b h k e = lower f a b _ (omega arith) (least_is f (suc a) (suc n) b h (omega arith) (omega arith))

-- ---- the figure of the rows start .. end of a map of z

pub record Figured (z : Size) (map : List ℕ) (start end : ℕ) (f : Figure) : Type 0 where
  pub mean : f.mean ≡ round binary64 false (Σ ◌+◌ 0 (start * z.w) ((end - start) * z.w) (λ p. get_or map p 0)) (10000 * ((end - start) * z.w))
  pub low : ℕ
  pub smallest : Smallest (λ p. get_or map p 0) (start * z.w) (end * z.w) low
  pub least : f.least ≡ round binary64 false low 10000

module _ (map : List ℕ) (entry : (p : ℕ) → get_or map p 0 ≤ 10000) (a n b : ℕ) (inside : b ≤ length map) (some : 0 < n) (sum : b ≡ a + n) (few : n ≤ 262144) where
  mean_is : (figure_of (take n (drop a map))).mean ≡ round binary64 false (Σ ◌+◌ 0 a n (λ p. get_or map p 0)) (10000 * n)
  mean_is =
      rw (part_is map a n (omega arith), sum_is a n (λ p. get_or map p 0), from_length a n (λ p. get_or map p 0))
      (exact_quotient _ (10000 * n) (omega (arith, sum_le a n (λ p. get_or map p 0) entry)) (omega arith) (omega arith))

  low_is : Smallest (λ p. get_or map p 0) a b (least 10000 (from a n (λ p. get_or map p 0)))
  low_is = least_is (λ p. get_or map p 0) a n b entry some sum

  least_quotient : (figure_of (take n (drop a map))).least ≡ round binary64 false (least 10000 (from a n (λ p. get_or map p 0))) 10000
  least_quotient =
      let e = low_is.here in
      let m = entry low_is.place in
      rw (part_is map a n (omega arith)) (exact_quotient _ 10000 (omega arith) (omega arith) (omega arith))

-- a band that is not refused
figured_of : (z : Size) (map : List ℕ) (start end : ℕ) → refuse_band z map start end ≡ 0 → Figured z map start end (figure (described z) map start end)
unfolding figure
figured_of z map start end h =
    let none = (band_exact z map start end).free h in
    let size = size_good z none.0 in
    let whole = map_good z (length map) none.1.0 in
    let rows = band_good z start end none.1.1.0 in
    let entry = entries_good map none.1.1.1.0 in
    let a : ℕ = start * z.w in
    let n : ℕ = (end - start) * z.w in
    let b : ℕ = end * z.w in
    let c : end * z.w ≤ z.h * z.w = mul-le-mul_right z.w rows.1 in
    let m : 0 < (end - start) * z.w = mul-pos (let l : 0 < end - start = omega arith in l) size.across in
    let k : end * z.w ≡ (start + (end - start)) * z.w = ap (λ (i : ℕ). i * z.w) (let j : end ≡ start + (end - start) = omega arith in j) in
    record {
      mean = mean_is map entry a n b (omega arith) m (omega arith) (omega arith);
      low = _;
      smallest = low_is map entry a n b (omega arith) m (omega arith) (omega arith);
      least = least_quotient map entry a n b (omega arith) m (omega arith) (omega arith);
    }

pub figured : (z : Size) (map : List ℕ) (start end : ℕ) (r : Band) (f : Figure) → Bands z map start end r → r ≡ band.Figure f → Figured z map start end f
figured z map start end r f h e =
    let F : Figure = figure (described z) map start end in
    let q : figure_or (refuse_band z map start end) F ≡ band.Figure f = sym h.answer ∙ e in
    let free : refuse_band z map start end ≡ 0 = figure_free (refuse_band z map start end) F f q in
    let same : band.Figure F ≡ band.Figure f = rw free at q in
    let is : F ≡ f = cc in
    rw is at (figured_of z map start end free)
