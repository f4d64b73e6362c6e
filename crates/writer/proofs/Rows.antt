-- A rectangle that is written row after row, up to the whole list. Assumes nothing.
use mathlib.Core.Path.{◌≡◌, refl, sym, ap, ◌∙◌}
use mathlib.Core.Bool.{Bool, true, false, cond, true≢false}
use mathlib.Core.List.{List}
use Prim.Native.Nat.{ℕ, ◌+◌, ◌*◌, ◌/◌, ◌%◌, ◌≤◌, ◌<◌}
use native.Mathlib.Decide.{dec_lt}
use native.Mathlib.Nat.{div-add-mod', div-eq_of_lt-le}
use native.Mathlib.Omega.{arith}
use lib.ListN.{length, get_or, take, drop}
use Rattle.rules.specs.Shape.{Shape}
use Rattle.rules.specs.declared.Rgb.{Rgb}
use Rattle.rules.specs.declared.Rect.{Rect}
use Rattle.rules.specs.Window.{Plane}
use Rattle.rules.specs.Light.{at}
use Rattle.rules.specs.Buffers.{pixels, channel, byte_at, bytes, values, entries, near, patch}
use Rattle.rules.proofs.Buffers.{entries_of, bytes_of, byte, bytes_pixels}
use Rattle.rules.proofs.Near.{Near, near_yes, near_facts, same_test}
use Rattle.writer.specs.Run.{Run}
use Rattle.writer.proofs.Parts.{back, Upto, Adds, upto_none, upto_more}

-- ---- the first j rows of a rectangle

abbrev pub rows : Rect → ℕ → Rect
rows o j = record { x = o.x; y = o.y; w = o.w; h = j }

-- a test by position: of an entry, and of a byte
abbrev pub entry_in : ℕ → Rect → ℕ → Bool
entry_in width o p = near 0 o (p / width) (p % width)

abbrev pub byte_in : ℕ → Rect → ℕ → Bool
byte_in width o q = entry_in width o (q / 3)

no_rows : (o : Rect) (v u : ℕ) → near 0 (rows o 0) v u ≡ false
no_rows o v u =
    same_test (near 0 (rows o 0) v u) false
    (λ e. let n : Near 0 (rows o 0) v u = near_facts 0 (rows o 0) v u e in absurd (omega arith))
    (λ e. absurd (true≢false (sym e)))

module _ (width : ℕ) (o : Rect) (wide : 0 < width) (fits : o.x + o.w ≤ width) (j : ℕ) where
  -- where the row j starts
  abbrev start : ℕ
  start = (o.y + j) * width + o.x

  module _ (p : ℕ) where
    parts : p / width * width + p % width ≡ p
    parts = div-add-mod' p width

    in_row : start ≤ p → p < start + o.w → entry_in width (rows o (j + 1)) p ≡ true
    in_row l h =
        let q : p / width ≡ o.y + j = div-eq_of_lt-le width {m = p} (omega arith) (omega arith) in
        let e : p / width * width ≡ (o.y + j) * width = ap (λ (m : ℕ). m * width) q in
        near_yes 0 (rows o (j + 1)) (p / width) (p % width)
        (record { top = omega arith; bottom = omega arith; left = omega (arith, parts); right = omega (arith, parts) })

    off_row : (start ≤ p → p < start + o.w → ⊥) → entry_in width (rows o (j + 1)) p ≡ entry_in width (rows o j) p
    off_row out =
        same_test (entry_in width (rows o (j + 1)) p) (entry_in width (rows o j) p)
        (λ e.
        let n : Near 0 (rows o (j + 1)) (p / width) (p % width) = near_facts 0 (rows o (j + 1)) (p / width) (p % width) e in
        near_yes 0 (rows o j) (p / width) (p % width) (record { top = n.top; bottom = above n (dec_lt (p / width) (o.y + j)); left = n.left; right = n.right }))
        (λ e.
        let n : Near 0 (rows o j) (p / width) (p % width) = near_facts 0 (rows o j) (p / width) (p % width) e in
        near_yes 0 (rows o (j + 1)) (p / width) (p % width) (record { top = n.top; bottom = omega (arith, n.bottom); left = n.left; right = n.right }))
      where
        above : Near 0 (rows o (j + 1)) (p / width) (p % width) → Dec (p / width < o.y + j) → p / width < o.y + j + 0
        above n (yes l) = omega arith
        above n (no g) =
            let q : p / width ≡ o.y + j = omega arith in
            let e : p / width * width ≡ (o.y + j) * width = ap (λ (m : ℕ). m * width) q in
            absurd (out (omega (arith, parts)) (omega (arith, parts)))

  adds : Adds (entry_in width (rows o j)) (entry_in width (rows o (j + 1))) start o.w
  adds = record { here = in_row; else = off_row }

  adds3 : Adds (byte_in width (rows o j)) (byte_in width (rows o (j + 1))) (3 * start) (3 * o.w)
  adds3 = record {
    here = λ q l h. in_row (q / 3) (omega arith) (omega arith);
    else = λ q out. off_row (q / 3) (λ l h. out (omega arith) (omega arith));
  }

  -- the row j, written through the part of k entries, or bytes, that starts where it starts
  module _ (F : ℕ → ℕ) (old xs ys : List ℕ) (a k : ℕ) where
    pub entries_more : Upto F (entry_in width (rows o j)) old xs → a ≡ start → Run F a o.w (take k (drop a xs)) ys → a + k ≤ length xs → o.w ≤ k
        → Upto F (entry_in width (rows o (j + 1))) old (back xs a k ys)
    entries_more u e r within fit = upto_more F _ _ old xs ys a k o.w u r within fit (rw e adds)

    pub bytes_more : Upto F (byte_in width (rows o j)) old xs → a ≡ 3 * start → Run F a (3 * o.w) (take k (drop a xs)) ys → a + k ≤ length xs → 3 * o.w ≤ k
        → Upto F (byte_in width (rows o (j + 1))) old (back xs a k ys)
    bytes_more u e r within fit = upto_more F _ _ old xs ys a k (3 * o.w) u r within fit (rw e adds3)

-- no row yet
module _ (width : ℕ) (o : Rect) (F : ℕ → ℕ) (old : List ℕ) where
  pub entries_none : Upto F (entry_in width (rows o 0)) old old
  entries_none = upto_none F _ old (λ p. no_rows o (p / width) (p % width))

  pub bytes_none : Upto F (byte_in width (rows o 0)) old old
  bytes_none = upto_none F _ old (λ q. no_rows o (q / 3 / width) (q / 3 % width))

-- ---- all rows: the whole list

module _ (z : Shape) (o : Rect) where
  pub upto_entries : (new : Plane ℕ) (old xs : List ℕ) → length old ≡ z.w * z.h → Upto (at z new) (entry_in z.w o) old xs
      → xs ≡ entries z (patch (near 0 o) new (values z old))
  unfolding patch values
  upto_entries new old xs n u =
      entries_of z (patch (near 0 o) new (values z old)) xs (u.same ∙ n) (λ p h. u.at p (omega arith) ∙ rw (div-add-mod' p z.w))

  old_byte : (old : List ℕ) → length old ≡ 3 * (z.w * z.h) → (q : ℕ) → q < 3 * (z.w * z.h) → get_or old q 0 ≡ byte_at z (pixels z old) q
  old_byte old n q h =
      ap (λ (l : List ℕ). get_or l q 0) (bytes_pixels z old n)
      ∙ ap (λ (i : ℕ). get_or (bytes z (pixels z old)) i 0) (let e : q ≡ 3 * (q / 3) + q % 3 = omega arith in e)
      ∙ byte z (pixels z old) (q / 3) (q % 3) (omega arith) (omega arith)

  choose : (b : Bool) (c : ℕ) (i j : Rgb) → cond b (channel c i) (channel c j) ≡ channel c (cond b i j)
  choose true c i j = refl
  choose false c i j = refl

  pub upto_bytes : (new : Plane Rgb) (old xs : List ℕ) → length old ≡ 3 * (z.w * z.h) → Upto (byte_at z new) (byte_in z.w o) old xs
      → xs ≡ bytes z (patch (near 0 o) new (pixels z old))
  unfolding patch
  upto_bytes new old xs n u =
      bytes_of z (patch (near 0 o) new (pixels z old)) xs (u.same ∙ n)
      (λ q h.
      let b = byte_in z.w o q in
      u.at q (omega arith)
      ∙ ap (λ (i : ℕ). cond b (byte_at z new q) i) (old_byte old n q h)
      ∙ choose b (q % 3) (at z new (q / 3)) (at z (pixels z old) (q / 3)))
