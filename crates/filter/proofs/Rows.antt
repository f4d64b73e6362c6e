-- A row of lines, pixel by pixel: the line of one pixel, what is read of a row of sums, and what one line more leaves. Assumes nothing.
use mathlib.Core.Path.{◌≡◌, ap, ap₂, ◌∙◌}
use mathlib.Core.Bool.{true}
use mathlib.Core.List.{List}
use Prim.Native.Nat.{ℕ, ◌+◌, ◌≤◌, ◌<◌}
use native.Mathlib.Decide.{dec_lt}
use native.Mathlib.Omega.{arith}
use borrow.Author.Tests.{eq-eqb, ne_eqb}
use lib.ListN.{length, get_or, set, length-set}
use lib.Seq.{get_or-set_same, get_or-set_other}
use lib.IntN.{ℤ, pos, nat_abs}
use Rattle.rules.specs.Transmission.{Line, offset_of}
use Rattle.rules.proofs.Integers.{rd, rd_is}
use Rattle.planes.specs.Stage.{seen_at}
use Rattle.filter.specs.Row.{guides, coarses, WordMoments, word_slope, word_line, word, RowIn, flat_line, row_line, RowLines}

-- ---- the lines before pixel i, and of pixel i

module _ (l m : List ℤ) (s o n i : ℕ) (F : ℕ → Line) (apart : s + n ≤ o) (room : o + n ≤ length m) (less : i < n) (r : RowLines l m s o i F) where
  abbrev new : List ℤ
  new = set (set m (s + i) (F i).a) (o + i) (F i).b

  -- of another place than these two
  other : (k : ℕ) → (k ≡ s + i → ⊥) → (k ≡ o + i → ⊥) → get_or new k (pos 0) ≡ get_or m k (pos 0)
  other k p q = get_or-set_other (set m (s + i) (F i).a) (o + i) k (F i).b (pos 0) q ∙ get_or-set_other m (s + i) k (F i).a (pos 0) p

  -- one more
  row_more : nat_abs (F i).a ≤ 2560000 → nat_abs (F i).b ≤ 2147483648 → RowLines l new s o (i + 1) F
  row_more a_le b_le = record {
    a = λ j h. slope j (dec_lt j i) h;
    b = λ j h. offset j (dec_lt j i) h;
    a_le = λ j h. a_small j (dec_lt j i) h;
    b_le = λ j h. b_small j (dec_lt j i) h;
    rest = λ k p q. other k (λ e. p (omega arith) (omega arith)) (λ e. q (omega arith) (omega arith)) ∙ r.rest k (λ c d. p c (omega arith)) (λ c d. q c (omega arith));
  }
    where
      slope : (j : ℕ) → Dec (j < i) → j < i + 1 → get_or new (s + j) (pos 0) ≡ (F j).a
      slope j (yes h) k = other (s + j) (λ e. omega arith) (λ e. omega arith) ∙ r.a j h
      slope j (no h) k =
          let e : j ≡ i = omega arith in
          rw e (get_or-set_other (set m (s + i) (F i).a) (o + i) (s + i) (F i).b (pos 0) (λ e. omega arith) ∙ get_or-set_same m (s + i) (F i).a (pos 0) (omega arith))

      offset : (j : ℕ) → Dec (j < i) → j < i + 1 → get_or new (o + j) (pos 0) ≡ (F j).b
      offset j (yes h) k = other (o + j) (λ e. omega arith) (λ e. omega arith) ∙ r.b j h
      offset j (no h) k =
          let e : j ≡ i = omega arith in
          rw e (get_or-set_same (set m (s + i) (F i).a) (o + i) (F i).b (pos 0) (omega (arith, length-set m (s + i) (F i).a)))

      a_small : (j : ℕ) → Dec (j < i) → j < i + 1 → nat_abs (F j).a ≤ 2560000
      a_small j (yes h) k = r.a_le j h
      a_small j (no h) k = let e : j ≡ i = omega arith in rw e a_le

      b_small : (j : ℕ) → Dec (j < i) → j < i + 1 → nat_abs (F j).b ≤ 2147483648
      b_small j (yes h) k = r.b_le j h
      b_small j (no h) k = let e : j ≡ i = omega arith in rw e b_le

  -- the line L has been stored
  pub row_turn : (m' : List ℤ) (L : Line) → F i ≡ L → m' ≡ set (set m (s + i) L.a) (o + i) L.b → (nat_abs L.a ≤ 2560000) × (nat_abs L.b ≤ 2147483648)
      → RowLines l m' s o (i + 1) F
  row_turn m' L is e small = rw (e, ← is) (row_more (rw is small.0) (rw is small.1))

-- ---- the line of one pixel, from what `slope` and `offset` answer

module _ (n u v e : ℕ) {a b : ℤ} (a_is : a ≡ word_slope n u v e) (a_le : nat_abs a ≤ 2560000) (b_is : b ≡ offset_of n (guides u) (coarses v) (rd a)) (b_le : nat_abs b ≤ 2147483648) where
  slope_is : rd a ≡ (word_line n u v e).a
  slope_is = rd_is a (omega arith) ∙ a_is

  offset_is : b ≡ (word_line n u v e).b
  offset_is = b_is ∙ ap (offset_of n (guides u) (coarses v)) slope_is

  -- it is stored
  pub pixel_set : (l m : List ℤ) (s o : ℕ) → m ≡ set (set l s (rd a)) o (rd b) → m ≡ set (set l s (word_line n u v e).a) o (word_line n u v e).b
  pixel_set l m s o h = h ∙ ap₂ (λ (i j : ℤ). set (set l s i) o j) slope_is (rd_is b (omega arith) ∙ offset_is)

  -- and small
  pub pixel_small : (nat_abs (word_line n u v e).a ≤ 2560000) × (nat_abs (word_line n u v e).b ≤ 2147483648)
  pixel_small = (rw a_is at a_le, rw offset_is at b_le)

-- ---- what is read of the sums at pixel i, and the line that it gives

-- none of a hidden pixel
pub hidden_line : (us vs : List ℤ) (ns : List ℕ) (e : ℕ) (mask : List ℕ) (at i : ℕ) → get_or mask (at + i) 0 ≡ 0 → row_line us vs ns e mask at i ≡ flat_line
hidden_line us vs ns e mask at i zero = rw (eq-eqb (get_or mask (at + i) 0) 0 zero)

module _ {l us vs : List ℤ} {ns inverses mask : List ℕ} {s o n at : ℕ} (p : RowIn l s o n us vs ns inverses mask at) (i : ℕ) (h : i < n) (shown : get_or mask (at + i) 0 ≡ 0 → ⊥) where
  seen : seen_at mask (at + i) ≡ true
  seen = rw (ne_eqb (get_or mask (at + i) 0) 0 shown)

  known : WordMoments (get_or ns i 0) (word us i) (word vs i)
  known = p.moments i h seen

  -- both words fit, and are read back as they are
  u_back : rd (get_or us i (pos 0)) ≡ get_or us i (pos 0)
  u_back = rd_is (get_or us i (pos 0)) (omega (arith, known.gt, known.few))

  v_back : rd (get_or vs i (pos 0)) ≡ get_or vs i (pos 0)
  v_back = rd_is (get_or vs i (pos 0)) (omega (arith, known.gg, known.few))

  -- so what the pixel's fit asks for holds of the words as they are read, and its line is theirs
  pub read_moments : WordMoments (get_or ns i 0) (nat_abs (rd (get_or us i (pos 0)))) (nat_abs (rd (get_or vs i (pos 0))))
  read_moments = rw (u_back, v_back) known

  pub read_line : (e : ℕ) → row_line us vs ns e mask at i ≡ word_line (get_or ns i 0) (nat_abs (rd (get_or us i (pos 0)))) (nat_abs (rd (get_or vs i (pos 0)))) e
  read_line e = rw (u_back, v_back, seen)
