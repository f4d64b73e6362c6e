-- THE COLUMNS: what a step does to the store of one block and to what comes out, and what all steps together take. Assumes nothing.
use mathlib.Core.Path.{◌≡◌, refl, sym, ◌∙◌}
use mathlib.Core.Bool.{cond}
use mathlib.Core.List.{List}
use mathlib.Core.Logic.{⊎_elim}
use Prim.Native.Nat.{ℕ, zero, suc, ◌+◌, ◌-◌, ◌*◌, ◌≤◌, ◌<◌, min, zero-le}
use native.Mathlib.Nat.{mul-zero, mul-one, mul-add}
use native.Mathlib.Omega.{arith}
use borrow.Author.Tests.{lt-ltb, le-ltb, eq-eqb, ne_eqb}
use lib.Dec.{ltb}
use Rattle.rules.specs.Window.{Plane}
use Rattle.rules.specs.Count.{lo, hi, crossing, tally, comparisons, samples}
use Rattle.rules.proofs.Count.{inner, inner_is, inner_none, inner_step, samples_length, tally_none, tally_suc, tally_cong, tally_zeros, tally_add, tally_split, tally_while}
use Rattle.windows.specs.Span.{span}
use Rattle.windows.specs.Blocks.{start, stop}
use Rattle.windows.specs.Line.{entry, Laid}
use Rattle.columns.specs.Down.{RowIs, least_of, cell, Open, Amid, Shut, Down, Folded, Given, Closed, Taken, Rested, joins, meets, folds, row_count, window_count, down_count}
use Rattle.windows.proofs.Spans.{span_one, span_more, span_split, span_cong, span_shift}
use Rattle.windows.proofs.Cuts.{lt_or_ge, start_le, lt_start, start_zero, start_same, start_start, start_next}
use Rattle.windows.proofs.Lines.{min_assoc, laid_at}
use Rattle.columns.proofs.Stores.{row_apart, row_kept}
use Rattle.windows.proofs.Crossings.{crossing_is}

-- before the first row nothing is known
pub down_start : (store ahead : List ℕ) (n s h : ℕ) (f : Plane ℕ) → Down store ahead n s h f 0
down_start store ahead n s h f =
    record {
      going = λ h.
          let z = start_zero (2 * s + 1) (omega arith) in
          record { fore = λ x a b. absurd (omega arith); rows = λ i x a b. absurd (omega arith); before = λ i a x b c d. absurd (omega arith) };
      shut = λ a b. absurd (omega arith);
    }

module _ (f : Plane ℕ) (n k v : ℕ) (some : 0 < k) where
  -- ---- row v comes
  module _ (row store ahead : List ℕ) (t : Open store ahead n k f v) (r : RowIs row f v n) where
    -- it is joined to its block
    pub joined : (ahead' : List ℕ) (j : ℕ) → j ≡ v - start k v → ((x : ℕ) → x < n → j ≡ 0 → entry ahead' x ≡ entry row x)
        → ((x : ℕ) → x < n → 0 < j → entry ahead' x ≡ min (entry ahead x) (entry row x)) → (x : ℕ) → x < n → entry ahead' x ≡ least_of f x (start k v) v
    joined ahead' j e one more x h =
        ⊎_elim
        (λ (o : start k v < v).
        let z : suc (v - 1) ≡ v = omega arith in
        let g : span min (λ u. f u x) (start k v) (suc (v - 1)) ≡ min (least_of f x (start k v) (v - 1)) (f (suc (v - 1)) x) =
        span_more min (λ u. f u x) (start k v) (v - 1) (omega arith)
        in
        more x h (omega arith) ∙ rw (t.fore x o h, r x h) (sym (rw z at g)))
        (λ (o : v ≤ start k v).
        let z : start k v ≡ v = omega (arith, start_le k some v) in
        one x h (omega arith) ∙ (r x h ∙ rw z (sym (span_one min (λ u. f u x) v))))
        (lt_or_ge (start k v) v)

    -- and stored
    pub stored : (store' ahead' : List ℕ) (j : ℕ) → j ≡ v - start k v → ((x : ℕ) → x < n → entry ahead' x ≡ least_of f x (start k v) v)
        → Laid (entry row) store store' (j * n) n → Amid store' ahead' n k f v
    stored store' ahead' j e a d =
        let low = start_le k some v in
        record {
          fore = a;
          rows = λ i x u h.
              ⊎_elim
              (λ (o : i < j). row_kept (entry row) store store' n j d i x (λ z. omega arith) h ∙ t.rows i x (omega arith) h)
              (λ (o : j ≤ i).
              let z : i ≡ j = omega arith in
              let y : start k v + j ≡ v = omega arith in
              rw (z, laid_at (entry row) store (j * n) store' n x d h, y) (r x h))
              (lt_or_ge i j);
          before = λ i u x ik b h.
              row_kept (entry row) store store' n j d i x (λ z. omega arith) h ∙ t.before i (omega arith) x ik b h;
        }

    -- and the least over the k rows up to it comes out
    pub given : (ahead' out : List ℕ) (j q : ℕ) → j ≡ v - start k v → ((x : ℕ) → x < n → entry ahead' x ≡ least_of f x (start k v) v) → Given store ahead' out v j k n q
        → (x : ℕ) → x < n → entry out x ≡ least_of f x (v + 1 - k) v
    given ahead' out j q e a g x h =
        let low = start_le k some v in
        let up = lt_start k some v in
        let same : entry out x ≡ entry ahead' x → v + 1 - k ≡ start k v → entry out x ≡ least_of f x (v + 1 - k) v = λ o z. o ∙ rw z (a x h) in
        ⊎_elim
        (λ (o : v < k).
        let z : start k v ≡ 0 = start_same k some 0 v (start_zero k some) zero-le (omega arith) in
        same ((g.few o).1 x h) (omega arith))
        (λ (o : k ≤ v).
        ⊎_elim
        (λ (p : j + 1 < k).
        let z : start k v + (j + 1) - k ≡ v + 1 - k = omega arith in
        let y : suc (start k v - 1) ≡ start k v = omega arith in
        let b = t.before (j + 1) (omega arith) x p (omega arith) h in
        let w = span_split min min_assoc (λ u. f u x) (v + 1 - k) (start k v - 1) v (omega arith) (omega arith) in
        (g.two o p).1 x h ∙ rw (rw z at b, a x h) (sym (rw y at w)))
        (λ (p : k ≤ j + 1). let z : j + 1 ≡ k = omega arith in same ((g.whole z).1 x h) (omega arith))
        (lt_or_ge (j + 1) k))
        (lt_or_ge v k)

  -- ---- its block
  module _ (store ahead : List ℕ) (t : Amid store ahead n k f v) where
    -- goes on
    pub goes_on : v - start k v + 1 < k → Open store ahead n k f (v + 1)
    goes_on l =
        let low = start_le k some v in
        let z : start k (v + 1) ≡ start k v = start_same k some (start k v) (v + 1) (start_start k some v) (omega arith) (omega arith) in
        let y : v + 1 - 1 ≡ v = omega arith in
        record {
          fore = λ x a h. rw (z, y) (t.fore x h);
          rows = λ i x a h. rw z (t.rows i x (omega arith) h);
          before = λ i a x ik b h. rw z (t.before i (omega arith) x ik (omega arith) h);
        }

    module _ (store' : List ℕ) (w : Folded store store' n 0 (v - start k v)) where
      -- is folded
      folded : (i x : ℕ) → start k v + i ≤ v → x < n → cell store' n i x ≡ least_of f x (start k v + i) v
      folded i x a h =
          let low = start_le k some v in
          let y : start k v + (v - start k v) ≡ v = omega arith in
          let g = span_shift min (λ u. f u x) (start k v) i (v - start k v) in
          w.is i x zero-le (omega arith) h
          ∙ (span_cong min (λ u. cell store n u x) (λ u. f (start k v + u) x) i (v - start k v) (omega arith) (λ u p q. t.rows u x (omega arith) h) ∙ rw y at g)

      -- and the next begins
      pub next_begins : v - start k v + 1 ≡ k → Open store' ahead n k f (v + 1)
      next_begins l =
          let low = start_le k some v in
          let u : v + 1 ≡ start k v + k = omega arith in
          let z : start k (v + 1) ≡ v + 1 = rw u (start_next k some (start k v) (start_start k some v)) in
          record {
            fore = λ x a h. absurd (omega arith);
            rows = λ i x a h. absurd (omega arith);
            before = λ i a x ik b h.
                let p : v + 1 + i - k ≡ start k v + i = omega arith in
                let q : v + 1 - 1 ≡ v = omega arith in
                rw (z, p, q) (folded i x (omega arith) h);
          }

      -- and was the last
      pub all_shut : Shut store' ahead n k f v
      all_shut =
          let low = start_le k some v in
          record {
            fore = t.fore;
            aft = folded;
            before = λ i a x ik b h. w.rest (i * n + x) (λ p q. omega (arith, row_apart n (v - start k v) i (omega arith))) ∙ t.before i a x ik b h;
          }

-- ---- what row v takes
module _ (k v j : ℕ) (some : 0 < k) (e : j ≡ v - start k v) where
  joins_is : min j 1 ≡ joins k v
  joins_is =
      ⊎_elim
      (λ (o : start k v < v). rw (lt-ltb (start k v) v o) (omega arith))
      (λ (o : v ≤ start k v). rw (le-ltb (start k v) v o) (omega arith))
      (lt_or_ge (start k v) v)

  meets_is : (store ahead out : List ℕ) (n q : ℕ) → Given store ahead out v j k n q → q ≡ n * meets k (v + 1 - k) v
  meets_is store ahead out n q g =
      let low = start_le k some v in
      let up = lt_start k some v in
      ⊎_elim
      (λ (o : v < k).
      let z : start k v ≡ 0 = start_same k some 0 v (start_zero k some) zero-le (omega arith) in
      rw (le-ltb (v + 1 - k) (start k v) (omega arith)) ((g.few o).0 ∙ sym (mul-zero n)))
      (λ (o : k ≤ v).
      ⊎_elim
      (λ (p : j + 1 < k). rw (lt-ltb (v + 1 - k) (start k v) (omega arith)) ((g.two o p).0 ∙ sym (mul-one n)))
      (λ (p : k ≤ j + 1). rw (le-ltb (v + 1 - k) (start k v) (omega arith)) ((g.whole (omega arith)).0 ∙ sym (mul-zero n)))
      (lt_or_ge (j + 1) k))
      (lt_or_ge v k)

  folds_is : (l m : List ℕ) (h n q : ℕ) → v < h → Closed l m v h j k n q → q ≡ n * folds k h v
  folds_is l m h n q vh w =
      let low = start_le k some v in
      let up = lt_start k some v in
      ⊎_elim
      (λ (o : j + 1 < k).
      ⊎_elim
      (λ (p : v + 1 < h). rw (ne_eqb v (stop k h v) (λ z. omega arith)) ((w.on o p).0 ∙ sym (mul-zero n)))
      (λ (p : h ≤ v + 1). rw (eq-eqb v (stop k h v) (omega arith)) (rw e at (w.last (omega arith)).0))
      (lt_or_ge (v + 1) h))
      (λ (o : k ≤ j + 1). rw (eq-eqb v (stop k h v) (omega arith)) (rw e at (w.full (omega arith)).0))
      (lt_or_ge (j + 1) k)

-- ---- a step with a row
module _ (row store ahead ahead' out mid store' : List ℕ) (v h n k j a b c : ℕ) (some : 0 < k) (vh : v < h) (e : j ≡ v - start k v)
    (one : (x : ℕ) → x < n → j ≡ 0 → entry ahead' x ≡ entry row x) (more : (x : ℕ) → x < n → 0 < j → entry ahead' x ≡ min (entry ahead x) (entry row x))
    (g : Given store ahead' out v j k n b) (d : Laid (entry row) store mid (j * n) n) (w : Closed mid store' v h j k n c) where
  fore_is : (f : Plane ℕ) → Open store ahead n k f v → RowIs row f v n → (x : ℕ) → x < n → entry ahead' x ≡ least_of f x (start k v) v
  fore_is f t r = joined f n k v some row store ahead t r ahead' j e one more

  amid : (f : Plane ℕ) → Open store ahead n k f v → RowIs row f v n → Amid mid ahead' n k f v
  amid f t r = stored f n k v some row store ahead t r mid ahead' j e (fore_is f t r) d

  pub taken : (r : ℕ) → r ≡ a + b + c → a ≡ n * min j 1 → Taken row store ahead store' ahead' out v h n k r
  taken r er ea =
      record {
        going = λ f t r l.
            ⊎_elim
            (λ (o : j + 1 < k). rw (w.on o l).1 (goes_on f n k v some mid ahead' (amid f t r) (omega arith)))
            (λ (o : k ≤ j + 1).
            let up = lt_start k some v in
            next_begins f n k v some mid ahead' (amid f t r) store' (rw e at (w.full (omega arith)).1) (omega arith))
            (lt_or_ge (j + 1) k);
        shut = λ f t r l. all_shut f n k v some mid ahead' (amid f t r) store' (rw e at (w.last l).1);
        mins = λ f t r. given f n k v some row store ahead t r ahead' out j b e (fore_is f t r) g;
        count =
            let p = mul-add n (joins k v) (meets k (v + 1 - k) v) in
            let q = mul-add n (joins k v + meets k (v + 1 - k) v) (folds k h v) in
            rw (er, q, p, ea, joins_is k v j some e, meets_is k v j some e store ahead' out n b g, folds_is k v j some e mid store' h n c vh w);
      }

-- ---- a step without one, where the window lies in two blocks
module _ (store ahead out : List ℕ) (a h n k : ℕ) (some : 0 < k) (ah : a < h) (ha : h ≤ a + k) where
  pub rest_two : (r : ℕ) → a < start k (h - 1) → r ≡ n → ((x : ℕ) → x < n → entry out x ≡ min (cell store n (a + k - start k (h - 1)) x) (entry ahead x))
      → Rested store ahead out a h n k r
  rest_two r l e o =
      let low = start_le k some (h - 1) in
      let z : start k (h - 1) + (a + k - start k (h - 1)) - k ≡ a = omega arith in
      let y : suc (start k (h - 1) - 1) ≡ start k (h - 1) = omega arith in
      record {
        mins = λ f t x u.
            let b = t.before (a + k - start k (h - 1)) (omega arith) x (omega arith) (omega arith) u in
            let w = span_split min min_assoc (λ v. f v x) a (start k (h - 1) - 1) (h - 1) (omega arith) (omega arith) in
            o x u ∙ rw (rw z at b, t.fore x u) (sym (rw y at w));
        count = rw (lt-ltb a (start k (h - 1)) l) (e ∙ sym (mul-one n));
      }

-- ---- any step
-- the window about row v - s
module _ (s h v b : ℕ) (some : 0 < h) (few : v < h + s) (e : b ≡ min v (h - 1)) where
  window_count_lem : window_count s h v ≡ meets (2 * s + 1) (v - 2 * s) b
  unfolding window_count
  window_count_lem =
      ⊎_elim
      (λ (o : v < s).
      let z : start (2 * s + 1) b ≡ 0 = start_same (2 * s + 1) (omega arith) 0 b (start_zero (2 * s + 1) (omega arith)) zero-le (omega arith) in
      rw (lt-ltb v s o, le-ltb (v - 2 * s) (start (2 * s + 1) b) (omega arith)))
      (λ (o : s ≤ v).
      let x : lo s (v - s) ≡ v - 2 * s = omega arith in
      let y : hi s h (v - s) ≡ b = omega arith in
      rw (le-ltb v s o, crossing_is s h (v - s), x, y))
      (lt_or_ge v s)

module _ (row store ahead store' ahead' out : List ℕ) (v h n s r : ℕ) (vh : v < h) (t : Taken row store ahead store' ahead' out v h n (2 * s + 1) r) where
  pub take_count : r ≡ n * down_count s h v
  unfolding down_count row_count
  take_count =
      let z : v + 1 - (2 * s + 1) ≡ v - 2 * s = omega arith in
      let w = window_count_lem s h v v (omega arith) (omega arith) (omega arith) in
      let k : ℕ = 2 * s + 1 in
      let same : joins k v + meets k (v - 2 * s) v + folds k h v ≡ joins k v + folds k h v + window_count s h v = omega arith in
      rw (lt-ltb v h vh, sym same) (rw z at t.count)

module _ (store ahead out : List ℕ) (v h n s r : ℕ) (some : 0 < h) (few : v < h + s) (hv : h ≤ v) (t : Rested store ahead out (v - 2 * s) h n (2 * s + 1) r) where
  pub rest_count : r ≡ n * down_count s h v
  unfolding down_count
  rest_count =
      let same : 0 + window_count s h v ≡ meets (2 * s + 1) (v - 2 * s) (h - 1) = omega (arith, window_count_lem s h v (h - 1) some few (omega arith)) in
      rw (le-ltb v h hv, same) t.count

-- ---- all steps together
-- a whole block, with j its last row's place: t and t' before and after that row, x and y what the block and those after it, and those after it, take
block_sum : (t t' r x y z j m k d : ℕ) → t + x ≡ z + (j - 1) → j + 1 ≡ k → x ≡ 2 * (m - 1) + y → m ≡ k → t' ≡ t + r → r ≡ min j 1 + j → d ≡ 0 → t' + y ≡ z + d
block_sum t t' r x y z j m k d a b c w e f g = omega arith

module _ (k h : ℕ) (some : 0 < k) where
  -- a row within its block, and the last of it
  row_on : (v : ℕ) → v < stop k h v → row_count k h v ≡ min (v - start k v) 1
  unfolding row_count
  row_on v l = rw (ne_eqb v (stop k h v) (λ z. omega arith)) (omega (arith, joins_is k v (v - start k v) some refl))

  row_last : (v : ℕ) → v ≡ stop k h v → row_count k h v ≡ min (v - start k v) 1 + (v - start k v)
  unfolding row_count
  row_last v e = rw (eq-eqb v (stop k h v) e) (omega (arith, joins_is k v (v - start k v) some refl))

  nothing : (v : ℕ) → suc v - suc v - 1 ≡ 0
  nothing v = omega arith

  -- a whole block's last row
  row_full : (v : ℕ) → start k v ≤ v → suc v ≡ start k v + k → v < h → (v ≡ stop k h v) × (v - start k v + 1 ≡ k) × (min k (h - start k v) ≡ k)
  row_full v low e l = (omega arith, omega arith, omega arith)

  -- the blocks before row v are counted, and of its own what has come is joined
  rows_to : (v : ℕ) → v < h → tally (row_count k h) v + inner k (h - start k v) ≡ inner k h + (v - start k v - 1)
  rows_to zero l =
      let z = start_zero k some in
      let y : h - start k 0 ≡ h = omega arith in
      rw y (omega (arith, tally_none (row_count k h)))
  rows_to (suc v) l =
      let t = rows_to v (omega arith) in
      let low = start_le k some v in
      let up = lt_start k some v in
      let more = tally_suc (row_count k h) v in
      ⊎_elim
      (λ (o : v + 1 < start k v + k).
      let z : start k (suc v) ≡ start k v = start_same k some (start k v) (suc v) (start_start k some v) (omega arith) (omega arith) in
      rw z (omega (arith, row_on v (omega arith))))
      (λ (o : start k v + k ≤ v + 1).
      let u : suc v ≡ start k v + k = omega arith in
      let z : start k (suc v) ≡ suc v = rw u (start_next k some (start k v) (start_start k some v)) in
      let full = row_full v low u (omega arith) in
      let y : h - start k v - k ≡ h - suc v = omega arith in
      let i = rw y at (inner_step k (h - start k v) some (omega arith)) in
      rw z (block_sum _ _ _ _ _ _ (v - start k v) (min k (h - start k v)) k _ t full.1 i full.2 more (row_last v full.0) (nothing v)))
      (lt_or_ge (v + 1) (start k v + k))

  -- and the last row of all
  row_end : (v : ℕ) → start k v ≤ v → v < start k v + k → suc v ≡ h
      → (v ≡ stop k h v) × (v - start k v + 1 ≡ h - start k v) × (min k (h - start k v) ≡ h - start k v) × (h - start k v - k ≡ 0) × (0 < h - start k v)
  row_end v low up e = (omega arith, omega arith, omega arith, omega arith, omega arith)

  rows_total : (v : ℕ) → suc v ≡ h → tally (row_count k h) (suc v) ≡ inner k h
  rows_total v e =
      let end = row_end v (start_le k some v) (lt_start k some v) e in
      let i = rw (end.3, inner_none k) at (inner_step k (h - start k v) some end.4) in
      let sum : tally (row_count k h) (suc v) + 0 ≡ inner k h + 0 =
      block_sum _ _ _ _ _ _ (v - start k v) _ _ _ (rows_to v (omega arith)) end.1 i end.2 (tally_suc (row_count k h) v) (row_last v end.0) refl
      in
      omega arith

module _ (s h : ℕ) where
  -- the rows come in the first h steps
  rows_all : 0 < h → tally (λ v. cond (ltb v h) (row_count (2 * s + 1) h v) 0) (h + s) ≡ inner (2 * s + 1) h
  rows_all l =
      let z : suc (h - 1) ≡ h = omega arith in
      tally_while (row_count (2 * s + 1) h) h s ∙ rw z at (rows_total (2 * s + 1) h (omega arith) (h - 1) z)

  -- the windows come out in the last h
  windows_all : tally (window_count s h) (h + s) ≡ tally (crossing s h) h
  unfolding window_count
  windows_all =
      let z : h + s ≡ s + h = omega arith in
      let none : tally (window_count s h) s ≡ 0 = tally_zeros (window_count s h) s (λ i u. rw (lt-ltb i s u)) in
      let all : tally (λ i. window_count s h (s + i)) h ≡ tally (crossing s h) h =
      tally_cong (λ i. window_count s h (s + i)) (crossing s h) h (λ i u. let y : s + i - s ≡ i = omega arith in rw (le-ltb (s + i) s (omega arith), y))
      in
      rw z (omega (arith, tally_split (window_count s h) s h))

  -- the count of all steps is that of a line of h samples
  pub down_total : 0 < h → tally (down_count s h) (h + s) ≡ comparisons s (samples h)
  unfolding down_count comparisons
  down_total l =
      tally_add (λ v. cond (ltb v h) (row_count (2 * s + 1) h v) 0) (window_count s h) (h + s)
      ∙ rw (rows_all l, windows_all, inner_is (2 * s + 1) (samples h), samples_length h)
