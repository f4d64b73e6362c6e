-- The counts of the levels, and the candidates by their cutoff. Assumes nothing.
use mathlib.Core.Path.{◌≡◌, refl, sym, ap, ap₂, subst, ◌∙◌}
use mathlib.Core.Bool.{Bool, true, false, cond, ◌&&◌, ◌||◌}
use mathlib.Core.List.{List}
use Prim.Native.Nat.{ℕ, zero, suc, ◌+◌, ◌-◌, ◌*◌, ◌%◌, ◌≤◌, ◌<◌}
use native.Mathlib.Decide.{dec_lt}
use native.Mathlib.Nat.{add-zero}
use native.Mathlib.Numerals.{add-one}
use native.Mathlib.Omega.{arith}
use borrow.Author.Tests.{eqb-true, le-leb, lt-leb, eq-eqb, ne_eqb}
use lib.Dec.{ltb, leb, eqb}
use lib.ListN.{length, get_or, set, drop_of_length-le}
use lib.Seq.{get_or-set_same, get_or-set_other, drop-cons}
use Rattle.std.proofs.lemmas.Grind.{common_steps}
use Rattle.rules.specs.Window.{total}
use Rattle.rules.specs.Light.{count, rank}
use Rattle.rules.proofs.Rank.{count_or, above, reaching, earlier, by_cutoff}
use Rattle.light.specs.declared.Cut.{Cut}
use Rattle.light.specs.Steps.{upto, hits, Starts, Tallied, Below, lane, joined, at_least, CutAt, admitted}
use Rattle.light.proofs.Positions.{count_cong, count_none, all_upto, hits_more, hits_le, count_before}

-- one position more is counted
pub tallied_more : (d : ℕ → ℕ) (m n : ℕ) (l : List ℕ) (x : ℕ) → x < length l → x ≡ d n → Starts (hits d n) m l → Starts (hits d (n + 1)) m (set l x (get_or l x 0 + 1))
tallied_more d m n l x b f h v s = go (dec_lt v x) (dec_lt x v)
  where
    other : (v ≡ x → ⊥) → get_or (set l x (get_or l x 0 + 1)) v 0 ≡ hits d (n + 1) v
    other g =
        let z : eqb v (d n) ≡ false = ne_eqb v (d n) (λ k. g (k ∙ sym f)) in
        get_or-set_other l x v _ 0 g ∙ h v s ∙ sym (hits_more d n v ∙ rw z (add-zero (hits d n v)))

    go : Dec (v < x) → Dec (x < v) → get_or (set l x (get_or l x 0 + 1)) v 0 ≡ hits d (n + 1) v
    go (yes g) k = other (λ z. omega arith)
    go (no g) (yes k) = other (λ z. omega arith)
    go (no g) (no k) =
        let z : x ≡ v = omega arith in
        let y : eqb v (d n) ≡ true = eq-eqb v (d n) (sym z ∙ f) in
        rw z (get_or-set_same l v (get_or l v 0 + 1) 0 (omega arith) ∙ ap (λ (i : ℕ). i + 1) (h v s) ∙ sym (hits_more d n v ∙ rw y))

-- and no count is above how many are counted
pub below_more : (n : ℕ) (l : List ℕ) (x : ℕ) → x < length l → x < 1028 → Below n l → Below (n + 1) (set l x (get_or l x 0 + 1))
below_more n l x b s h v q = grind (arith, common_steps, h v q, h x s)

pub hits_below : (d : ℕ → ℕ) (n : ℕ) (l : List ℕ) → Starts (hits d n) 1028 l → Below n l
hits_below d n l h v q = omega (arith, h v q, hits_le d n v)

-- ---- the four lanes of a value

lane_eqb : (v x j r : ℕ) → j < 4 → r < 4 → eqb (4 * v + j) (4 * x + r) ≡ (eqb v x && eqb j r)
lane_eqb v x j r hj hr = go (dec_lt v x) (dec_lt x v) (dec_lt j r) (dec_lt r j)
  where
    go : Dec (v < x) → Dec (x < v) → Dec (j < r) → Dec (r < j) → eqb (4 * v + j) (4 * x + r) ≡ (eqb v x && eqb j r)
    go (yes a) b f g = rw (ne_eqb v x (λ e. omega arith), ne_eqb (4 * v + j) (4 * x + r) (λ e. omega arith))
    go (no a) (yes b) f g = rw (ne_eqb v x (λ e. omega arith), ne_eqb (4 * v + j) (4 * x + r) (λ e. omega arith))
    go (no a) (no b) (yes f) g = rw (eq-eqb v x (omega arith), ne_eqb j r (λ e. omega arith), ne_eqb (4 * v + j) (4 * x + r) (λ e. omega arith))
    go (no a) (no b) (no f) (yes g) = rw (eq-eqb v x (omega arith), ne_eqb j r (λ e. omega arith), ne_eqb (4 * v + j) (4 * x + r) (λ e. omega arith))
    go (no a) (no b) (no f) (no g) = rw (eq-eqb v x (omega arith), eq-eqb j r (omega arith), eq-eqb (4 * v + j) (4 * x + r) (omega arith))

-- a position hits one lane of the four
one_lane : (b : Bool) (r : ℕ) → r < 4 → cond b 1 0 ≡ cond (b && eqb 0 r) 1 0 + cond (b && eqb 1 r) 1 0 + cond (b && eqb 2 r) 1 0 + cond (b && eqb 3 r) 1 0
one_lane false r h = refl
one_lane true zero h = refl
one_lane true (suc zero) h = refl
one_lane true (suc (suc zero)) h = refl
one_lane true (suc (suc (suc zero))) h = refl
one_lane true (suc (suc (suc (suc r)))) h = absurd (omega arith)

lane_more : (d : ℕ → ℕ) (n v j : ℕ) → j < 4 → hits (lane d) (n + 1) (4 * v + j) ≡ hits (lane d) n (4 * v + j) + cond (eqb v (d n) && eqb j (n % 4)) 1 0
lane_more d n v j h = hits_more (lane d) n (4 * v + j) ∙ rw (lane_eqb v (d n) j (n % 4) h (omega arith))

-- and so its value is hit as often as the four together
abbrev Lanes : (ℕ → ℕ) → ℕ → ℕ → Type 0
Lanes d v n = hits d n v ≡ hits (lane d) n (4 * v) + hits (lane d) n (4 * v + 1) + hits (lane d) n (4 * v + 2) + hits (lane d) n (4 * v + 3)

lanes : (d : ℕ → ℕ) (v n : ℕ) → Lanes d v n
lanes d v zero = refl
lanes d v (suc n) =
    let before = lanes d v n in
    let none : 4 * v + 0 ≡ 4 * v = omega arith in
    let first = rw none at (lane_more d n v 0 (omega arith)) in
    let one = one_lane (eqb v (d n)) (n % 4) (omega arith) in
    let after : Lanes d v (n + 1) =
    omega (arith, hits_more d n v, lane_more d n v 1 (omega arith), lane_more d n v 2 (omega arith), lane_more d n v 3 (omega arith))
    in
    subst (Lanes d v) (add-one n) after

pub tallied_joined : (d : ℕ → ℕ) (n : ℕ) (l k : List ℕ) → Starts (hits (lane d) n) 1028 l → Starts (joined l) 257 k → Tallied d n k
tallied_joined d n l k a b v h =
    omega (arith, b v h, lanes d v n, a (4 * v) (omega arith), a (4 * v + 1) (omega arith), a (4 * v + 2) (omega arith), a (4 * v + 3) (omega arith))

-- ---- how many are at least a value

pub at_least_last : (l : List ℕ) (v : ℕ) → length l ≡ v → at_least l v ≡ 0
unfolding at_least
at_least_last l v e = ap (total (λ (i : ℕ). i)) (drop_of_length-le l {i = v} (omega arith))

pub at_least_more : (l : List ℕ) (v : ℕ) → v < length l → at_least l v ≡ get_or l v 0 + at_least l (v + 1)
unfolding at_least
at_least_more l v h = rw (add-one v) (ap (total (λ (i : ℕ). i)) (drop-cons l v 0 h))

at_or_above : (v x : ℕ) → (eqb v x || ltb v x) ≡ leb v x
at_or_above v x = go (dec_lt v x) (dec_lt x v)
  where
    go : Dec (v < x) → Dec (x < v) → (eqb v x || ltb v x) ≡ leb v x
    go (yes g) k = rw (ne_eqb v x (λ z. omega arith), le-leb (suc v) x g, le-leb v x (omega arith))
    go (no g) (yes k) = rw (ne_eqb v x (λ z. omega arith), lt-leb (suc v) x (omega arith), lt-leb v x k)
    go (no g) (no k) = rw (eq-eqb v x (omega arith), le-leb v x (omega arith))

module _ (d : ℕ → ℕ) (n : ℕ) (l : List ℕ) (e : length l ≡ 257) (small : (o : ℕ) → o < n → d o ≤ 256) (t : Tallied d n l) where
  at_least_from : (k v : ℕ) → v + k ≡ 257 → at_least l v ≡ count (λ o. leb v (d o)) (upto n)
  at_least_from zero v f =
      let g : v ≡ 257 = omega arith in
      rw g
      (at_least_last l 257 e
      ∙ sym (count_cong (λ o. leb 257 (d o)) (λ o. false) 0 n (λ o a b. lt-leb 257 (d o) (omega (arith, small o (omega arith)))) ∙ count_none (upto n)))
  at_least_from (suc k) v f =
      at_least_more l v (omega arith)
      ∙ ap₂ ◌+◌ (t v (omega arith)) (ap (at_least l) (add-one v) ∙ at_least_from k (suc v) (omega arith))
      ∙ sym (count_or (λ o. eqb v (d o)) (λ o. ltb v (d o)) (upto n) (λ o g. lt-leb (suc v) (d o) (omega (arith, eqb-true v (d o) g))))
      ∙ count_cong (λ o. eqb v (d o) || ltb v (d o)) (λ o. leb v (d o)) 0 n (λ o a b. at_or_above v (d o))

  pub at_least_is : (v : ℕ) → v ≤ 257 → at_least l v ≡ count (λ o. leb v (d o)) (upto n)
  at_least_is v h = at_least_from (257 - v) v (omega arith)

  pub at_least_all : at_least l 0 ≡ n
  at_least_all =
      at_least_is 0 (omega arith)
      ∙ count_cong (λ o. leb 0 (d o)) (λ o. true) 0 n (λ o a b. le-leb 0 (d o) (omega arith))
      ∙ all_upto n

  -- the positions that the cutoff of the counts lets in are the first m by rank
  pub by_counts : (m : ℕ) (c : Cut) → CutAt l m c → (p : ℕ) → p < n → ltb (rank (upto n) d p) m ≡ admitted d c p
  unfolding above reaching earlier
  by_counts m c k p h =
      let v : ℕ = c.value in
      let over : above (upto n) d v ≡ at_least l (v + 1) =
      sym (at_least_is (v + 1) (omega (arith, k.small)) ∙ ap (λ (i : ℕ). count (λ o. leb i (d o)) (upto n)) (add-one v))
      in
      let reached : reaching (upto n) d v ≡ at_least l v = sym (at_least_is v (omega (arith, k.small))) in
      let early : earlier (upto n) d v p ≡ hits d p v = count_before (λ o. eqb v (d o)) n p (omega arith) in
      by_cutoff (upto n) d v m (omega (arith, over, k.low)) (omega (arith, reached, k.high)) p
      ∙ (λ i. ltb v (d p) || (eqb v (d p) && ltb (early i) (m - over i)))
      ∙ ap (λ (i : ℕ). ltb v (d p) || (eqb v (d p) && ltb (hits d p v) i)) (sym k.ties)
