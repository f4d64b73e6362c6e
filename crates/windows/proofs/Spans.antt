-- Laws of spans. The splits ask that the operation is associative and nothing else. Assumes nothing.
use mathlib.Core.Path.{◌≡◌, refl}
use Prim.Native.Nat.{ℕ, zero, suc, ◌+◌, ◌-◌, ◌≤◌, ◌<◌}
use native.Mathlib.Omega.{arith}
use Rattle.windows.specs.Span.{run, span}

module _ {A : Type 0} (op : A → A → A) where
  pub span_one : (f : ℕ → A) (a : ℕ) → span op f a a ≡ f a
  unfolding span run
  span_one f a = let e : a - a ≡ 0 = omega arith in rw e

  pub span_more : (f : ℕ → A) (a b : ℕ) → a ≤ b → span op f a (suc b) ≡ op (span op f a b) (f (suc b))
  unfolding span run
  span_more f a b l =
      let e : suc b - a ≡ suc (b - a) = omega arith in
      let g : a + suc (b - a) ≡ suc b = omega arith in
      rw (e, g)

  run_cong : (f g : ℕ → A) (a d : ℕ) → ((i : ℕ) → a ≤ i → i ≤ a + d → f i ≡ g i) → run op f a d ≡ run op g a d
  unfolding run
  run_cong f g a zero h = h a (omega arith) (omega arith)
  run_cong f g a (suc d) h =
      let r : run op f a d ≡ run op g a d = run_cong f g a d (λ i l u. h i l (omega arith)) in
      let k : f (a + suc d) ≡ g (a + suc d) = h (a + suc d) (omega arith) (omega arith) in
      cc

  run_shift : (f : ℕ → A) (b a d : ℕ) → run op (λ u. f (b + u)) a d ≡ run op f (b + a) d
  unfolding run
  run_shift f b a zero = refl
  run_shift f b a (suc d) = let e : b + (a + suc d) ≡ b + a + suc d = omega arith in rw (run_shift f b a d, e)

  -- two lines that agree from a to b
  pub span_cong : (f g : ℕ → A) (a b : ℕ) → a ≤ b → ((i : ℕ) → a ≤ i → i ≤ b → f i ≡ g i) → span op f a b ≡ span op g a b
  unfolding span
  span_cong f g a b l h = run_cong f g a (b - a) (λ i m u. h i m (omega arith))

  -- a line that begins b further on
  pub span_shift : (f : ℕ → A) (b i j : ℕ) → span op (λ u. f (b + u)) i j ≡ span op f (b + i) (b + j)
  unfolding span
  span_shift f b i j = let e : b + j - (b + i) ≡ j - i = omega arith in rw e (run_shift f b i (j - i))

  module _ (assoc : (x y z : A) → op (op x y) z ≡ op x (op y z)) where
    run_split : (f : ℕ → A) (a d e : ℕ) → run op f a (suc (d + e)) ≡ op (run op f a d) (run op f (suc (a + d)) e)
    unfolding run
    run_split f a d zero =
        let p : d + 0 ≡ d = omega arith in
        let q : a + suc d ≡ suc (a + d) = omega arith in
        rw (p, q)
    run_split f a d (suc e) =
        let p : d + suc e ≡ suc (d + e) = omega arith in
        let q : a + suc (suc (d + e)) ≡ suc (a + d) + suc e = omega arith in
        rw (p, run_split f a d e, q, assoc)

    -- a span is the span up to b and the span after it
    pub span_split : (f : ℕ → A) (a b c : ℕ) → a ≤ b → b < c → span op f a c ≡ op (span op f a b) (span op f (suc b) c)
    unfolding span
    span_split f a b c l u =
        let p : c - a ≡ suc ((b - a) + (c - suc b)) = omega arith in
        let q : suc (a + (b - a)) ≡ suc b = omega arith in
        rw (p, run_split f a (b - a) (c - suc b), q)

    pub span_front : (f : ℕ → A) (a c : ℕ) → a < c → span op f a c ≡ op (f a) (span op f (suc a) c)
    span_front f a c u = rw (span_split f a a c (omega arith) u, span_one f a)
