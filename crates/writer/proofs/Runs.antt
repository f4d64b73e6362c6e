-- A run that is written element by element, and pixel by pixel. Assumes nothing.
use mathlib.Core.Path.{◌≡◌, ap, ap₂, ◌∙◌, subst}
use mathlib.Core.List.{List}
use Prim.Native.Nat.{ℕ, ◌+◌, ◌*◌, ◌/◌, ◌%◌, ◌≤◌, ◌<◌}
use native.Mathlib.Omega.{arith}
use lib.ListN.{length, set, length-set}
use lib.Seq.{get_or-set_other}
use Rattle.rules.specs.declared.Rgb.{Rgb}
use Rattle.rules.specs.Buffers.{channel}
use Rattle.planes.proofs.Stored.{stored}
use Rattle.writer.specs.Run.{Run, set_pixel}
use Rattle.writer.specs.Row.{bytes_of}

-- a run of one function is a run of another that has the same values there
pub run_as : (F G : ℕ → ℕ) (a b n : ℕ) (old new : List ℕ) → ((k : ℕ) → k < n → F (a + k) ≡ G (b + k)) → Run F a n old new → Run G b n old new
run_as F G a b n old new e r = record { same = r.same; in_run = λ k h. r.in_run k h ∙ e k h; past = r.past }

module _ (F : ℕ → ℕ) (a : ℕ) where
  pub run_to : {m n : ℕ} {old new : List ℕ} → m ≡ n → Run F a m old new → Run F a n old new
  run_to {old = old} {new} e r = subst (λ (k : ℕ). Run F a k old new) e r

  pub run_more : (n v : ℕ) (old new : List ℕ) → Run F a n old new → n < length new → v ≡ F (a + n) → Run F a (n + 1) old (set new n v)
  run_more n v old new r l e = record {
    same = length-set new n v ∙ r.same;
    in_run = λ k h. stored (λ (k x : ℕ). x ≡ F (a + k)) new n v 0 l e k (λ ne. r.in_run k (omega arith));
    past = λ k h. get_or-set_other new n k v 0 (λ p. omega arith) ∙ r.past k (omega arith);
  }

-- byte c of the pixel at position p
byte_at : (g : ℕ → Rgb) (p c q : ℕ) → c < 3 → q ≡ 3 * p + c → channel c (g p) ≡ bytes_of g q
byte_at g p c q h e =
    let m : c ≡ q % 3 = omega arith in
    let d : p ≡ q / 3 = omega arith in
    ap₂ (λ (n p : ℕ). channel n (g p)) m d

-- one pixel more of a run of bytes
pub run_pixel : (g : ℕ → Rgb) (a n : ℕ) (j : Rgb) (old new : List ℕ) → Run (bytes_of g) (3 * a) (3 * n) old new → 3 * n + 3 ≤ length new → j ≡ g (a + n)
    → Run (bytes_of g) (3 * a) (3 * (n + 1)) old (set_pixel new n j)
run_pixel g a n j old new r l e =
    let F = bytes_of g in
    let red = run_more F (3 * a) (3 * n) j.r old new r (omega arith) (ap (channel 0) e ∙ byte_at g (a + n) 0 (3 * a + 3 * n) (omega arith) (omega arith)) in
    let green = run_more F (3 * a) (3 * n + 1) j.g old _ red (simp length-set (omega arith)) (ap (channel 1) e ∙ byte_at g (a + n) 1 (3 * a + (3 * n + 1)) (omega arith) (omega arith)) in
    let two : 3 * n + 1 + 1 ≡ 3 * n + 2 = omega arith in
    let blue =
    run_more F (3 * a) (3 * n + 2) j.b old _ (run_to F (3 * a) two green) (simp length-set (omega arith))
    (ap (channel 2) e ∙ byte_at g (a + n) 2 (3 * a + (3 * n + 2)) (omega arith) (omega arith)) in
    run_to F (3 * a) (let e : 3 * n + 2 + 1 ≡ 3 * (n + 1) = omega arith in e) blue
