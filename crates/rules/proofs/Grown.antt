-- A rectangle that is grown and cut at the frame: a rectangle of the frame, whose pixels are all that are at most q rows and columns away. Assumes nothing.
use mathlib.Core.Path.{◌≡◌}
use Prim.Native.Nat.{ℕ, ◌<◌}
use native.Mathlib.Omega.{arith}
use Rattle.rules.specs.Shape.{Shape}
use Rattle.rules.specs.declared.Rect.{Rect}
use Rattle.rules.specs.Buffers.{near}
use Rattle.rules.specs.Good.{GoodRect}
use Rattle.rules.specs.Count.{grown_rect}
use Rattle.rules.proofs.Near.{Near, near_yes, near_facts, same_test}

pub grown_good : (z : Shape) (q : ℕ) (c : Rect) → GoodRect z c → GoodRect z (grown_rect z q c)
grown_good z q c i =
    record { some_w = omega (arith, i.some_w, i.across); some_h = omega (arith, i.some_h, i.down); across = omega (arith, i.across); down = omega (arith, i.down) }

pub grown_near : (z : Shape) (q : ℕ) (c : Rect) (v u : ℕ) → v < z.h → u < z.w → near 0 (grown_rect z q c) v u ≡ near q c v u
grown_near z q c v u hv hu =
    same_test (near 0 (grown_rect z q c) v u) (near q c v u)
    (λ e.
    let n : Near 0 (grown_rect z q c) v u = near_facts 0 (grown_rect z q c) v u e in
    near_yes q c v u (record { top = omega (arith, n.top); bottom = omega (arith, n.bottom); left = omega (arith, n.left); right = omega (arith, n.right) }))
    (λ e.
    let n : Near q c v u = near_facts q c v u e in
    near_yes 0 (grown_rect z q c) v u (record { top = omega (arith, n.top); bottom = omega (arith, n.bottom); left = omega (arith, n.left); right = omega (arith, n.right) }))
