-- The planes of slopes and of offsets can be summed. Assumes nothing.
use mathlib.Core.Bool.{Bool}
use mathlib.Core.List.{List}
use Prim.Native.Nat.{ℕ, ◌+◌, ◌*◌, ◌≤◌}
use native.Mathlib.Omega.{arith}
use lib.IntN.{ℤ}
use Rattle.rules.specs.Window.{Plane, Shown}
use Rattle.rules.specs.Transmission.{Line}
use Rattle.planes.specs.declared.View.{View}
use Rattle.planes.specs.View.{InPlane}
use Rattle.planes.specs.Stage.{Lined}
use Rattle.planes.proofs.Tails.{rest}
use Rattle.sums.specs.Sum.{Summable}
use Rattle.sums.proofs.Lent.{summable_rest}
use Rattle.writer.proofs.Lines.{shown_size}

-- slopes and offsets can be summed
module _ (v : View) (r : ℕ) (l : List ℤ) (lines : ℕ) (M : Plane Bool) (F : Plane (Shown Line)) (lined : Lined l lines v.w v.h M F) (i : InPlane v) (hr : r ≤ 60) where
  pub slopes_summable : Summable (rest l lines) v r
  slopes_summable =
      summable_rest l lines v r i hr (omega (arith, lined.room))
      (λ y x hy hx. rw (lined.slopes y x hy hx) (shown_size (F y x).seen (F y x).value.a _ (λ s. omega (arith, lined.a_le y x hy hx s))))

  pub offsets_summable : Summable (rest l (lines + v.w * v.h)) v r
  offsets_summable =
      summable_rest l (lines + v.w * v.h) v r i hr (omega (arith, lined.room))
      (λ y x hy hx. rw (lined.offsets y x hy hx) (shown_size (F y x).seen (F y x).value.b _ (λ s. omega (arith, lined.b_le y x hy hx s))))
