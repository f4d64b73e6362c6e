-- `text::clear_frame` meets its contract: at most 24 by 24 pixels fit its memory. Assumes nothing.
use mathlib.Core.Path.{sym}
use native.Mathlib.Omega.{arith}
use lib.Seq.{length-take-le}
use Rattle.records.proofs.Frames.{few}
use Rattle.text.proofs.Showing.{prepared}
use Rattle.text.proofs.clear_frame.Goals as goal

pub overflow_mul-n : goal.overflow_mul-n
overflow_mul-n c = omega (arith, few _ c.requires.size_small)

pub overflow_mul-m : goal.overflow_mul-m
overflow_mul-m c = omega (arith, few _ c.requires.size_small)

pub slice_bounds-mask-end : goal.slice_bounds-mask-end
slice_bounds-mask-end c = omega (arith, few _ c.requires.size_small)

pub slice_bounds-map-end : goal.slice_bounds-map-end
slice_bounds-map-end c = omega (arith, few _ c.requires.size_small)

pub slice_bounds-picture-end : goal.slice_bounds-picture-end
slice_bounds-picture-end c = omega (arith, few _ c.requires.size_small)

pub slice_bounds-show-end : goal.slice_bounds-show-end
slice_bounds-show-end c = sym (length-take-le _ _ (omega (arith, few _ c.requires.size_small)))

pub slice_bounds-show-end-2 : goal.slice_bounds-show-end-2
slice_bounds-show-end-2 c = sym (length-take-le _ _ (omega (arith, few _ c.requires.size_small, c.requires)))

pub slice_bounds-show-end-3 : goal.slice_bounds-show-end-3
slice_bounds-show-end-3 c = sym (length-take-le _ _ (omega (arith, few _ c.requires.size_small)))

pub slice_bounds-show-end-4 : goal.slice_bounds-show-end-4
slice_bounds-show-end-4 c = sym (length-take-le _ _ (omega (arith, few _ c.requires.size_small)))

pub show-requires : goal.show-requires
show-requires c =
    prepared c.args.z c.args.k c.args.frame.now _ _ _ _ c.requires (omega arith) (omega arith) (omega arith)
