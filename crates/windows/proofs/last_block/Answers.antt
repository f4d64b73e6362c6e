-- `windows::last_block` meets its contract. Assumes nothing.
use Prim.Native.Nat.{◌-◌}
use native.Mathlib.Omega.{arith}
use Rattle.windows.proofs.Cuts.{start_le, start_mod}
use Rattle.windows.proofs.last_block.Goals as goal

pub returns : goal.returns
returns c = omega (arith, start_mod c.args.k c.requires.1 (c.args.n - 1), start_le c.args.k c.requires.1 (c.args.n - 1))
