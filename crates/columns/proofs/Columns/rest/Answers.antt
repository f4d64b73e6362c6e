-- `Columns::rest` meets its contract, a return for each place of the window in the blocks. Assumes nothing.
use mathlib.Core.Path.{◌≡◌, sym}
use Prim.Native.Nat.{ℕ, ◌+◌, ◌-◌, ◌*◌, ◌≤◌, ◌<◌, zero-le}
use native.Mathlib.Nat.{mul-le-mul}
use native.Mathlib.Omega.{arith}
use lib.ListN.{length}
use Rattle.std.proofs.Common.{rules}
use Rattle.std.proofs.lemmas.List.{places}
use Rattle.windows.specs.Blocks.{start}
use Rattle.windows.proofs.Cuts.{ne_lt, start_le, lt_start}
use Rattle.columns.proofs.Stores.{row_apart}
use Rattle.columns.proofs.Steps.{rest_two}
use Rattle.columns.proofs.Columns.rest.Goals as goal
use Rattle.columns.proofs.Columns.rest.Given.{Over}
use Rattle.columns.proofs.Columns.rest.Goals.{Else-c-a, After-last_block-c}

-- where the last block starts
last : (g : Over) (c : After-last_block-c g) → c.last_block-c.result ≡ start (2 * c.args.self.now.s + 1) (c.args.self.now.h - 1)
last g c = rw c.block-k.ensures at c.last_block-c.ensures

later : (g : Over) (c : Else-c-a g) → c.args.a < c.last_block-c.result
later g c = ne_lt _ _ c.if-c-a.false (λ e. c.if-a-c.false (sym e))

pub overflow_sub-at-2 : goal.overflow_sub-at-2
overflow_sub-at-2 g c =
    let l = c.args.self.now in
    omega (arith, last g (goal.at.overflow_sub-at-2 g c).After-last_block-c, start_le (2 * l.s + 1) (omega arith) (l.h - 1))

pub slice_bounds-copy-end-then-c-a : goal.slice_bounds-copy-end-then-c-a
slice_bounds-copy-end-then-c-a g c =
    let l = c.args.self.now in
    let k : ℕ = 2 * l.s + 1 in
    let n = length c.args.out.now in
    let begin = last g (goal.at.slice_bounds-copy-end-then-c-a g c).After-last_block-c in
    let end = lt_start k (omega arith) (l.h - 1) in
    let room : k * n ≤ 61 * 1024 = mul-le-mul {n₂ = 61} {m₂ = 1024} (omega arith) (omega arith) in
    omega (arith, room, row_apart n (c.args.a - c.last_block-c.result) k (omega arith))

pub returns : goal.returns
returns g c =
    let a = c.args in
    let l = a.self.now in
    let k : ℕ = 2 * l.s + 1 in
    let n = length a.out.now in
    let begin = last g (goal.at.returns g c).After-last_block-c in
    let before = later g (goal.at.returns g c).Else-c-a in
    let low = start_le k (omega arith) (l.h - 1) in
    let room : k * n ≤ 61 * 1024 = mul-le-mul {n₂ = 61} {m₂ = 1024} (omega arith) (omega arith) in
    let inside = row_apart n (a.a + k - c.last_block-c.result) k (omega arith) in
    let first : start k (l.h - 1) ≡ c.last_block-c.result = omega arith in
    rest_two _ _ _ a.a l.h n k (omega arith) c.requires.0 (omega arith) _ (omega arith) (search rules)
    (λ x h. let d = c.both.ensures.1.is x zero-le in rw (first, ← c.block-k.ensures) (search (rules, places)))
