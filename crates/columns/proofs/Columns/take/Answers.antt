-- `Columns::take` meets its contract, from what each part of the step ensures. Assumes nothing.
use mathlib.Core.Path.{◌≡◌, refl}
use mathlib.Core.List.{List}
use Prim.Native.Nat.{ℕ, ◌+◌, ◌-◌, ◌*◌, ◌%◌, ◌≤◌, ◌<◌}
use native.Mathlib.Nat.{mod-lt, mul-le-mul}
use native.Mathlib.Omega.{arith}
use lib.ListN.{length}
use borrow.Rule.Slice.PartMut.{put_mid}
use Rattle.columns.specs.Down.{Closed, Taken}
use Rattle.windows.proofs.Cuts.{start_mod}
use Rattle.columns.proofs.Stores.{row_apart, laid_copy}
use Rattle.columns.proofs.Steps.{taken}
use Rattle.columns.proofs.Columns.take.Goals as goal
use Rattle.columns.proofs.Columns.take.Given.{Over}
use Rattle.columns.proofs.Columns.take.Goals.{After-copy, else-j-k-via-then-j-k+else-v-self, else-j-k-via-else-j-k}

-- the row's place in its block
abbrev place : (g : Over) → After-copy g → ℕ
place g c = c.args.v % c.block-k.result

-- the store with the row, and the least of its block
abbrev mid : (g : Over) → After-copy g → List ℕ
mid g c = let n = length c.args.row.now in put_mid (place g c * n) (place g c * n + n - place g c * n) c.args.self.now.store c.copy.new.out

abbrev ahead : (g : Over) → After-copy g → List ℕ
ahead g c = c.join-a.new.ahead

-- the parts together, and then the block's end
done : (g : Over) (c : After-copy g) (store : List ℕ) (t r : ℕ) → let a = c.args in let n = length a.row.now in let k = 2 * a.self.now.s + 1 in
    Closed (mid g c) store a.v a.self.now.h (place g c) k n t → r ≡ c.join-a.result + c.give-b.result + t
    → Taken a.row.now a.self.now.store a.self.now.ahead store (ahead g c) c.give-b.new.out a.v a.self.now.h n k r
done g c store t r closed e =
    let a = c.args in
    let n = length a.row.now in
    let k : ℕ = 2 * a.self.now.s + 1 in
    let j = place g c in
    let wide : length a.out.now ≡ n = omega arith in
    let some : 0 < k = omega arith in
    let inside : j < k = rw c.block-k.ensures (mod-lt a.v some) in
    let room : k * n ≤ 61 * 1024 = mul-le-mul {n₂ = 61} {m₂ = 1024} (omega arith) (omega arith) in
    taken a.row.now a.self.now.store a.self.now.ahead (ahead g c) c.give-b.new.out (mid g c) store a.v a.self.now.h n k j _ _ t some (omega arith)
    (rw c.block-k.ensures (start_mod k some a.v))
    c.join-a.ensures.1
    c.join-a.ensures.2
    (rw wide at c.give-b.ensures)
    (laid_copy _ _ _ _ _ _ c.copy.ensures.after (omega arith) (omega (arith, row_apart n j k inside, room)) refl)
    closed
    r e
    c.join-a.ensures.0

pub slice_bounds-copy-end : goal.slice_bounds-copy-end
slice_bounds-copy-end g c =
    let a = c.args in
    let k : ℕ = 2 * a.self.now.s + 1 in
    let inside : a.v % c.block-k.result < k = rw c.block-k.ensures (mod-lt a.v (omega arith)) in
    omega (arith, row_apart (length a.row.now) (a.v % c.block-k.result) k inside)

pub returns-then-v-self-clause-taken : goal.returns-then-v-self-clause-taken
returns-then-v-self-clause-taken g c =
    done g (goal.at.returns-then-v-self-clause-taken g c).After-copy _ 0 _
    (record { full = λ z. absurd (omega arith); last = λ z. absurd (omega arith); on = λ y z. (refl, refl) })
    (omega arith)

pub returns-clause-taken : goal.returns-clause-taken
returns-clause-taken g c =
    done g (goal.at.returns-clause-taken g c).After-copy _ c.fold.result _
    (record {
      full = λ z. c.fold.ensures;
      last = λ z. c.fold.ensures;
      on = λ y z. elim c.else-j-k.branch [ else-j-k-via-then-j-k+else-v-self w ↦ absurd (omega arith) | else-j-k-via-else-j-k w ↦ absurd (omega arith) ];
    })
    refl
