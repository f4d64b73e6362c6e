-- `depth::write` meets its contract. The loop's invariant: the entries passed have their depths. Assumes nothing.
use mathlib.Core.Path.{◌≡◌, ap, ◌∙◌}
use mathlib.Core.List.{List}
use Prim.Native.Nat.{ℕ, ◌<◌}
use native.Mathlib.Omega.{arith}
use lib.ListN.{length, get_or}
use Rattle.rules.proofs.Buffers.{wrote}
use Rattle.depth.specs.Table.{depth_of}
use Rattle.depth.proofs.Written.{written, every_long, every_at}
use Rattle.depth.proofs.write.Goals as goal

pub bounds-every-from : goal.bounds-every-from
bounds-every-from c =
    let e = ap length c.requires.every_value.0 in
    omega (arith, every_long, c.requires.by_index c.loop-p.p)

pub loop-p-preserved : goal.loop-p-preserved
loop-p-preserved c =
    let l = c.loop-p in
    let t = get_or c.args.map.now l.p 0 in
    let d : get_or c.args.every.now t 0 ≡ depth_of t = ap (λ (e : List ℕ). get_or e t 0) c.requires.every_value.0 ∙ every_at t (c.requires.by_index l.p) in
    let room : l.p < length l.out = omega (arith, c.requires.every_value.1) in
    wrote (λ k. depth_of (get_or c.args.map.now k 0)) l.out l.p _ room l.invariant (ap (λ (i : ℕ). get_or c.args.every.now i 0) c.from.ensures ∙ d)

pub returns : goal.returns
returns c = written depth_of c.args.map.now c.loop-p.out (omega (arith, c.requires.every_value.1)) (λ k h. c.loop-p.invariant k (omega arith))
