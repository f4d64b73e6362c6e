-- `light::pick` meets its contract, from what its parts ensure. Assumes nothing.
use mathlib.Core.Path.{◌≡◌, ◌∙◌, ap}
use Prim.Native.Nat.{ℕ, ◌+◌, ◌-◌, ◌*◌, ◌≤◌}
use native.Mathlib.Omega.{arith}
use lib.ListN.{get_or}
use Rattle.rules.specs.Light.{m}
use Rattle.rules.specs.Shape.{described}
use Rattle.light.specs.Steps.{value, Levels, lane, Tallied, CutAt}
use Rattle.light.proofs.Positions.{hits_le}
use Rattle.light.proofs.Counts.{tallied_joined, at_least_all}
use Rattle.light.proofs.Areas.{roomy, levels}
use Rattle.light.proofs.Answer.{seen_count, m_seen, seen_is, light_is}
use Rattle.light.proofs.pick.Goals as goal
use Rattle.light.proofs.pick.Goals.{After-candidates-m, After-join, Start}

pub join-requires : goal.join-requires
join-requires c =
    let a = c.args in
    (omega arith, omega arith, λ v h. omega (arith, c.requires.3.counts v h, hits_le (lane (value a.work.now)) (a.z.w * a.z.h) v, c.requires.0.size.area))

-- the entries are levels
entries : (s : Start) → Levels (s.args.z.w * s.args.z.h) s.args.work.now
entries s = levels s.args.z s.args.k s.args.mask.now s.args.frame.now s.args.work.now s.requires.3.plane

-- the counts, joined
tallied : (c : After-join) → let a = c.args in Tallied (value a.work.now) (a.z.w * a.z.h) c.join.new.counts
tallied c =
    let a = c.args in
    tallied_joined (value a.work.now) (a.z.w * a.z.h) a.apart.now c.join.new.counts c.requires.3.counts c.join.ensures

-- those of level 0 and those that are seen are all
parts : (c : After-join) → let a = c.args in get_or c.join.new.counts 0 0 + seen_count a.z a.mask.now a.frame.now ≡ a.z.w * a.z.h
parts c =
    let a = c.args in
    omega (arith, tallied c 0 (omega arith), seen_is a.z a.k a.mask.now a.frame.now a.work.now c.requires.3.plane)

pub overflow_sub-seen : goal.overflow_sub-seen
overflow_sub-seen c = omega (arith, parts (goal.at.overflow_sub-seen c).After-join)

-- how many candidates there are
many : (c : After-candidates-m) → let a = c.args in c.candidates-m.result ≡ m (seen_count a.z a.mask.now a.frame.now) a.k
many c =
    let a = c.args in
    let seen : a.z.w * a.z.h - get_or c.join.new.counts 0 0 ≡ seen_count a.z a.mask.now a.frame.now = omega (arith, parts (goal.at.After-candidates-m c).After-join) in
    c.candidates-m.ensures ∙ ap (λ (i : ℕ). m i a.k) seen

-- no more than are seen
few : (c : After-join) → let a = c.args in let n = seen_count a.z a.mask.now a.frame.now in m n a.k ≤ n
few c =
    let a = c.args in
    m_seen a.z a.k a.mask.now a.frame.now _ _ c.requires.0

pub cutoff-cut-requires : goal.cutoff-cut-requires
cutoff-cut-requires c =
    let s = goal.at.cutoff-cut-requires c in
    let e = many s.After-candidates-m in
    let f = few s.After-join in
    let p = parts s.After-join in
    let z = c.args.z in
    let r = at_least_all _ (z.w * z.h) c.join.new.counts (omega arith) (λ o h. (entries s.Start o h).1) (tallied s.After-join) in
    (omega arith, omega arith, omega (arith, e), omega (arith, e, f, p, c.requires.0.size.area), omega (arith, e, f, p, r))

pub choose-requires-clause-good_size : goal.choose-requires-clause-good_size
choose-requires-clause-good_size c =
    let g = c.requires.0 in
    (g.size, omega (arith, g.bytes), omega (arith, roomy (described c.args.z), g.space), entries (goal.at.choose-requires-clause-good_size c).Start)

pub returns : goal.returns
returns c =
    let k = c.cutoff-cut in
    let a = c.args in
    let s = goal.at.returns c in
    let cut : CutAt c.join.new.counts (m (seen_count a.z a.mask.now a.frame.now) a.k) k.result = rw (many s.After-candidates-m) at k.ensures in
    record {
      inside = c.choose.ensures.inside;
      gives =
          light_is a.z a.k a.mask.now a.frame.now a.work.now c.requires.3.plane c.join.new.counts k.result (omega arith) (tallied s.After-join) (few s.After-join) cut _
          c.choose.ensures.best;
    }
