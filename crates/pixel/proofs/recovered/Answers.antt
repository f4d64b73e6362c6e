-- `pixel::recovered` meets its contract: what each call answers, put together, is a law of the recovery. Assumes nothing.
use mathlib.Core.Path.{◌≡◌, refl, ap, ◌∙◌}
use mathlib.Core.Bool.{cond}
use Prim.Native.Nat.{ℕ, ◌+◌, ◌-◌, ◌*◌, ◌/◌, ◌≤◌}
use native.Mathlib.Omega.{arith}
use lib.Dec.{ltb}
use lib.IntN.{ℤ, pos, nat_abs, ◌+ℤ◌, ◌-ℤ◌}
use Rattle.rules.specs.Transmission.{held}
use Rattle.pixel.proofs.Signs.{rd32, rd32_is, clamp_is}
use Rattle.pixel.proofs.Scaled.{recovered_is}
use Rattle.pixel.proofs.recovered.Goals as goal
use Rattle.pixel.proofs.recovered.Goals.{After-clamp, After-moved, After-stretched-q, Start}

module _ (s : Start) where
  abbrev a : ℕ
  a = s.args.a

  abbrev i : ℕ
  i = s.args.i

  abbrev far : ℕ
  far = ((a - i + (i - a)) * s.args.scale + 4194304) / 8388608

  -- before it is held
  abbrev v : ℤ
  v = cond (ltb i a) (pos a -ℤ pos far) (pos a +ℤ pos far)

q_is : (c : After-stretched-q) → rd32 c.stretched-q.result ≡ pos (far (goal.at.After-stretched-q c).Start)
q_is c =
    let back = rd32_is c.stretched-q.result (record { sfits = c.stretched-q.type_inv }) in
    back ∙ rw c.abs_diff.ensures at c.stretched-q.ensures.0

v_is : (c : After-moved) → rd32 c.moved.result ≡ v (goal.at.After-moved c).Start
v_is c = rd32_is c.moved.result (record { sfits = c.moved.type_inv }) ∙ rw (q_is (goal.at.After-moved c).After-stretched-q) at c.moved.ensures

result_is : (c : After-clamp) → rd32 c.clamp.result ≡ pos (held 255 (v (goal.at.After-clamp c).Start))
result_is c =
    let held = rw (v_is (goal.at.After-clamp c).After-moved) at c.clamp.ensures.value in
    rd32_is c.clamp.result (record { sfits = c.clamp.type_inv }) ∙ held ∙ clamp_is (v (goal.at.After-clamp c).Start)

pub returns : goal.returns
returns c t some few o =
    let light : a (goal.at.returns c).Start ≤ 255 = omega arith in
    let byte : i (goal.at.returns c).Start ≤ 255 = omega arith in
    ap nat_abs (result_is (goal.at.returns c).After-clamp) ∙ recovered_is (a (goal.at.returns c).Start) (i (goal.at.returns c).Start) t c.args.scale light byte some few o (ltb (i (goal.at.returns c).Start) (a (goal.at.returns c).Start)) refl
