-- `clearing::replace_whole` meets its contract: box, lines and rectangle are those of the grown new pixels, and each sees far enough in the one before. Assumes nothing.
use mathlib.Core.Path.{◌∙◌, ap}
use mathlib.Core.List.{List}
use Prim.Native.Nat.{ℕ, ◌+◌, ◌*◌}
use Rattle.rules.specs.declared.Rect.{Rect}
use Rattle.rules.specs.Shape.{described}
use Rattle.rules.specs.Transmission.{map_entry}
use Rattle.rules.specs.Picture.{cleared}
use Rattle.rules.specs.Buffers.{pixels, masked, values, entries, bytes, patch, near, replace, reach}
use Rattle.rules.specs.Count.{frame_comparisons}
use Rattle.clearing.specs.Call.{shape_of}
use Rattle.clearing.proofs.Grown.{grown_by, nested_grown, grown_entries, grown_bytes, given_after}
use native.Mathlib.Omega.{arith}
use Rattle.clearing.proofs.replace_whole.Goals as goal

pub refresh-requires : goal.refresh-requires
refresh-requires c =
    let d = c.args in
    let z = described d.z in
    let i = c.requires.good_rect.0 in
    let l = c.requires.loan in
    let f = c.grow-f in
    let p = c.grow-p in
    let o = c.grow-o in
    let paste = c.paste in record {
      given = (
        given_after z d.k d.a d.mask.now d.frame.now paste.new.frame paste.auto.frame c.requires.given,
        nested_grown z d.c i d.k f.result p.result o.result _ f.ensures p.ensures o.ensures (omega arith) (omega arith),
      );
      loan = l;
    }

pub returns : goal.returns
unfolding replace
returns c =
    let r = c.refresh in
    let d = c.args in
    let z = described d.z in
    let q = reach d.k in
    let i = c.requires.good_rect.0 in
    let o = c.grow-o in
    let rect = grown_by z d.c o.result q o.ensures (omega arith) in
    let frame = c.paste.ensures in
    let m =
    r.ensures.map
    ∙ grown_entries z d.c i q o.result rect _ (values z d.map.now)
    ∙ ap (λ (l : List ℕ). entries z (patch (near q d.c) (map_entry z d.k d.a (masked z d.mask.now l)) (values z d.map.now))) frame in
    let p =
    r.ensures.picture
    ∙ grown_bytes z d.c i q o.result rect _ (pixels z d.picture.now)
    ∙ ap (λ (l : List ℕ). bytes z (patch (near q d.c) (cleared z d.k d.a (masked z d.mask.now l)) (pixels z d.picture.now))) frame in
    let w = r.ensures.work in
    let f = c.grow-f in
    let box = grown_by z d.c f.result (2 * d.k.s + 4 * d.k.r) f.ensures (omega arith) in
    let n = r.ensures.count ∙ ap (λ (b : Rect). frame_comparisons (shape_of b) d.k.s) box in
    record { count = n; after = λ i. record { frame = frame i; map = m i; picture = p i; work = w i } }
