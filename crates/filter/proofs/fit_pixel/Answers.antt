-- `filter::fit_pixel` meets its contract. Assumes nothing.
use Rattle.filter.proofs.Rows.{pixel_set, pixel_small}
use Rattle.filter.proofs.fit_pixel.Goals as goal

pub returns : goal.returns
returns c =
    let a = c.args in
    let s = c.slope-a.ensures in
    let o = c.offset-b.ensures in
    record {
      line = pixel_set a.n a.u a.v a.e s.exact s.small o.exact o.small a.work.now _ a.s a.o c.put_line.ensures;
      small = pixel_small a.n a.u a.v a.e s.exact s.small o.exact o.small;
    }
