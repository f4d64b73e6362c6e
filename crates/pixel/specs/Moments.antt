-- What is known of the sums over a window of n pixels, with guides to 765 and coarse values to 10,000. `rise` and `fall` say how large P is, against Q.
-- Assumes nothing.
use Rattle.std.specs.Prelude.{ℕ, ◌+◌, ◌-◌, ◌*◌, ◌≤◌, ◌<◌}

pub record Moments (n sg st sgg sgt : ℕ) : Type 0 where
  pub some : 0 < n
  pub few : n ≤ 14641
  pub g : sg ≤ 765 * n
  pub t : st ≤ 10000 * n
  pub gg : sgg ≤ 585225 * n
  pub gt : sgt ≤ 7650000 * n
  pub spread : sg * sg ≤ n * sgg
  pub rise : n * sgt ≤ sg * st + 2500 * (n * sgg - sg * sg + n * n)
  pub fall : sg * st ≤ n * sgt + 2500 * (n * sgg - sg * sg + n * n)
