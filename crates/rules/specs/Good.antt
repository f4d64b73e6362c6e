-- What is known of a size, of settings, of a light, of a rectangle and of a call of Light that are not refused. Assumes nothing.
use Rattle.std.specs.Prelude.{◌≡◌, false, List, length, ℕ, ◌+◌, ◌*◌, ◌≤◌, ◌<◌}
use Rattle.rules.specs.Shape.{Shape, described, room}
use Rattle.rules.specs.declared.Size.{Size}
use Rattle.rules.specs.declared.Settings.{Settings}
use Rattle.rules.specs.declared.Rgb.{Rgb}
use Rattle.rules.specs.declared.Rect.{Rect}
use Rattle.rules.specs.Refusals.{bad_seen}

pub record GoodSize (z : Shape) : Type 0 where
  pub across : 0 < z.w
  pub down : 0 < z.h
  pub wide : z.w ≤ 1024
  pub tall : z.h ≤ 1024
  pub area : z.w * z.h ≤ 262144

pub record GoodSettings (k : Settings) : Type 0 where
  pub s_most : k.s ≤ 30
  pub r_most : k.r ≤ 60
  pub omega_some : 0 < k.omega
  pub omega_most : k.omega ≤ 10000
  pub e_some : 0 < k.e
  pub e_most : k.e ≤ 585225
  pub floor_some : 0 < k.t0
  pub floor_most : k.t0 ≤ 10000
  pub share_some : 0 < k.share
  pub share_most : k.share ≤ 1000

pub record GoodLight (a : Rgb) : Type 0 where
  pub red : 0 < a.r
  pub green : 0 < a.g
  pub blue : 0 < a.b

pub record GoodRect (z : Shape) (c : Rect) : Type 0 where
  pub some_w : 0 < c.w
  pub some_h : 0 < c.h
  pub across : c.x + c.w ≤ z.w
  pub down : c.y + c.h ≤ z.h

-- frame and work are the lengths of what Light is lent beside the mask
pub record AcceptedLight (z : Size) (k : Settings) (mask : List ℕ) (frame work : ℕ) : Type 0 where
  pub size : GoodSize (described z)
  pub settings : GoodSettings k
  pub shown : length mask ≡ z.w * z.h
  pub some : bad_seen mask ≡ false
  pub bytes : frame ≡ 3 * (z.w * z.h)
  pub space : room (described z) ≤ work
