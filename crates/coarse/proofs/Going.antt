-- The first pass between two rows: what its loop keeps. Assumes nothing.
use mathlib.Core.Path.{◌≡◌, refl}
use mathlib.Core.List.{List}
use Prim.Native.Nat.{ℕ, ◌-◌, ◌*◌, ◌≤◌}
use native.Mathlib.Omega.{arith}
use lib.ListN.{length, get_or}
use lib.IntN.{ℤ}
use Rattle.rules.specs.declared.Settings.{Settings}
use Rattle.rules.specs.declared.Rgb.{Rgb}
use Rattle.rules.specs.Transmission.{sample}
use Rattle.rules.specs.Buffers.{masked}
use Rattle.planes.specs.declared.View.{View}
use Rattle.planes.specs.View.{box_of}
use Rattle.planes.specs.Stage.{box_seen, box_pixels, Sampled}
use Rattle.planes.proofs.Shown.{shown_guide}
use Rattle.columns.specs.Down.{Down}
use Rattle.columns.proofs.Counted.{Counted}
use Rattle.coarse.specs.Rows.{least_along, SampledTo}
use Rattle.coarse.proofs.Minima.{coarse_le}

-- l is the work area as it came, m as it is before row i goes down the columns, after `count` comparisons
pub record Going (v : View) (k : Settings) (a : Rgb) (mask frame : List ℕ) (l m : List ℤ) (store ahead : List ℕ) (h s count i : ℕ) : Type 0 where
  pub rows : h ≡ v.tall
  pub radius : s ≡ k.s
  pub columns : Down store ahead v.wide k.s v.tall (least_along v a k.s mask frame) i
  pub samples : SampledTo l m v.wide v.tall (sample (box_of v) k a (box_pixels v mask frame)) (i - k.s)
  pub counted : Counted k.s v.wide v.tall count i

-- after the last step all rows are
pub samples_end : (v : View) (k : Settings) (a : Rgb) (mask frame : List ℕ) (l m : List ℤ) (n : ℕ) → n ≡ v.tall → ((i : ℕ) → get_or frame i 0 ≤ 255)
    → 2 * (v.wide * v.tall) ≤ length m → SampledTo l m v.wide v.tall (sample (box_of v) k a (box_pixels v mask frame)) n
    → Sampled m v.wide v.tall (box_seen v mask) (sample (box_of v) k a (box_pixels v mask frame))
unfolding sample masked
samples_end v k a mask frame l m n e byte room to =
    record {
      room = room;
      seen = λ y x p q. refl;
      g_le = λ y x p q. shown_guide v mask frame byte y x;
      t_le = λ y x p q. coarse_le v k a (box_pixels v mask frame) y x;
      products = λ y x p q. to.products y x (omega arith) q;
      squares = λ y x p q. to.squares y x (omega arith) q;
    }
