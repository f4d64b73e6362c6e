-- What a call that is not refused is given and lent. Assumes nothing.
use mathlib.Core.Path.{◌≡◌, sym, ap, ◌∙◌}
use Prim.Native.Nat.{ℕ}
use Rattle.std.specs.Prelude.{Result, Ok}
use Rattle.rules.specs.declared.Refusal.{Refusal}
use Rattle.rules.specs.Answers.{said}
use Rattle.rules.specs.Setup.{Setup, shape}
use Rattle.rules.specs.Promise.{Lent}
use Rattle.rules.proofs.Box.{whole_fits}
use Rattle.refusals.proofs.Accepted.{AcceptedClear}
use Rattle.planes.specs.Stage.{Given}
use Rattle.clearing.specs.Call.{Loan}

-- its refusal number is 0
pub free : {m : ℕ} {r : Result (Unit {0}) Refusal} {u : Unit {0}} → said r ≡ m → r ≡ Ok u → m ≡ 0
free told is = sym told ∙ ap said is

module _ (p : Setup) (l : Lent) (n : AcceptedClear p l) where
  -- the frame, as a box of its own
  pub given : Given (shape p) (shape p) 0 0 p.settings p.light p.mask l.frame
  given = record {
    size = n.size;
    settings = n.settings;
    light = n.light;
    shown = n.shown;
    bytes = n.bytes;
    fits = whole_fits (shape p);
    across = n.size.across;
    down = n.size.down;
  }

  pub loan : Loan (shape p) l.map l.picture l.work
  loan = record { entries = n.entries; bytes = n.colours; space = n.space }
