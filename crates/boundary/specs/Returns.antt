-- The one promise of the exported functions: each returns its refusal number, 0 for an accepted call, and leaves in all that it may write the new values of
-- an accepted call, the old ones of a refused one. Assumes nothing.
use Rattle.std.specs.Prelude.{◌≡◌, ℕ}
use Rattle.rules.specs.Promise.{unless}

-- n is what is returned; old stood in what the call may write, now stands there afterwards
pub record Returns {A : Type 0} (refusal : ℕ) (new old : A) (n : ℕ) (now : A) : Type 0 where
  pub number : n ≡ refusal
  pub after : now ≡ unless refusal new old
