-- One line: which of its fields are numbers, and what is wrong with it, test by test. Assumes nothing.
use mathlib.Core.Path.{◌≡◌, refl, sym, ap, ◌∙◌}
use mathlib.Core.Bool.{Bool, true, false, cond}
use mathlib.Core.List.{List}
use Prim.Native.Nat.{ℕ}
use Rattle.std.specs.Prelude.{Option, Some, None, is_some}
use Rattle.fields.specs.LaidOut.{laid}
use Rattle.fields.specs.Decimal.{numeral, number_of, value_from}
use Rattle.rules.specs.Refusals.{bad_size, bad_settings}
use Rattle.fields.specs.Words.{bytes}
use Rattle.records.specs.declared.Kind.TheVariants.{Size, Set, Px}
use Rattle.records.specs.Records.{size_of, settings_of, large, bright, fault}

-- ---- a field as a number

-- there is a number exactly where there is a numeral
pub some_numeral : (f : List ℕ) → is_some (number_of f) ≡ numeral f
unfolding number_of
some_numeral f = go (numeral f)
  where
    go : (t : Bool) → is_some (cond t (Some (value_from 0 f)) None) ≡ t
    go true = refl
    go false = refl

-- ---- what is wrong with a line, test by test

module _ (line : List ℕ) where
  pub size_unlaid : laid numeral (bytes "size") 2 line ≡ false → 9 ≡ fault Size line
  unfolding fault
  size_unlaid e = rw e

  pub set_unlaid : laid numeral (bytes "set") 6 line ≡ false → 9 ≡ fault Set line
  unfolding fault
  set_unlaid e = rw e

  pub px_unlaid : laid numeral (bytes "px") 3 line ≡ false → 9 ≡ fault Px line
  unfolding fault
  px_unlaid e = rw e

  module _ (l : laid numeral (bytes "size") 2 line ≡ true) where
    pub size_wrong : bad_size (size_of line) ≡ true → 1 ≡ fault Size line
    unfolding fault
    size_wrong e = rw (l, e)

    pub size_large : bad_size (size_of line) ≡ false → large (size_of line) ≡ true → 10 ≡ fault Size line
    unfolding fault
    size_large e f = rw (l, e, f)

    pub size_good : bad_size (size_of line) ≡ false → large (size_of line) ≡ false → 0 ≡ fault Size line
    unfolding fault
    size_good e f = rw (l, e, f)

  module _ (l : laid numeral (bytes "set") 6 line ≡ true) where
    pub set_wrong : bad_settings (settings_of line) ≡ true → 2 ≡ fault Set line
    unfolding fault
    set_wrong e = rw (l, e)

    pub set_good : bad_settings (settings_of line) ≡ false → 0 ≡ fault Set line
    unfolding fault
    set_good e = rw (l, e)

  module _ (l : laid numeral (bytes "px") 3 line ≡ true) where
    pub px_bright : bright line ≡ true → 9 ≡ fault Px line
    unfolding fault
    px_bright e = rw (l, e)

    pub px_good : bright line ≡ false → 0 ≡ fault Px line
    unfolding fault
    px_good e = rw (l, e)
