-- How a line is laid out: the word, then so many fields that pass a test, parted by one tab. Assumes nothing.
use Rattle.std.specs.Prelude.{Bool, ◌&&◌, List, ℕ, suc, eqb, length, drop}
use Rattle.fields.specs.Every.{every}
use Rattle.fields.specs.Fields.{split, field_of, same}

unfoldable pub laid : (List ℕ → Bool) → List ℕ → ℕ → List ℕ → Bool
laid t word n line = same (field_of 9 line 0) word && eqb (length (split 9 line)) (suc n) && every t (drop 1 (split 9 line))
