-- One lent slice is a part of another: its bytes, and the memory they lie in. Assumes nothing.
use Rattle.std.specs.Prelude.{◌≡◌, List, ℕ, ◌+◌}
use Rattle.std.specs.Borrow.{Bor}
use Rattle.fields.specs.Fields.{field_of, field_at}

-- so many elements on in the same block
abbrev pub on : ℕ × ℕ → ℕ → ℕ × ℕ
on p n = (p.0, n + p.1)

-- r is the whole's own part that holds its n-th field; an empty one at the beginning where there is none
pub record FieldOf (sep : ℕ) (whole : Bor (List ℕ)) (n : ℕ) (r : Bor (List ℕ)) : Type 0 where
  pub field : r.now ≡ field_of sep whole.now n
  pub lies : r.ref_ptr ≡ on whole.ref_ptr (field_at sep whole.now n)
