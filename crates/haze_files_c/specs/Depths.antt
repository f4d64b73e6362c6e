-- What the exported function for depths promises, as an instance of the one promise. Assumes nothing.
use Rattle.std.specs.Prelude.{ℕ, List, map, length}
use Rattle.rules.specs.declared.Size.{Size}
use Rattle.depth.specs.Table.{depth_of}
use Rattle.depth.specs.Promise.{refuse_depths}
use Rattle.boundary.specs.Returns.{Returns}

abbrev pub DepthsReturns : Size → List ℕ → List ℕ → ℕ → List ℕ → Type 0
DepthsReturns z entries out = Returns (refuse_depths z entries (length out)) (map depth_of entries) out
