-- The names of the edges in an answer line.
use Rattle.std.specs.Prelude.{ℕ, List, codes}
use Rattle.grid.specs.declared.parts.Edge.{Edge}
use Rattle.grid.specs.declared.parts.Edge.TheVariants.{Low, High}

abbrev pub edge_word : Edge → List ℕ
edge_word Low = codes "low"
edge_word High = codes "high"
