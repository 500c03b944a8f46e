-- The extreme measure of a list toward an edge, with the first place that has it.
use Rattle.std.specs.Prelude.{◌≡◌, ℕ, List, Option, IfSome}
use Rattle.grid.specs.declared.parts.Edge.{Edge}
use Rattle.grid.specs.declared.extremes.Extreme.{Extreme}
use Rattle.grid.specs.Vectors.{first_place}
use Rattle.grid.specs.Keys.{Beyond, extreme}

-- x is the extreme measure of v toward an edge, and the first place that has it
abbrev pub IsExtreme : Edge → List ℕ → Extreme → Type 0
IsExtreme e v x = (x.measure ≡ extreme e v) × (x.place ≡ first_place (extreme e v) v)

-- the measure m lies nearer to the edge than the best so far, if there is one
abbrev pub IsNearest : Edge → ℕ → Option Extreme → Type 0
IsNearest e m best = IfSome best (λ x. Beyond e m x.measure)
