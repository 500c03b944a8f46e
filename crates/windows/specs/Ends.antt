-- The ends of intervals, seen from an edge of the grid.
use Rattle.std.specs.Prelude.{ℕ, List, map}
use Rattle.grid.specs.declared.parts.Edge.{Edge}
use Rattle.grid.specs.declared.parts.Edge.TheVariants.{Low, High}
use Rattle.windows.specs.Intervals.{Interval}

-- the end that lies away from an edge
abbrev pub far_end : Edge → Interval → ℕ
far_end Low s = s.high
far_end High s = s.low

abbrev pub far_ends : Edge → List Interval → List ℕ
far_ends e w = map (far_end e) w
