-- The keys that a search of a window must read.
use Rattle.std.specs.Prelude.{◌≡◌, ℕ, List, ℤ}
use Rattle.grid.specs.Vectors.{OnGrid}
use Rattle.grid.specs.Keys.{key_of}
use Rattle.windows.specs.Intervals.{Interval, Inside}

-- some vector of the grid inside the window has the key
abbrev pub Wanted : ℤ → List Interval → ℕ → Type 0
Wanted θ w k = (x : List ℕ) × OnGrid x × Inside w x × (key_of θ x ≡ k)
