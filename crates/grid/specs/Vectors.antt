-- Vectors as lists of measures: the least and the greatest measure, and the first place of a measure.
use Rattle.std.specs.Prelude.{ℕ, suc, ◌<◌, ◌≤◌, min, max, if◌then◌else◌, List, [], ◌∷◌, length, ◌==◌, slice_index}

abbrev pub least : List ℕ → ℕ
least [] = 0
least (x ∷ []) = x
least (x ∷ (y ∷ ys)) = min x (least (y ∷ ys))

abbrev pub greatest : List ℕ → ℕ
greatest [] = 0
greatest (x ∷ xs) = max x (greatest xs)

-- the first place that has the measure a, counted from 0
abbrev pub first_place : ℕ → List ℕ → ℕ
first_place a [] = 0
first_place a (x ∷ xs) = if x == a then 0 else suc (first_place a xs)

-- every measure is one of the grid
abbrev pub OnGrid : List ℕ → Type 0
OnGrid v = (i : ℕ) → i < length v → slice_index v i ≤ 65535
