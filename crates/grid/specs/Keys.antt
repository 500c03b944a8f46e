-- The edge and the key of a vector under a knob θ.
use Rattle.std.specs.Prelude.{◌≡◌, ℕ, ◌+◌, ◌*◌, ◌/◌, ◌%◌, ◌<◌, if◌then◌else◌, List, length, ℤ, pos, ◌+ℤ◌, ◌-ℤ◌, int_lt}
use Rattle.fault.specs.Checks.{Checks, check, done}
use Rattle.grid.specs.declared.parts.Edge.{Edge}
use Rattle.grid.specs.declared.parts.Edge.TheVariants.{Low, High}
use Rattle.grid.specs.Vectors.{least, greatest, first_place}

-- the edge of a vector with the least measure a and the greatest b: low where a + θ is below 65,535 − b
abbrev pub edge_at : ℤ → ℕ → ℕ → Edge
edge_at θ a b = if int_lt (pos a +ℤ θ) (pos 65535 -ℤ pos b) then Low else High

unfoldable pub edge_of : ℤ → List ℕ → Edge
edge_of θ v = edge_at θ (least v) (greatest v)

-- the measure x lies nearer to the edge than y
abbrev pub Beyond : Edge → ℕ → ℕ → Type 0
Beyond Low x y = x < y
Beyond High x y = y < x

-- what goes with an edge, of two
abbrev pub on_edge : {A : Type 0} → Edge → A → A → A
on_edge Low a b = a
on_edge High a b = b

-- the measure that an edge goes by
abbrev pub extreme : Edge → List ℕ → ℕ
extreme e v = on_edge e (least v) (greatest v)

-- the measure that makes a vector's key, and the first place that has it
abbrev pub measure_of : ℤ → List ℕ → ℕ
measure_of θ v = extreme (edge_of θ v) v

abbrev pub place_of : ℤ → List ℕ → ℕ
place_of θ v = first_place (measure_of θ v) v

-- the key of a place and a measure, and both read back from it
abbrev pub key_at : ℕ → ℕ → ℕ
key_at p m = 65536 * p + m

abbrev pub key_place : ℕ → ℕ
key_place k = k / 65536

abbrev pub key_measure : ℕ → ℕ
key_measure k = k % 65536

-- the key of a vector: its least measure on the low edge, its greatest on the high edge, at the first place that has it
unfoldable pub key_of : ℤ → List ℕ → ℕ
key_of θ v = key_at (place_of θ v) (measure_of θ v)

-- what is checked of a vector, for d places
abbrev pub vector_checks : ℕ → List ℕ → Checks
vector_checks d v = check 3 (length v ≡ d) done
