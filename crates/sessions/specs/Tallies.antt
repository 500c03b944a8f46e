-- How many vectors stand on each edge of each place.
use Rattle.std.specs.Prelude.{◌≡◌, ℕ, ◌+◌, ◌-◌, ◌^◌, ◌<◌, min, Bool, true, false, ◌&&◌, if◌then◌else◌, List, count_by, ℤ, ◌==◌, slice_index_or}
use Rattle.grid.specs.declared.parts.Edge.{Edge}
use Rattle.grid.specs.declared.parts.Edge.TheVariants.{Low, High}
use Rattle.grid.specs.Keys.{edge_of, place_of}
use Rattle.sessions.specs.declared.tally.Counts.{Counts}

-- whether two edges are the same
abbrev pub same_edge : Edge → Edge → Bool
same_edge Low Low = true
same_edge Low High = false
same_edge High Low = false
same_edge High High = true

-- whether a vector has its key at place j, on edge e
abbrev pub stands_at : ℤ → ℕ → Edge → List ℕ → Bool
stands_at θ j e v = place_of θ v == j && same_edge (edge_of θ v) e

-- how many of the vectors do
abbrev pub standing : ℤ → ℕ → Edge → List (List ℕ) → ℕ
standing θ j e vs = count_by (stands_at θ j e) vs

-- the count of an edge
abbrev pub count_on : Counts → Edge → ℕ
count_on c Low = c.low
count_on c High = c.high

-- the count of a place and an edge; 0 where there is no such place
abbrev pub count_at : List Counts → ℕ → Edge → ℕ
count_at cs j e = count_on (slice_index_or cs j (record { low = 0; high = 0 })) e

-- the counts are those of the vectors
abbrev pub Tallied : ℤ → List (List ℕ) → List Counts → Type 0
Tallied θ vs cs = (j : ℕ) (e : Edge) → j < 16 → count_at cs j e ≡ standing θ j e vs

-- a count, one higher where the test holds; it stops at the greatest 64-bit number
abbrev pub raised : Bool → ℕ → ℕ
raised t n = if t then min (n + 1) (2 ^ 64 - 1) else n
