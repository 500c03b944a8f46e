-- Runs as pairs of ends, and the sums that bound them.
use Rattle.std.specs.Prelude.{ℕ, ◌+◌, ◌*◌, ◌≤◌, ◌↔◌, if◌then◌else◌, List, ℤ, Some, None, Option, nat_lt}
use Rattle.windows.specs.Intervals.{Interval}
use Rattle.windows.specs.Runs.{AtPlace, LowRun, HighRun}

-- v lies in a run of values, given by its ends
abbrev pub Holds : Option (ℕ × ℕ) → ℕ → Type 0
Holds None v = ⊥
Holds (Some (a, b)) v = (a ≤ v) × (v ≤ b)

-- a run that is there has a value
abbrev pub Proper : Option (ℕ × ℕ) → Type 0
Proper None = Unit {0}
Proper (Some (a, b)) = a ≤ b

-- two facts hold of the same numbers
abbrev pub Same : (ℕ → Type 0) → (ℕ → Type 0) → Type 0
Same P Q = (v : ℕ) → P v ↔ Q v

-- the values of place j in its low run, and in its high run
abbrev pub InLowRun : ℤ → List Interval → ℕ → ℕ → Type 0
InLowRun θ w j v = AtPlace w j v × LowRun θ w j v

abbrev pub InHighRun : ℤ → List Interval → ℕ → ℕ → Type 0
InHighRun θ w j v = AtPlace w j v × HighRun θ w j v

-- v is at most a bound, if there is one
abbrev pub UpTo : Option ℕ → ℕ → Type 0
UpTo None v = ⊥
UpTo (Some b) v = v ≤ b

-- 1 where place p stands before place j
abbrev pub late : ℕ → ℕ → ℕ
late p j = if nat_lt p j then 1 else 0

-- what bounds a value of a low run from above
abbrev pub LowSums : ℕ → ℕ → ℕ → ℕ → ℕ → Type 0
LowSums cap most extra room v = (v ≤ cap) × (v + most ≤ room) × (2 * v + extra ≤ room)

-- what bounds a value of a high run from below
abbrev pub HighSums : ℕ → ℕ → ℕ → ℕ → ℕ → Type 0
HighSums base fewest extra room v = (base ≤ v) × (room ≤ v + fewest) × (room + extra ≤ 2 * v)
