-- The runs of a place: the values that make a wanted key there, on either edge.
use Rattle.std.specs.Prelude.{◌≡◌, ℕ, zero, suc, ◌+◌, ◌-◌, ◌<◌, ◌≤◌, min, max, ◌⊎◌, ◌↔◌, List, map, length, ℤ, pos, ◌+ℤ◌, ◌≤ℤ◌, ◌<ℤ◌}
use Rattle.grid.specs.Vectors.{least, greatest}
use Rattle.grid.specs.Keys.{key_at}
use Rattle.windows.specs.Intervals.{Interval, interval_at, Between, Uncrossed, EndsOnGrid}
use Rattle.windows.specs.Wanted.{Wanted}

abbrev pub lows : List Interval → List ℕ
lows w = map (λ s. s.low) w

abbrev pub highs : List Interval → List ℕ
highs w = map (λ s. s.high) w

-- v, and one more where there is a place before j
abbrev pub past : ℕ → ℕ → ℕ
past zero v = v
past (suc j) v = v + 1

-- v, and one less where there is a place before j
abbrev pub short : ℕ → ℕ → ℕ
short zero v = v
short (suc j) v = v - 1

-- the greatest of v, all low ends, and v + 1 where there is a place before j
abbrev pub lowest_top : List Interval → ℕ → ℕ → ℕ
lowest_top w j v = max (max v (greatest (lows w))) (past j v)

-- the least of v, all high ends, and v − 1 where there is a place before j
abbrev pub highest_bottom : List Interval → ℕ → ℕ → ℕ
highest_bottom w j v = min (min v (least (highs w))) (short j v)

-- the low run of place j
pub record LowRun (θ : ℤ) (w : List Interval) (j v : ℕ) : Type 0 where
  pub earlier : (i : ℕ) → i < j → v < (interval_at w i).high
  pub later : (i : ℕ) → j < i → i < length w → v ≤ (interval_at w i).high
  pub edge : (pos (v + lowest_top w j v) +ℤ θ) <ℤ pos 65535

-- the high run of place j
pub record HighRun (θ : ℤ) (w : List Interval) (j v : ℕ) : Type 0 where
  pub earlier : (i : ℕ) → i < j → (interval_at w i).low < v
  pub later : (i : ℕ) → j < i → i < length w → (interval_at w i).low ≤ v
  pub edge : pos 65535 ≤ℤ (pos (v + highest_bottom w j v) +ℤ θ)

-- v lies between the ends of place j
abbrev pub AtPlace : List Interval → ℕ → ℕ → Type 0
AtPlace w j v = (j < length w) × Between (interval_at w j) v

-- a window has a place, its ends are measures, and none are crossed
pub record Valid (w : List Interval) : Type 0 where
  pub some : 0 < length w
  pub uncrossed : Uncrossed w
  pub grid : EndsOnGrid w

-- the key of a value between the ends of a place is wanted exactly when the value lies in a run; and every wanted key is such a key
abbrev pub WantedByRuns : Type 0
WantedByRuns = (θ : ℤ) (w : List Interval) → Valid w
    → ((j v : ℕ) → AtPlace w j v → Wanted θ w (key_at j v) ↔ (LowRun θ w j v ⊎ HighRun θ w j v))
    × ((k : ℕ) → Wanted θ w k → (j : ℕ) × (v : ℕ) × AtPlace w j v × (k ≡ key_at j v))
