-- What it is for ranges to be the plan of a window.
use Rattle.std.specs.Prelude.{◌≡◌, ℕ, ◌+◌, ◌<◌, ◌≤◌, ◌⊎◌, ◌↔◌, List, length, ℤ, Option}
use Rattle.grid.specs.Vectors.{OnGrid}
use Rattle.grid.specs.Keys.{key_at, key_of}
use Rattle.windows.specs.Intervals.{Interval, Inside}
use Rattle.windows.specs.Wanted.{Wanted}
use Rattle.windows.specs.Finding.{Holds}
use Rattle.plans.specs.Ranges.{KeyRange, Planned, Rule}

-- the ranges have the wanted keys and no others
abbrev pub Covers : ℤ → List Interval → List KeyRange → Type 0
Covers θ w rs = (k : ℕ) → Planned rs k ↔ Wanted θ w k

-- whoever strikes a key k from the ranges takes away the key of some vector inside
abbrev pub Tight : ℤ → List Interval → List KeyRange → Type 0
Tight θ w rs = (k : ℕ) (ss : List KeyRange) → Planned rs k → ¬ Planned ss k → (x : List ℕ) × OnGrid x × Inside w x × ¬ Planned ss (key_of θ x)

-- the ranges are the plan of a window under the knob θ
pub record IsPlan (θ : ℤ) (w : List Interval) (rs : List KeyRange) : Type 0 where
  pub rule : Rule rs
  pub covers : Covers θ w rs
  pub tight : Tight θ w rs

-- a window has one plan at most
abbrev pub PlansAgree : Type 0
PlansAgree = (θ : ℤ) (w : List Interval) (rs ss : List KeyRange) → IsPlan θ w rs → IsPlan θ w ss → rs ≡ ss

-- two runs have the values of two others, and do not touch
pub record Merges (low high first second : Option (ℕ × ℕ)) : Type 0 where
  pub onto : (v : ℕ) → Holds first v ⊎ Holds second v → Holds low v ⊎ Holds high v
  pub from : (v : ℕ) → Holds low v ⊎ Holds high v → Holds first v ⊎ Holds second v
  pub apart : (v u : ℕ) → Holds first v → Holds second u → v + 1 < u

-- the key is that of a value of a run at place j
abbrev pub RunKey : ℕ → Option (ℕ × ℕ) → ℕ → Type 0
RunKey j run k = (v : ℕ) × Holds run v × (k ≡ key_at j v)

-- ranges have gained the keys of a run at place j
pub record Gains (rs : List KeyRange) (j : ℕ) (run : Option (ℕ × ℕ)) (rs' : List KeyRange) : Type 0 where
  pub few : length rs' ≤ length rs + 1
  pub keys : (k : ℕ) → Planned rs' k ↔ (Planned rs k ⊎ RunKey j run k)
