-- Twelve lines that the rules mark: the eight keys, and four plans.
use Rattle.std.specs.Prelude.{ℕ, [], ◌∷◌, pos}
use Rattle.grid.specs.MarkedKeys.{MarkedKeys}
use Rattle.windows.specs.Intervals.{Interval}
use Rattle.plans.specs.Ranges.{KeyRange}
use Rattle.plans.specs.Planning.{IsPlan}

-- the interval from a to b
abbrev pub interval : ℕ → ℕ → Interval
interval a b = record { low = a; high = b }

-- the keys from a to b
abbrev pub keys : ℕ → ℕ → KeyRange
keys a b = record { low = a; high = b }

pub record MarkedLines : Type 0 where
  pub marked_keys : MarkedKeys
  pub one_place : IsPlan (pos 0) (interval 0 65535 ∷ []) (keys 0 65535 ∷ [])
  pub whole_grid : IsPlan (pos 0) (interval 0 65535 ∷ (interval 0 65535 ∷ [])) (keys 0 65535 ∷ (keys 65536 98302 ∷ (keys 98304 131071 ∷ [])))
  pub one_value : IsPlan (pos 0) (interval 0 65535 ∷ (interval 6553 6553 ∷ [])) (keys 0 6553 ∷ (keys 58982 65535 ∷ (keys 72089 72089 ∷ [])))
  pub high_only : IsPlan (pos 32768) (interval 13107 19661 ∷ (interval 26214 39321 ∷ [])) (keys 91750 104857 ∷ [])
