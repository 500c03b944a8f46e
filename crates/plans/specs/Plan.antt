-- A plan as the list of its ranges, and the fields that hold it.
use Rattle.std.specs.Prelude.{◌≡◌, ◌-◌, ◌++◌, List, length, take, replicate}
use Rattle.plans.specs.declared.plan.Plan.TheInside.{Inside as Fields}
use Rattle.plans.specs.Ranges.{KeyRange, Rule}

-- the ranges that fields hold
abbrev pub ranges_of : Fields → List KeyRange
ranges_of a = take a.len a.ranges

-- ranges in 32 cells, those behind them zero
abbrev pub cells_of : List KeyRange → List KeyRange
cells_of rs = rs ++ replicate (32 - length rs) (record { low = 0; high = 0 })

-- the fields that hold ranges
abbrev pub fields_of : List KeyRange → Fields
fields_of rs = record { ranges = cells_of rs; len = length rs }

-- the fields hold a plan
pub record IsHeld (a : Fields) : Type 0 where
  pub rule : Rule (ranges_of a)
  pub cells : a.ranges ≡ cells_of (ranges_of a)
  pub len : a.len ≡ length (ranges_of a)
