-- A window as the list of its intervals, and the fields that hold it.
use Rattle.std.specs.Prelude.{◌≡◌, ◌-◌, ◌≤◌, ◌++◌, List, length, take, replicate}
use Rattle.grid.specs.declared.parts.Edge.{Edge}
use Rattle.grid.specs.declared.parts.Edge.TheVariants.{Low, High}
use Rattle.grid.specs.Vectors.{first_place}
use Rattle.grid.specs.Keys.{extreme}
use Rattle.grid.specs.declared.extremes.Extreme.{Extreme}
use Rattle.windows.specs.declared.window.Window.TheInside.{Inside as Fields}
use Rattle.windows.specs.Intervals.{Interval}
use Rattle.grid.specs.Extremes.{IsExtreme}
use Rattle.windows.specs.Ends.{far_ends}
use Rattle.windows.specs.Runs.{Valid}

-- what holds of every window
pub record IsWindow (w : List Interval) : Type 0 where
  pub valid : Valid w
  pub few : length w ≤ 16

-- the intervals that fields hold
abbrev pub intervals_of : Fields → List Interval
intervals_of a = take a.len a.intervals

-- a window in 16 cells, those behind it zero
abbrev pub cells_of : List Interval → List Interval
cells_of w = w ++ replicate (16 - length w) (record { low = 0; high = 0 })

-- of the ends that lie away from an edge the one nearest to it, with its first place
abbrev pub tightest_of : Edge → List Interval → Extreme
tightest_of e w = record { measure = extreme e (far_ends e w); place = first_place (extreme e (far_ends e w)) (far_ends e w) }

-- the fields that hold a window
abbrev pub fields_of : List Interval → Fields
fields_of w = record { intervals = cells_of w; len = length w; greatest_low = tightest_of High w; least_high = tightest_of Low w }

-- the fields hold the window w
pub record IsHeld (w : List Interval) (a : Fields) : Type 0 where
  pub window : IsWindow w
  pub cells : a.intervals ≡ cells_of w
  pub len : a.len ≡ length w
  pub lows : IsExtreme High (far_ends High w) a.greatest_low
  pub highs : IsExtreme Low (far_ends Low w) a.least_high
