-- Windows as lists of intervals, one to a place: what lies inside, and what is checked of a window.
use Rattle.std.specs.Prelude.{◌≡◌, ℕ, ◌<◌, ◌≤◌, List, length, Some, None, Option, slice_index, slice_index_or}
use Rattle.fault.specs.Checks.{Checks, check, done}
use Rattle.windows.specs.declared.spans.Span.{Span}

abbrev pub Interval : Type 0
Interval = Span ℕ

abbrev pub interval_at : List Interval → ℕ → Interval
interval_at w i = slice_index_or w i (record { low = 0; high = 0 })

-- the measure x lies between the ends, both included
abbrev pub Between : Interval → ℕ → Type 0
Between s x = (s.low ≤ x) × (x ≤ s.high)

-- the vector x has as many places as the window w, and lies between the ends at every place
pub record Inside (w : List Interval) (x : List ℕ) : Type 0 where
  pub width : length x ≡ length w
  pub between : (i : ℕ) → i < length w → Between (interval_at w i) (slice_index x i)

-- no low end is above its high end
abbrev pub Uncrossed : List Interval → Type 0
Uncrossed w = (i : ℕ) → i < length w → (interval_at w i).low ≤ (interval_at w i).high

-- the ends are measures
abbrev pub EndsOnGrid : List Interval → Type 0
EndsOnGrid w = (i : ℕ) → i < length w → (interval_at w i).high ≤ 65535

-- what is checked of a window, for d places, in order
abbrev pub window_checks : ℕ → List Interval → Checks
window_checks d w = check 3 (length w ≡ d) (check 8 (Uncrossed w) done)

-- the interval of place i, if the window has that place
abbrev pub PlaceOf : List Interval → ℕ → Option Interval → Type 0
PlaceOf w i (Some s) = (i < length w) × (s ≡ interval_at w i)
PlaceOf w i None = length w ≤ i
