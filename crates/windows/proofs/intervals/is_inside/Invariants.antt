-- What the loop of `is_inside` keeps from turn to turn.
use Rattle.std.proofs.Common.{ℕ, ◌<◌, get_or}
use Rattle.windows.specs.Intervals.{Between, interval_at}
use Rattle.windows.proofs.intervals.is_inside.Given as goal

abbrev pub invariant-loop-i : goal.invariant-loop-i
invariant-loop-i l = (k : ℕ) → k < l.i → Between (interval_at l.intervals k) (get_or l.slot k 0)
