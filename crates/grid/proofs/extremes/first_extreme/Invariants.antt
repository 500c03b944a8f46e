-- What the loop of `first_extreme` keeps from turn to turn.
use Rattle.std.proofs.Common.{map}
use Rattle.grid.proofs.ExtremeLemmas.{Best}
use Rattle.grid.proofs.extremes.first_extreme.Given as goal

abbrev pub invariant-loop-place : goal.invariant-loop-place
invariant-loop-place g l = Best l.edge (map (g.M.Measured.measure_at l.edge) l.items) l.place l.best
