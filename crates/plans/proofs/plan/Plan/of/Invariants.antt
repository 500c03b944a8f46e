-- What the loop of `of` keeps from turn to turn.
use Rattle.plans.proofs.Placed.{Upto}
use Rattle.plans.proofs.plan.Plan.of.Given as goal

abbrev pub invariant-loop-place : goal.invariant-loop-place
invariant-loop-place l = Upto l.setting.theta l.window l.place l.plan
