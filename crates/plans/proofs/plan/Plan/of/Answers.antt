-- The proof of `of`: what the search leaves open.
use Rattle.std.proofs.Common.{arith}
use Rattle.plans.proofs.Placed.{Step, first_apart, second_apart, upto_more, upto_all}
use Rattle.plans.proofs.plan.Plan.of.Goals as goal
use Rattle.plans.proofs.plan.Plan.of.Goals.{After-merged-first}

-- what is known of the place of a turn
turn : (c : goal.After-merged-first) → Step c.args.setting.theta c.args.window.now c.loop-place.place c.low_run-low.result c.high_run-high.result c.merged-first.result.0 c.merged-first.result.1
turn c = record {
  valid = c.places-place-end.ensures.window.valid;
  lows = c.low_run-low.ensures.exact;
  highs = c.high_run-high.ensures.exact;
  merges = c.merged-first.ensures.merges;
}

pub add_run-requires-clause-apart : goal.add_run-requires-clause-apart
add_run-requires-clause-apart c = λ k v h g. first_apart (turn (goal.at.add_run-requires-clause-apart c).After-merged-first) c.loop-place.plan c.loop-place.invariant k v h

pub add_run-requires-in-loop-place-clause-apart : goal.add_run-requires-in-loop-place-clause-apart
add_run-requires-in-loop-place-clause-apart c =
    second_apart (turn (goal.at.add_run-requires-in-loop-place-clause-apart c).After-merged-first) c.loop-place.plan c.add_run.new.plan c.loop-place.invariant c.add_run.ensures.gains

pub loop-place-preserved : goal.loop-place-preserved
loop-place-preserved c =
    let inv = c.loop-place.invariant in
    let first = c.add_run.ensures in
    let second = c.add_run-in-loop-place.ensures in
    upto_more (turn (goal.at.loop-place-preserved c).After-merged-first) c.loop-place.plan c.add_run.new.plan c.add_run-in-loop-place.new.plan inv first.gains second.gains (second.rule (first.rule inv.rule))

pub returns-clause-plan : goal.returns-clause-plan
returns-clause-plan c =
    upto_all c.args.setting.theta c.args.window.now c.loop-place.place c.loop-place.plan c.places-place-end.ensures.window.valid
    (omega (arith, c.places-place-end.ensures.count)) c.loop-place.invariant
