-- The proof of `add_run`: what the search leaves open.
use Rattle.plans.proofs.Gaining.{gains_push, range_apart}
use Rattle.plans.proofs.planning.add_run.Goals as goal

pub push-requires-clause-apart : goal.push-requires-clause-apart
push-requires-clause-apart c =
    range_apart c.args.plan.now c.args.place c.run_keys.result c.run_keys.ensures.0 c.in-Some.is c.requires.proper c.requires.apart

pub returns-in-Some-clause-gains : goal.returns-in-Some-clause-gains
returns-in-Some-clause-gains c = gains_push c.push.ensures.pushed c.in-Some.is c.run_keys.ensures.0 c.run_keys.ensures.1
