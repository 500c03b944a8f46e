-- The proof of `plans_agree`: what the search leaves open.
use Rattle.plans.proofs.Agree.{agree}
use Rattle.plans.proofs.laws.plans_agree.Goals as goal

pub returns : goal.returns
returns c = agree
