-- The proof of `keys_follow_the_rule`: what the search leaves open.
use Rattle.grid.proofs.Rules.{follow}
use Rattle.grid.proofs.laws.keys_follow_the_rule.Goals as goal

pub returns : goal.returns
returns c = follow
