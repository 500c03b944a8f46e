-- The proof of `finish`: what the search leaves open.
use Rattle.sessions.proofs.Answering.{taken_counts}
use Rattle.explainer.proofs.explaining.Explainer.finish.Goals as goal

pub returns-clause-counts : goal.returns-clause-counts
returns-clause-counts c = λ ls taken. taken_counts c.args.self.now.study c.args.self.now.lines ls taken
