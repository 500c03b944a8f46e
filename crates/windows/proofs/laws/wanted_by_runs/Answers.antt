-- The proof of `wanted_by_runs`: what the search leaves open.
use Rattle.windows.proofs.Wanted.{by_runs}
use Rattle.windows.proofs.laws.wanted_by_runs.Goals as goal

pub returns : goal.returns
returns c = by_runs
