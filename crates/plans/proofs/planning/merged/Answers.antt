-- The proof of `merged`: what the search leaves open.
use Rattle.std.proofs.Common.{refl}
use Rattle.plans.proofs.Merging.{touching}
use Rattle.plans.proofs.planning.merged.Goals as goal

pub returns-in-Some-Some : goal.returns-in-Some-Some
returns-in-Some-Some c =
    let s = c.in-Some-Some in
    let t = touching s.is-0 s.is-1 c.requires.proper.0 c.requires.proper.1 c.requires.below (c.if-touches.ensures.0 refl) in
    record { proper = (t.0, tt); merges = t.1 }
