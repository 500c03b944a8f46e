-- What the loop of `feed` keeps from turn to turn.
use Rattle.std.proofs.Common.{ℕ, List, ◌++◌, take}
use Rattle.lines.specs.Lines.{split, HasTaken}
use Rattle.lines.proofs.feeding.feed.Given as goal

abbrev pub invariant-loop-b : goal.invariant-loop-b
invariant-loop-b g l =
    let after = g.H.LineHandler.after in
    (h : List ℕ) → HasTaken after (split h) l.initial.reader l.initial.to → HasTaken after (split (h ++ take l.b-index l.bytes)) l.reader l.to
