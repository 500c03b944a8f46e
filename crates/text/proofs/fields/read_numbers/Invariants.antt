-- What the loop of `read_numbers` keeps from turn to turn.
use Rattle.std.proofs.Common.{length}
use Rattle.text.proofs.FieldLemmas.{Reading}
use Rattle.text.proofs.fields.read_numbers.Given as goal

abbrev pub invariant-loop-i : goal.invariant-loop-i
invariant-loop-i l =
    (goal.iterator-loop-i).can_next l.i-iterator × (goal.iterator-loop-i).is_finite l.i-iterator × Reading l.fn.fields l.initial.out l.out (length l.yielded)
