-- What the loop of `read_number` keeps from turn to turn.
use Rattle.std.proofs.Common.{◌≡◌, ◌≤◌, take}
use Rattle.text.proofs.Digits.{read}
use Rattle.text.proofs.numbers.read_number.Given as goal

abbrev pub invariant-loop-b : goal.invariant-loop-b
invariant-loop-b l = (l.number ≡ read 0 (take l.b-index l.field)) × (l.number ≤ l.limit)
