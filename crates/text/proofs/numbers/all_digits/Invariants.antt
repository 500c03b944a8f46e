-- What the loop of `all_digits` keeps from turn to turn.
use Rattle.std.proofs.Common.{ℕ, ◌<◌, slice_index_or}
use Rattle.std.specs.Char.{IsAsciiDigit}
use Rattle.text.proofs.numbers.all_digits.Given as goal

abbrev pub invariant-loop-b : goal.invariant-loop-b
invariant-loop-b l = (k d : ℕ) → k < l.b-index → IsAsciiDigit (slice_index_or l.field k d)
