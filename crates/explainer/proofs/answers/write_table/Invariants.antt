-- What the loop of `write_table` keeps from turn to turn.
use Rattle.std.proofs.Common.{◌≡◌, ◌++◌, take, string_bytes}
use Rattle.std.specs.List.{enumerate_from, flat_map}
use Rattle.explainer.specs.Written.{counts_line}
use Rattle.explainer.proofs.answers.write_table.Given as goal

abbrev pub invariant-loop-place : goal.invariant-loop-place
invariant-loop-place l = string_bytes l.to ≡ string_bytes l.initial.to ++ flat_map (λ p. counts_line p.0 p.1) (take l.place (enumerate_from 0 l.counts))
