-- The proof of `read_vector_line`: what the search leaves open.
use Rattle.std.proofs.Common.{eqb, length, ap, arith}
use Rattle.std.proofs.lemmas.List.Sums.{count_by-le-length}
use Rattle.text.proofs.FieldLemmas.{length_fields}
use Rattle.sessions.proofs.commands.read_vector_line.Goals as goal

pub read_measures-requires : goal.read_measures-requires
read_measures-requires c =
    let line = c.args.line.now in
    let head = c.in_ok-letter.ensures in
    omega (arith, head.short, ap length head.parts, length_fields line, count_by-le-length (λ b. eqb b 9) line)
