-- The proof of `read_number`: what the search leaves open.
use Rattle.std.proofs.Common.{◌≡◌, ◌+◌, rules, sym, ap, ◌∙◌, subst, arith}
use Rattle.text.specs.Spelling.{spelled, Plain}
use Rattle.text.proofs.Digits.{read, plain_spelled, spelled_plain, read_more, read_upto, read_all}
use Rattle.text.proofs.numbers.read_number.Goals as goal

pub returns-then-not-is_plain : goal.returns-then-not-is_plain
returns-then-not-is_plain c = λ n e.
    let other : ¬ (Plain c.args.field.now) = search rules in
    other (subst Plain (sym e) (spelled_plain n))

pub returns-then-number-limit : goal.returns-then-number-limit
returns-then-number-limit c =
    let f = c.args.field.now in
    let i = c.loop-b.b-index in
    (read 0 f, plain_spelled f (c.is_plain.ensures.0 c.if-not-is_plain.false), omega (arith, read_upto f (i + 1), read_more f i (omega arith), c.loop-b.invariant.0))

pub loop-b-preserved : goal.loop-b-preserved
loop-b-preserved c = (omega (arith, read_more c.args.field.now c.loop-b.b-index (omega arith), c.loop-b.invariant.0), omega arith)

pub returns : goal.returns
returns c =
    let f = c.args.field.now in
    let e : c.loop-b.number ≡ read 0 f = c.loop-b.invariant.0 ∙ read_all f c.loop-b.b-index (omega arith) in
    (plain_spelled f (c.is_plain.ensures.0 c.if-not-is_plain.false) ∙ ap spelled (sym e), omega (arith, c.loop-b.invariant.1, c.from-limit.ensures))
