-- The proof of `feed_byte`: what the search leaves open.
use Rattle.std.proofs.Common.{◌∷◌, ◌++◌, [], ap, ◌∙◌, take, rules, ◌≢◌}
use Rattle.std.proofs.lemmas.Bool.{ne_eqb}
use Rattle.lines.proofs.Cutting.{take-take_push}
use Rattle.lines.proofs.feeding.feed_byte.Goals as goal

pub returns-else-is_line_feed : goal.returns-else-is_line_feed
returns-else-is_line_feed g c = λ p taken.
    let other : c.args.b ≢ 10 = search rules in
    rw (ne_eqb c.args.b 10 other) (c.push.ensures ∙ ap (λ v. take 256 (v ++ c.args.b ∷ [])) taken.0 ∙ take-take_push 256 p.rest c.args.b, taken.1)
