-- The proof of `push`: what the search leaves open.
use Rattle.std.proofs.Common.{◌<◌, ◌∷◌, [], length, take, sym, ◌∙◌, rules, arith, length-take}
use Rattle.std.proofs.lemmas.List.{take_more_set}
use Rattle.lines.proofs.Cutting.{take_push, take-append_full}
use Rattle.lines.proofs.reader.LineReader.push.Goals as goal

pub returns-then-has_room : goal.returns-then-has_room
returns-then-has_room c =
    let bytes = c.self.inside.bytes in
    let len = c.self.inside.len in
    let now : length c.args.self.now < 256 = search rules in
    let room : length (take len bytes) < 256 = rw c.self.view_is now in
    let within : len < 256 = omega (arith, length-take len bytes, c.self.invariant.0, c.self.invariant.1) in
    rw (← c.self.view_is) (take_more_set bytes len c.args.b (omega (arith, c.self.invariant.0)) ∙ sym (take_push 256 (take len bytes) c.args.b room))

pub returns-else-has_room : goal.returns-else-has_room
returns-else-has_room c = sym (take-append_full 256 c.args.self.now (c.args.b ∷ []) (grind arith))
