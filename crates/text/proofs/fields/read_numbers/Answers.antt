-- The proof of `read_numbers`: what the search leaves open.
use Rattle.std.proofs.Common.{rules, ◌≡◌, ◌≤◌, ℕ, [], ◌∷◌, ◌++◌, List, Ok, length, refl, arith, Bor}
use Rattle.std.proofs.lemmas.Iterator.Consumers.{YieldsList-from_first, YieldsList-from_enumerate, YieldsList-at, YieldsList-turn, YieldsList-end}
use Rattle.std.proofs.lemmas.List.{length_push}
use Rattle.std.proofs.lemmas.List.FromFn.{length-enumerate_from}
use Rattle.text.proofs.FieldLemmas.{enumerated, reading_more, reading_done}
use Rattle.text.proofs.fields.read_numbers.Goals as goal

pub loop-i-preserved : goal.loop-i-preserved
loop-i-preserved c =
    let fs = c.args.fields in
    let field = c.in-Some.field in
    let items = YieldsList-at c.enumerate-i-items.ensures.source (YieldsList-from_first (λ (x : Bor (List ℕ)). x.now) (λ (s : List (List ℕ)). s) fs refl) in
    let road = YieldsList-at c.into_iter-i-iterator.ensures.into_iter_gives (YieldsList-from_enumerate items c.enumerate-i-items.ensures.count) in
    let turn = YieldsList-turn road c.loop-i.yielded c.loop-i.i-iterator c.loop-i.yielded_by c.next.result c.next.new.self (c.in-Some.i, field) c.in-Some.is c.next.ensures.steps in
    let at = enumerated fs (length c.loop-i.yielded) c.in-Some.i field.now turn.0 turn.1 in
    let long : length fs ≡ length c.loop-i.out = search rules in
    let was : c.read_number.result ≡ Ok c.in_ok-number.number = search rules in
    let spells = rw was at c.read_number.ensures in
    (search rules, search rules, reading_more fs c.args.out.now c.loop-i.out (length c.loop-i.yielded) c.loop-i.invariant.2 c.in-Some.i (length (c.loop-i.yielded ++ (c.in-Some.i, field) ∷ [])) c.in_ok-number.number at.1 (length_push c.loop-i.yielded (c.in-Some.i, field)) long (omega arith) field.now at.2 spells.0 spells.1)

pub returns : goal.returns
returns c =
    let fs = c.args.fields in
    let items = YieldsList-at c.enumerate-i-items.ensures.source (YieldsList-from_first (λ (x : Bor (List ℕ)). x.now) (λ (s : List (List ℕ)). s) fs refl) in
    let road = YieldsList-at c.into_iter-i-iterator.ensures.into_iter_gives (YieldsList-from_enumerate items c.enumerate-i-items.ensures.count) in
    let end = YieldsList-end road c.loop-i.yielded c.loop-i.i-iterator c.loop-i.yielded_by c.next.result c.next.new.self c.in-None.is c.next.ensures.steps in
    let long : length fs ≡ length c.args.out.now = search rules in
    let now : length fs ≡ length c.loop-i.out = search rules in
    let all : length c.loop-i.out ≤ length c.loop-i.yielded = omega (arith, end.1, now, length-enumerate_from 0 fs) in
    (long, reading_done fs c.args.out.now c.loop-i.out (length c.loop-i.yielded) now all c.loop-i.invariant.2)
