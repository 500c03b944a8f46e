-- The proof of `write_table`: what the search leaves open.
use Rattle.std.proofs.Common.{◌≡◌, ℕ, ◌+◌, ◌<◌, List, ◌++◌, length, get_or, take, string_bytes, codes, refl, ap, ◌∙◌, append_assoc, arith}
use Rattle.std.specs.List.{enumerate_from, flat_map}
use Rattle.std.proofs.lemmas.List.{take_all, take_more, flat_map_more}
use Rattle.std.proofs.lemmas.List.FromFn.{length-enumerate_from, get_or-enumerate_from}
use Rattle.sessions.specs.declared.tally.Counts.{Counts}
use Rattle.explainer.specs.Written.{counts_line, counts_lines}
use Rattle.explainer.proofs.answers.write_table.Goals as goal

counts_more : (start now next : List ℕ) (cs : List Counts) (i : ℕ) (d : Counts) → i < length cs → now ≡ start ++ flat_map (λ p. counts_line p.0 p.1) (take i (enumerate_from 0 cs))
    → next ≡ now ++ counts_line i (get_or cs i d) → next ≡ start ++ flat_map (λ p. counts_line p.0 p.1) (take (i + 1) (enumerate_from 0 cs))
counts_more start now next cs i d l was more =
    let xs = enumerate_from 0 cs in
    let z : 0 + i ≡ i = omega arith in
    rw (take_more xs i (0, d) (omega (arith, length-enumerate_from 0 cs)), get_or-enumerate_from 0 cs i (0, d) l, ← flat_map_more (λ p. counts_line p.0 p.1) start (take i xs) (0 + i, get_or cs i d)) cc

pub loop-place-preserved : goal.loop-place-preserved
loop-place-preserved c =
    counts_more (string_bytes c.write_str.new.self) (string_bytes c.loop-place.to) (string_bytes c.write.new.self) c.args.counts.now c.loop-place.place _ (omega arith) c.loop-place.invariant
    c.in_ok-write.ensures.bytes

pub returns : goal.returns
returns c =
    let xs = enumerate_from 0 c.args.counts.now in
    c.loop-place.invariant
    ∙ ap (λ v. string_bytes c.write_str.new.self ++ flat_map (λ p. counts_line p.0 p.1) v) (take_all c.loop-place.place xs (omega (arith, length-enumerate_from 0 c.args.counts.now)))
    ∙ ap (λ v. v ++ counts_lines 0 c.args.counts.now) (c.in_ok-write_str.ensures.ok refl)
    ∙ append_assoc (string_bytes c.args.to.now) (codes "place\tlow\thigh\n") (counts_lines 0 c.args.counts.now)
