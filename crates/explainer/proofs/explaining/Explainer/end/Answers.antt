-- The proof of `end`: what the search leaves open.
use Rattle.std.proofs.Common.{◌≡◌, ℕ, ◌<◌, true, List, [], ◌∷◌, ◌++◌, length, refl, arith}
use Rattle.std.proofs.lemmas.Grind.{common_steps}
use Rattle.std.proofs.lemmas.Result.{on_ok_weaker}
use Rattle.sessions.specs.Histories.{Taken, with_last}
use Rattle.explainer.specs.Explaining.{Progress, Handled, LastHandled}
use Rattle.explainer.proofs.explaining.Explainer.end.Goals as goal
use Rattle.explainer.proofs.explaining.Explainer.end.Goals.{then-not-is_empty+in_ok-handle, else-not-is_empty}

with_none : (ls : List (List ℕ)) (last : List ℕ) → length last ≡ 0 → with_last ls last ≡ ls
with_none ls [] e = refl
with_none ls (b ∷ bs) e = absurd (omega arith)

with_some : (ls : List (List ℕ)) (last : List ℕ) → 0 < length last → with_last ls last ≡ ls ++ last ∷ []
with_some ls [] l = absurd (omega arith)
with_some ls (b ∷ bs) l = refl

handled_none : (last : List ℕ) (s : Progress) → length last ≡ 0 → LastHandled last s s
handled_none [] s e = refl
handled_none (b ∷ bs) s e = absurd (omega arith)

handled_some : (last : List ℕ) (s s' : Progress) → 0 < length last → Handled last s s' true → LastHandled last s s'
handled_some [] s s' l h = absurd (omega arith)
handled_some (b ∷ bs) s s' l h = h

pub returns-clause-prints : goal.returns-clause-prints
returns-clause-prints c = on_ok_weaker c.finish.result (λ printed.
    let handled : LastHandled c.args.last.now c.args.self.now c.if-not-is_empty.self = elim c.if-not-is_empty.branch [
      | then-not-is_empty+in_ok-handle w ↦ rw w.self-is (handled_some c.args.last.now c.args.self.now w.handle.new.self (grind (arith, common_steps)) w.in_ok-handle.ensures.answers)
      | else-not-is_empty w ↦ rw w.self-is (handled_none c.args.last.now c.args.self.now (grind (arith, common_steps)))
    ] in
    (c.if-not-is_empty.self, handled, c.finish.ensures.keeps.0, printed)) c.finish.ensures.prints

pub returns-clause-counts : goal.returns-clause-counts
returns-clause-counts c = on_ok_weaker c.finish.result (λ _ ls taken.
    let all : Taken c.if-not-is_empty.self.study c.if-not-is_empty.self.lines (with_last ls c.args.last.now) = elim c.if-not-is_empty.branch [
      | then-not-is_empty+in_ok-handle w ↦ rw (w.self-is, with_some ls c.args.last.now (grind (arith, common_steps))) (w.in_ok-handle.ensures.after ls taken)
      | else-not-is_empty w ↦ rw (w.self-is, with_none ls c.args.last.now (grind (arith, common_steps))) taken
    ] in
    rw c.finish.ensures.keeps.0 (c.finish.ensures.counts (with_last ls c.args.last.now) all)) c.finish.ensures.prints
