-- The proof of `handle`: what the search leaves open.
use Rattle.std.proofs.Common.{ap, arith}
use Rattle.std.proofs.lemmas.Grind.{common_steps}
use Rattle.std.proofs.lemmas.Result.{on_ok_weaker}
use Rattle.sessions.proofs.Answering.{taken_past, taken_more}
use Rattle.explainer.proofs.explaining.ExplainerLineHandler.handle.Goals as goal

pub returns-then-is_done-clause-after : goal.returns-then-is_done-clause-after
returns-then-is_done-clause-after c = λ ls taken. taken_past c.args.self.now.study c.args.self.now.lines ls c.args.line.now (omega arith) taken

pub returns-clause-after : goal.returns-clause-after
returns-clause-after c =
    rw (← c.self.view_is)
    (on_ok_weaker c.write_answer.result
    (λ _ ls taken. taken_more c.self.inside.session c.answer-answer.new.self c.self.inside.lines ls c.args.line.now c.answer-answer.result (grind (arith, common_steps, ap (λ s. s.lines) c.self.view_is)) taken c.answer-answer.ensures)
    c.write_answer.ensures)
