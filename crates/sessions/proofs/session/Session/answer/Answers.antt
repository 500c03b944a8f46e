-- The proof of `answer`: what the search leaves open.
use Rattle.std.proofs.Common.{refl}
use Rattle.sessions.proofs.session.Session.answer.Goals as goal

pub returns-in_ok-parts-in-Some : goal.returns-in_ok-parts-in-Some
returns-in_ok-parts-in-Some c = rw (← c.self.view_is, c.in-Some.is) (c.explain_line.new.study, refl, c.in_ok-parts-in-Some.ensures)

pub returns-in_ok-open_line-in-None : goal.returns-in_ok-open_line-in-None
returns-in_ok-open_line-in-None c = rw (← c.self.view_is, c.in-None.is) (c.in_ok-open_line-in-None.field-0, refl, c.in_ok-open_line-in-None.ensures)
