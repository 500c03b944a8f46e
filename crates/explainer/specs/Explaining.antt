-- What one line does to the explain program's state.
use Rattle.std.specs.Prelude.{◌≡◌, ℕ, ◌+◌, ◌<◌, ◌≤◌, Bool, true, List, [], ◌∷◌, ◌++◌, is_some, string_bytes, String, Option, Result}
use Rattle.std.specs.Global.{Global}
use Rattle.fault.specs.declared.LineFault.{LineFault}
use Rattle.sessions.specs.declared.session.Answer.{Answer}
use Rattle.sessions.specs.declared.study.Study.{Study}
use Rattle.sessions.specs.Sessions.{Answered}
use Rattle.explainer.specs.Written.{answer_line}

-- the study, if a line has opened one, how many lines were taken, and the text that is still to be printed, with its room
pub record Progress : Type 0 where
  pub study : Option Study
  pub lines : ℕ
  pub output : String Global

-- a line is answered under its number; past the first million it is left
pub record Handled (line : List ℕ) (s s' : Progress) (ok : Bool) : Type 0 where
  pub past : 1000000 ≤ s.lines → s' ≡ s
  pub number : s.lines < 1000000 → s'.lines ≡ s.lines + 1
  pub answer : s.lines < 1000000 → (a : Result Answer LineFault) × Answered line s.study s'.study a
      × (ok ≡ true → string_bytes s'.output ≡ string_bytes s.output ++ answer_line (s.lines + 1) (is_some s.study) a)

-- the same of what follows the last line feed, if anything does
abbrev pub LastHandled : List ℕ → Progress → Progress → Type 0
LastHandled [] s s' = s' ≡ s
LastHandled (b ∷ bs) s s' = Handled (b ∷ bs) s s' true
