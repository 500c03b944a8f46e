-- A whole session: the answers to its lines, and what the counts at its end say of them.
use Rattle.std.specs.Prelude.{◌≡◌, ℕ, ◌<◌, min, Bool, false, ◌&&◌, List, [], ◌∷◌, ◌++◌, length, take, count_by, Some, None, Ok, Err, Option, Result, ◌==◌}
use Rattle.fault.specs.declared.LineFault.{LineFault}
use Rattle.grid.specs.declared.parts.Edge.{Edge}
use Rattle.sessions.specs.declared.study.Study.{Study}
use Rattle.sessions.specs.declared.session.Answer.{Answer}
use Rattle.sessions.specs.declared.session.Answer.TheVariants.{Opened, Explained}
use Rattle.sessions.specs.Tallies.{same_edge, count_at}
use Rattle.sessions.specs.Sessions.{Answered}

-- the results of the lines ls, each on the study that the line before it left, from s to t
abbrev pub Ran : Option Study → List (List ℕ) → List (Result Answer LineFault) → Option Study → Type 0
Ran s [] rs t = (rs ≡ []) × (t ≡ s)
Ran s (l ∷ ls) rs t = (u : Option Study) × (r : Result Answer LineFault) × (qs : List (Result Answer LineFault)) × (rs ≡ r ∷ qs) × Answered l s u r × Ran u ls qs t

-- whether an answer names place j and edge e
abbrev pub names : ℕ → Edge → Result Answer LineFault → Bool
names j e (Ok Opened) = false
names j e (Ok (Explained p)) = p.place == j && same_edge p.edge e
names j e (Err f) = false

-- how many of the answers do
abbrev pub naming : ℕ → Edge → List (Result Answer LineFault) → ℕ
naming j e rs = count_by (names j e) rs

-- the counts of a study, if there is one, are those of the answers
abbrev pub CountsAnswers : Option Study → List (Result Answer LineFault) → Type 0
CountsAnswers None rs = Unit {0}
CountsAnswers (Some s) rs = (j : ℕ) (e : Edge) → j < 16 → count_at s.tally j e ≡ naming j e rs

-- the session has taken the lines ls, of which only the first million count
abbrev pub Taken : Option Study → ℕ → List (List ℕ) → Type 0
Taken s n ls = (n ≡ min (length ls) 1000000) × (rs : List (Result Answer LineFault)) × Ran None (take 1000000 ls) rs s

-- after the lines ls: some answers lead to this study, and whichever do, the counts are theirs
pub record Ended (ls : List (List ℕ)) (s : Option Study) : Type 0 where
  pub answers : (rs : List (Result Answer LineFault)) × Ran None (take 1000000 ls) rs s
  pub counts : (rs : List (Result Answer LineFault)) → Ran None (take 1000000 ls) rs s → CountsAnswers s rs

-- the lines with what follows the last line feed, if anything does
abbrev pub with_last : List (List ℕ) → List ℕ → List (List ℕ)
with_last ls [] = ls
with_last ls (b ∷ bs) = ls ++ (b ∷ bs) ∷ []
