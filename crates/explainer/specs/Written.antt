-- The bytes of answer lines.
use Rattle.std.specs.Prelude.{ℕ, Bool, true, false, List, [], ◌++◌, take, flat_map, Some, None, Ok, Err, codes, decimal, Option, Result}
use Rattle.std.specs.List.{enumerate_from}
use Rattle.fault.specs.declared.LineFault.{LineFault}
use Rattle.fault.specs.declared.LineFault.TheVariants.{Text, Call}
use Rattle.fault.specs.declared.TextFault.TheVariants.{Line, Letter, Fields, Digits, Size, Dimension, Knob, Count}
use Rattle.fault.specs.Numbers.{layer_word, line_number, line_layer, line_field}
use Rattle.grid.specs.declared.parts.KeyParts.{KeyParts}
use Rattle.grid.specs.Keys.{key_at}
use Rattle.grid.specs.Words.{edge_word}
use Rattle.sessions.specs.declared.session.Answer.{Answer}
use Rattle.sessions.specs.declared.session.Answer.TheVariants.{Opened, Explained}
use Rattle.sessions.specs.declared.tally.Counts.{Counts}
use Rattle.sessions.specs.declared.study.Study.{Study}

-- the letter that a session takes, opened or not
abbrev pub taken_letter : Bool → List ℕ
taken_letter false = codes "D"
taken_letter true = codes "V"

-- the letter of a refused line: none where the line is too long or its letter is wrong
abbrev pub refused_letter : Bool → LineFault → List ℕ
refused_letter opened (Text Line) = codes "-"
refused_letter opened (Text Letter) = codes "-"
refused_letter opened (Text Fields) = taken_letter opened
refused_letter opened (Text (Digits f)) = taken_letter opened
refused_letter opened (Text (Size f)) = taken_letter opened
refused_letter opened (Text (Dimension f)) = taken_letter opened
refused_letter opened (Text (Knob f)) = taken_letter opened
refused_letter opened (Text (Count f)) = taken_letter opened
refused_letter opened (Call s) = taken_letter opened

-- number of the line, letter, 0, key, place, edge
abbrev pub explained_line : ℕ → KeyParts → List ℕ
explained_line n p = decimal n ++ (codes "\tV\t0\t" ++ (decimal (key_at p.place p.measure) ++ (codes "\t" ++ (decimal p.place ++ (codes "\t" ++ (edge_word p.edge ++ codes "\n"))))))

-- number of the line, letter, number of the refusal, layer, field
abbrev pub refused_line : ℕ → List ℕ → LineFault → List ℕ
refused_line n letter e = decimal n ++ (codes "\t" ++ (letter ++ (codes "\t" ++ (decimal (line_number e) ++ (codes "\t" ++ (layer_word (line_layer e) ++ (codes "\t" ++ (decimal (line_field e) ++ codes "\n"))))))))

abbrev pub accepted_line : ℕ → Answer → List ℕ
accepted_line n Opened = decimal n ++ codes "\tD\t0\n"
accepted_line n (Explained p) = explained_line n p

-- the answer to line n of a session, opened or not
abbrev pub answer_line : ℕ → Bool → Result Answer LineFault → List ℕ
answer_line n opened (Ok a) = accepted_line n a
answer_line n opened (Err e) = refused_line n (refused_letter opened e) e

-- place, count on the low edge, count on the high edge
abbrev pub counts_line : ℕ → Counts → List ℕ
counts_line j c = decimal j ++ (codes "\t" ++ (decimal c.low ++ (codes "\t" ++ (decimal c.high ++ codes "\n"))))

-- the lines of places from j on
abbrev pub counts_lines : ℕ → List Counts → List ℕ
counts_lines j cs = flat_map (λ p. counts_line p.0 p.1) (enumerate_from j cs)

-- a title, and a line for each place
abbrev pub table_of : List Counts → List ℕ
table_of cs = codes "place\tlow\thigh\n" ++ counts_lines 0 cs

-- what is printed at the end of a session: nothing, or the table of its setting's places
abbrev pub closing : Option Study → List ℕ
closing None = []
closing (Some s) = table_of (take s.setting.places s.tally)
