-- The two lines that are understood: D d θ opens, V with a vector asks for its key.
use Rattle.std.specs.Prelude.{◌≡◌, ℕ, ◌+◌, ◌<◌, ◌≤◌, ◌⊎◌, List, [], ◌∷◌, length, ℤ, Ok, Err, Result, ◌≢◌}
use Rattle.fault.specs.declared.TextFault.{TextFault}
use Rattle.fault.specs.declared.TextFault.TheVariants.{Line, Letter, Fields, Digits, Size}
use Rattle.text.specs.declared.numbers.NumberFault.{NumberFault}
use Rattle.text.specs.declared.numbers.NumberFault.TheVariants.{Digits as NoNumber, Size as TooLarge}
use Rattle.text.specs.declared.fields.FieldsFault.{FieldsFault}
use Rattle.text.specs.declared.fields.FieldsFault.TheVariants.{Count, At}
use Rattle.text.specs.Fields.{fields}
use Rattle.text.specs.Heads.{HeadOf}
use Rattle.text.specs.Openings.{ReadOpening}
use Rattle.text.specs.Reading.{Spells, Faulty, ReadFields}

-- the line is too long, or does not begin with the letter b; 68 is D, 86 is V
abbrev pub HeadFault : List ℕ → ℕ → TextFault → Type 0
HeadFault line b e = ((e ≡ Line) × (255 < length line)) ⊎ ((e ≡ Letter) × (length line ≤ 255) × ((fs : List (List ℕ)) → fields line ≢ (b ∷ []) ∷ fs))

-- what the reading of an opening line answers
abbrev pub OpeningLine : List ℕ → Result (ℕ × ℤ) TextFault → Type 0
OpeningLine line (Ok p) = (fs : List (List ℕ)) × HeadOf line 68 fs × ReadOpening fs (Ok p)
OpeningLine line (Err e) = HeadFault line 68 e ⊎ ((fs : List (List ℕ)) × HeadOf line 68 fs × ReadOpening fs (Err e))

-- a faulty field after the letter, counted from field 2, as a fault of the line
abbrev pub line_fault : FieldsFault → TextFault
line_fault Count = Fields
line_fault (At NoNumber i) = Digits (i + 2)
line_fault (At TooLarge i) = Size (i + 2)

-- a line of at most 255 bytes has no field past the 256th
abbrev pub Near : FieldsFault → Type 0
Near Count = Unit {0}
Near (At kind i) = i ≤ 255

-- what the reading of measures answers, from the fields fs after the letter, with the places o before and o' after
abbrev pub ReadMeasures : List (List ℕ) → List ℕ → List ℕ → Result (Unit {0}) TextFault → Type 0
ReadMeasures fs o o' (Ok u) = ReadFields fs o o' (Ok u)
ReadMeasures fs o o' (Err e) = (f : FieldsFault) × ReadFields fs o o' (Err f) × (e ≡ line_fault f)

-- what the reading of a vector line answers
abbrev pub VectorLine : List ℕ → List ℕ → List ℕ → Result (Unit {0}) TextFault → Type 0
VectorLine line o o' (Ok u) = (fs : List (List ℕ)) × HeadOf line 86 fs × ReadMeasures fs o o' (Ok u)
VectorLine line o o' (Err e) = (HeadFault line 86 e × (o' ≡ o)) ⊎ ((fs : List (List ℕ)) × HeadOf line 86 fs × ReadMeasures fs o o' (Err e))

-- the line is V with the vector v of d measures
abbrev pub VectorOf : ℕ → List ℕ → List ℕ → Type 0
VectorOf d line v = (length v ≡ d) × (fs : List (List ℕ)) × HeadOf line 86 fs × Spells fs v

-- the fields after the letter are not d measures: another count, or one that is no measure
abbrev pub MeasuresFault : ℕ → List (List ℕ) → TextFault → Type 0
MeasuresFault d fs e = ((e ≡ Fields) × (length fs ≢ d))
    ⊎ ((length fs ≡ d) × (kind : NumberFault) × (i : ℕ) × (ns : List ℕ) × Faulty fs kind i ns × (e ≡ line_fault (At kind i)))

-- the line is not V with a vector of d measures
abbrev pub VectorFault : ℕ → List ℕ → TextFault → Type 0
VectorFault d line e = HeadFault line 86 e ⊎ ((fs : List (List ℕ)) × HeadOf line 86 fs × MeasuresFault d fs e)
