-- The two fields after the letter of an opening line: a number of places and a knob.
use Rattle.std.specs.Prelude.{◌≡◌, ℕ, ◌⊎◌, List, [], ◌∷◌, length, ℤ, pos, negsuc, Some, None, Ok, Err, Option, Result, ◌≢◌}
use Rattle.std.specs.Borrow.{Bor}
use Rattle.fault.specs.declared.TextFault.{TextFault}
use Rattle.fault.specs.declared.TextFault.TheVariants.{Fields, Digits, Dimension, Knob}
use Rattle.text.specs.declared.numbers.NumberFault.{NumberFault}
use Rattle.text.specs.declared.numbers.NumberFault.TheVariants.{Digits as NoNumber, Size as TooLarge}
use Rattle.text.specs.Spelling.{ReadNumber, ReadSigned}

-- the fault of field i of a line, where `outside` is the one of a number outside the limits
abbrev pub field_fault : ℕ → TextFault → NumberFault → TextFault
field_fault i outside NoNumber = Digits i
field_fault i outside TooLarge = outside

-- a number of places, the second field of the line
abbrev pub ReadPlaces : List ℕ → Result ℕ TextFault → Type 0
ReadPlaces f (Ok d) = ReadNumber 65535 f (Ok d)
ReadPlaces f (Err e) = (kind : NumberFault) × ReadNumber 65535 f (Err kind) × (e ≡ field_fault 2 (Dimension 2) kind)

-- a knob, the third field of the line
abbrev pub ReadTheta : List ℕ → Result ℤ TextFault → Type 0
ReadTheta f (Ok θ) = ReadSigned (negsuc 65535) (pos 65535) f (Ok θ)
ReadTheta f (Err e) = (kind : NumberFault) × ReadSigned (negsuc 65535) (pos 65535) f (Err kind) × (e ≡ field_fault 3 (Knob 3) kind)

-- the fields, where there are two
abbrev pub TwoFields : List (List ℕ) → Option (Bor (List ℕ) × Bor (List ℕ)) → Type 0
TwoFields fs None = length fs ≢ 2
TwoFields fs (Some (f, g)) = fs ≡ f.now ∷ (g.now ∷ [])

-- a number of places and a knob, read from the left
abbrev pub ReadPair : List ℕ → List ℕ → Result (ℕ × ℤ) TextFault → Type 0
ReadPair f g (Ok (d, θ)) = ReadPlaces f (Ok d) × ReadTheta g (Ok θ)
ReadPair f g (Err e) = ReadPlaces f (Err e) ⊎ ((d : ℕ) × ReadPlaces f (Ok d) × ReadTheta g (Err e))

-- the fields fs after the letter: those two
abbrev pub ReadOpening : List (List ℕ) → Result (ℕ × ℤ) TextFault → Type 0
ReadOpening fs (Ok p) = (f : List ℕ) × (g : List ℕ) × (fs ≡ f ∷ (g ∷ [])) × ReadPair f g (Ok p)
ReadOpening fs (Err e) = ((e ≡ Fields) × (length fs ≢ 2)) ⊎ ((f : List ℕ) × (g : List ℕ) × (fs ≡ f ∷ (g ∷ [])) × ReadPair f g (Err e))
