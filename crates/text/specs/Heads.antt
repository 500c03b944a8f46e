-- The head of a line: a letter as its first field.
use Rattle.std.specs.Prelude.{◌≡◌, ℕ, ◌<◌, ◌≤◌, ◌⊎◌, List, [], ◌∷◌, length, Ok, Err, Result, ◌≢◌}
use Rattle.fault.specs.declared.TextFault.{TextFault}
use Rattle.fault.specs.declared.TextFault.TheVariants.{Line, Letter}
use Rattle.text.specs.Fields.{fields}

-- a line of at most 255 bytes begins with the letter b, and fs are the fields after it
pub record HeadOf (line : List ℕ) (b : ℕ) (fs : List (List ℕ)) : Type 0 where
  pub short : length line ≤ 255
  pub parts : fields line ≡ (b ∷ []) ∷ fs

-- what the reading of a head answers: a letter and the fields after it
abbrev pub ReadHead : List ℕ → Result (ℕ × List (List ℕ)) TextFault → Type 0
ReadHead line (Ok (b, fs)) = HeadOf line b fs
ReadHead line (Err e) = ((e ≡ Line) × (255 < length line))
    ⊎ ((e ≡ Letter) × (length line ≤ 255) × ((b : ℕ) (fs : List (List ℕ)) → fields line ≢ (b ∷ []) ∷ fs))
