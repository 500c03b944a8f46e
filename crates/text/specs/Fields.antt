-- The fields of a line: the line cut at its tabs.
use Rattle.std.specs.Prelude.{◌≡◌, ℕ, ◌<◌, List, [], ◌∷◌, ◌++◌, length, Some, None, Option, All, ◌==◌, ◌≢◌}
use Rattle.std.specs.Borrow.{Bor}
use Rattle.std.specs.List.{slice_split, join_with_byte}

abbrev pub fields : List ℕ → List (List ℕ)
fields line = slice_split (λ b. b == 9) line

-- those of what is left of a line, if anything is
abbrev pub left : Option (Bor (List ℕ)) → List (List ℕ)
left None = []
left (Some rest) = fields rest.now

-- no byte is a tab
abbrev pub Tabless : List ℕ → Type 0
Tabless f = All (λ b. b ≢ 9) f

-- joined by tabs the fields are the line, and none holds a tab
pub record FieldsOf (line : List ℕ) (fs : List (List ℕ)) : Type 0 where
  pub some : 0 < length fs
  pub whole : join_with_byte 9 fs ≡ line
  pub apart : All Tabless fs

-- that holds of the fields of every line
abbrev pub FieldsJoin : Type 0
FieldsJoin = (line : List ℕ) → FieldsOf line (fields line)

-- f is the first field of a line, and the second part what follows its tab, if it has one
abbrev pub FirstField : List ℕ → List ℕ → Option (Bor (List ℕ)) → Type 0
FirstField line f None = (line ≡ f) × Tabless f
FirstField line f (Some rest) = (line ≡ f ++ 9 ∷ rest.now) × Tabless f
