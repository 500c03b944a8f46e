-- What the reading of fields as numbers up to 65,535 answers and writes.
use Rattle.std.specs.Prelude.{◌≡◌, ℕ, ◌<◌, ◌≤◌, List, [], map, length, take, drop, Ok, Err, Result, All, ◌≢◌, slice_index_or}
use Rattle.text.specs.declared.numbers.NumberFault.{NumberFault}
use Rattle.text.specs.declared.fields.FieldsFault.{FieldsFault}
use Rattle.text.specs.declared.fields.FieldsFault.TheVariants.{Count, At}
use Rattle.text.specs.Spelling.{spelled, ReadNumber}

-- the fields spell the numbers
pub record Spells (fs : List (List ℕ)) (ns : List ℕ) : Type 0 where
  pub same : fs ≡ map spelled ns
  pub small : All (λ n. n ≤ 65535) ns

-- field i, from 0, is the first that is no number or too large; ns are the numbers before it
pub record Faulty (fs : List (List ℕ)) (kind : NumberFault) (i : ℕ) (ns : List ℕ) : Type 0 where
  pub within : i < length fs
  pub before : Spells (take i fs) ns
  pub here : ReadNumber 65535 (slice_index_or fs i []) (Err kind)

-- the fields fs, the places o before and o' after
abbrev pub ReadFields : List (List ℕ) → List ℕ → List ℕ → Result (Unit {0}) FieldsFault → Type 0
ReadFields fs o o' (Ok _) = (length fs ≡ length o) × Spells fs o'
ReadFields fs o o' (Err Count) = (length fs ≢ length o) × (o' ≡ o)
ReadFields fs o o' (Err (At kind i)) = (length fs ≡ length o) × Faulty fs kind i (take i o') × (drop i o' ≡ drop i o)
