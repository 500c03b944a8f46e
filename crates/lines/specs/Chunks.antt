-- An input that is handed on a chunk at a time.
use Rattle.std.specs.Prelude.{◌≡◌, ℕ, ◌-◌, ◌^◌, ◌<◌, ◌≤◌, ◌⊎◌, List, [], length, Option, Result, Ok, Err, OnOk, MatchResult}
use Rattle.std.specs.List.{All, FoldsTo, concat}
use Rattle.std.specs.Borrow.{Bor}
use Rattle.std.specs.Fn.{Mut, CalledAt}
use Rattle.std.specs.Io.KnownBytes.{Consumes, IsAtEnd}
use Rattle.std.specs.declared.ops.ControlFlow.{ControlFlow}
use Rattle.std.specs.declared.ops.ControlFlow.TheVariants.{Continue, Break}

-- what is called at a chunk, and says whether it goes on
abbrev pub Taking : Type 0 → Type 0 → Type 1
Taking F E = Mut F (Bor (List ℕ) × Unit {0}) (Result (ControlFlow (Unit {0}) (Unit {0})) E)

-- a chunk has a byte, and at most 4096
abbrev pub IsChunk : List ℕ → Type 0
IsChunk bytes = (0 < length bytes) × (length bytes ≤ 4096)

-- so many calls that go on, one after another at some chunks, which together are what was read
pub record GoesOn {F E : Type 0} (g : Taking F E) (count : ℕ) (first last : F) (before after : Option (List ℕ)) : Type 0 where
  pub chunks : List (List ℕ)
  pub counted : length chunks ≡ count
  pub calls : FoldsTo (λ p chunk q. CalledAt g p chunk (Ok (Continue tt)) q) first chunks last
  pub sizes : All IsChunk chunks
  pub whole : Consumes before after (concat chunks)

-- a call at a last chunk: it breaks off, or its error is the result
pub record EndsWithCall {F E : Type 0} (g : Taking F E) (take : F) (before after : Option (List ℕ)) (result : Result (Unit {0}) E) : Type 0 where
  pub chunk : List ℕ
  pub answer : Result (ControlFlow (Unit {0}) (Unit {0})) E
  pub last : F
  pub called : CalledAt g take chunk answer last
  pub size : IsChunk chunk
  pub whole : Consumes before after chunk
  pub told : MatchResult answer (λ flow. (flow ≡ Break tt) × (result ≡ Ok tt)) (λ e. result ≡ Err e)

-- no further call after so many: where the result is `Ok` the input is at its end, or as many calls were made as are made at most
abbrev pub EndsAlone : {E : Type 0} → ℕ → Option (List ℕ) → Option (List ℕ) → Result (Unit {0}) E → Type 0
EndsAlone count before after result = Consumes before after [] × OnOk result (IsAtEnd after ⊎ (count ≡ 2 ^ 64 - 1))

-- calls that go on, and then one that does not, or none
pub record HandsOn {F E : Type 0} (g : Taking F E) (take : F) (before after : Option (List ℕ)) (result : Result (Unit {0}) E) : Type 0 where
  pub count : ℕ
  pub going : F
  pub left : Option (List ℕ)
  pub went : GoesOn g count take going before left
  pub ending : EndsWithCall g going left after result ⊎ EndsAlone count left after result
