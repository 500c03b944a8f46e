-- The checks of a call, in their order: a refused call gives the number of the first check that fails.
use Rattle.std.specs.Prelude.{◌≡◌, ℕ, ◌⊎◌, Ok, Err, Result}

-- each check has its number and what it asks
pub data Checks : Type 1 where
  done : Checks
  check : ℕ → Type 0 → Checks → Checks

-- every check passes
abbrev pub Passes : Checks → Type 0
Passes done = Unit {0}
Passes (check n P rest) = P × Passes rest

-- n is the number of the first check that fails
abbrev pub Fails : Checks → ℕ → Type 0
Fails done n = ⊥
Fails (check m P rest) n = ((n ≡ m) × (P → ⊥)) ⊎ (P × Fails rest n)

-- a call that makes these checks gives a result with Q where all pass, and else the first refusal
abbrev pub Answers : {T F : Type 0} → (F → ℕ) → Checks → (T → Type 0) → Result T F → Type 0
Answers number cs Q (Ok x) = Passes cs × Q x
Answers number cs Q (Err e) = Fails cs (number e)
