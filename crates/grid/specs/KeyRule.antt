-- The rule of the key as a relation, and the laws that callers use.
use Rattle.std.specs.Prelude.{◌≡◌, ℕ, ◌+◌, ◌*◌, ◌^◌, ◌<◌, ◌≤◌, ◌⊎◌, List, length, ℤ, pos, ◌+ℤ◌, ◌-ℤ◌, ◌≤ℤ◌, ◌<ℤ◌, ◌≢◌, slice_index, slice_index_or}
use Rattle.grid.specs.Vectors.{OnGrid}
use Rattle.grid.specs.Keys.{key_of, key_at, key_place, key_measure}

-- p is the first place of v that has the measure a
pub record FirstPlace (v : List ℕ) (a p : ℕ) : Type 0 where
  pub within : p < length v
  pub there : slice_index_or v p 0 ≡ a
  pub first : (i : ℕ) → i < p → slice_index v i ≢ a

-- no measure of v is below a
abbrev pub NoneBelow : List ℕ → ℕ → Type 0
NoneBelow v a = (i : ℕ) → i < length v → a ≤ slice_index v i

-- no measure of v is above b
abbrev pub NoneAbove : List ℕ → ℕ → Type 0
NoneAbove v b = (i : ℕ) → i < length v → slice_index v i ≤ b

-- a is the least measure and p its first place, b the greatest and q its first place
pub record Extremes (v : List ℕ) (a p b q : ℕ) : Type 0 where
  pub least : NoneBelow v a
  pub least_place : FirstPlace v a p
  pub greatest : NoneAbove v b
  pub greatest_place : FirstPlace v b q

-- k is made of the least measure on the low edge, and else of the greatest
abbrev pub EdgeKey : ℤ → ℕ → ℕ → ℕ → ℕ → ℕ → Type 0
EdgeKey θ a p b q k = (((pos a +ℤ θ) <ℤ (pos 65535 -ℤ pos b)) × (k ≡ 65536 * p + a)) ⊎ (((pos 65535 -ℤ pos b) ≤ℤ (pos a +ℤ θ)) × (k ≡ 65536 * q + b))

-- k is a key of v by the rule
abbrev pub HasKey : ℤ → List ℕ → ℕ → Type 0
HasKey θ v k = (a : ℕ) × (p : ℕ) × (b : ℕ) × (q : ℕ) × Extremes v a p b q × EdgeKey θ a p b q k

-- a vector has one key by the rule, the one that is computed
abbrev pub KeysFollowTheRule : Type 0
KeysFollowTheRule = (θ : ℤ) (v : List ℕ) → 0 < length v → HasKey θ v (key_of θ v) × ((k : ℕ) → HasKey θ v k → k ≡ key_of θ v)

-- what a key tells of a vector of 1 to 16 measures of the grid
pub record KeyTells (v : List ℕ) (k : ℕ) : Type 0 where
  pub fits : k < 2 ^ 32
  pub place : key_place k < length v
  pub measure : slice_index_or v (key_place k) 0 ≡ key_measure k
  pub first : (i : ℕ) → i < key_place k → slice_index v i ≢ key_measure k

abbrev pub KeysTell : Type 0
KeysTell = (θ : ℤ) (v : List ℕ) → 0 < length v → length v ≤ 16 → OnGrid v → KeyTells v (key_of θ v)

-- place and measure are read back from the key that they make
abbrev pub KeysReadBack : Type 0
KeysReadBack = (p m : ℕ) → m < 65536 → (key_place (key_at p m) ≡ p) × (key_measure (key_at p m) ≡ m)
