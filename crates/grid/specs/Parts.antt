-- The parts of a vector's key.
use Rattle.std.specs.Prelude.{◌≡◌, ℕ, List, ℤ}
use Rattle.grid.specs.declared.parts.KeyParts.{KeyParts}
use Rattle.grid.specs.Keys.{edge_of, measure_of, place_of, key_at, key_of}

pub record PartsOf (θ : ℤ) (v : List ℕ) (p : KeyParts) : Type 0 where
  pub edge : p.edge ≡ edge_of θ v
  pub measure : p.measure ≡ measure_of θ v
  pub place : p.place ≡ place_of θ v
  pub key : key_at p.place p.measure ≡ key_of θ v
