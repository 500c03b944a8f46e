-- The eight keys that the rules mark, at ties, at the border of the edges and at the ends of the knob.
use Rattle.std.specs.Prelude.{◌≡◌, ℕ, List, [], ◌∷◌, ℤ, pos, negsuc}
use Rattle.grid.specs.declared.parts.Edge.{Edge}
use Rattle.grid.specs.declared.parts.Edge.TheVariants.{Low, High}
use Rattle.grid.specs.Keys.{edge_of, key_of}

-- the vector is on the edge and has the key
pub record Stands (θ : ℤ) (v : List ℕ) (e : Edge) (k : ℕ) : Type 0 where
  pub edge : edge_of θ v ≡ e
  pub key : key_of θ v ≡ k

pub record MarkedKeys : Type 0 where
  pub least : Stands (pos 0) (6554 ∷ (39321 ∷ [])) Low 6554
  pub greatest : Stands (pos 0) (39321 ∷ (58982 ∷ [])) High 124518
  pub below_border : Stands (pos 3276) (13107 ∷ (49151 ∷ [])) Low 13107
  pub on_border : Stands (pos 3277) (13107 ∷ (49151 ∷ [])) High 114687
  pub tied_least : Stands (pos 0) (9 ∷ (5 ∷ (5 ∷ []))) Low 65541
  pub tied_greatest : Stands (negsuc 65534) (65535 ∷ (65535 ∷ [])) High 65535
  pub least_knob : Stands (negsuc 65535) (65535 ∷ (65535 ∷ [])) Low 65535
  pub most_knob : Stands (pos 65535) (0 ∷ (0 ∷ [])) High 0
