-- The eight marked keys.
use Rattle.std.proofs.Common.{refl}
use Rattle.grid.specs.Keys.{edge_of, key_of}
use Rattle.grid.specs.MarkedKeys.{MarkedKeys}

pub marked_keys : MarkedKeys
unfolding edge_of key_of
marked_keys = record {
  least = record { edge = refl; key = refl };
  greatest = record { edge = refl; key = refl };
  below_border = record { edge = refl; key = refl };
  on_border = record { edge = refl; key = refl };
  tied_least = record { edge = refl; key = refl };
  tied_greatest = record { edge = refl; key = refl };
  least_knob = record { edge = refl; key = refl };
  most_knob = record { edge = refl; key = refl };
}
