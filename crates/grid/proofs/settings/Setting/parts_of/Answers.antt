-- The proof of `parts_of`: what the search leaves open.
use Rattle.std.proofs.Common.{refl}
use Rattle.grid.proofs.Edges.{parts_found}
use Rattle.grid.proofs.settings.Setting.parts_of.Goals as goal

pub returns : goal.returns
returns c =
    parts_found _ c.args.vector.now c.unwrap-low.result c.unwrap-high.result _ _
    (rw c.unwrap-low.ensures at c.first_extreme.ensures.extreme) (rw c.unwrap-high.ensures at c.first_extreme-2.ensures.extreme)
    c.edge-edge.ensures c.pick-measure.ensures refl refl
