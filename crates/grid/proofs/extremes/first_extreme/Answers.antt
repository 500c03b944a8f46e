-- The proof of `first_extreme`: what the search leaves open.
use Rattle.std.proofs.Common.{false, refl, arith}
use lib.ListN.{length-map}
use Rattle.std.proofs.lemmas.Bool.Decides.{not_from_Decides}
use Rattle.grid.proofs.ExtremeLemmas.{best_moves, best_stays, best_extreme, best_within, best_none, get_or_measure}
use Rattle.grid.proofs.extremes.first_extreme.Goals as goal
use Rattle.grid.proofs.extremes.first_extreme.Goals.{then-is_nearest, else-is_nearest}

pub loop-place-preserved : goal.loop-place-preserved
loop-place-preserved g c =
    let e = c.args.edge in
    let f = g.M.Measured.measure_at e in
    let is = get_or_measure f c.args.items.now c.loop-place.place c.measure-measure.result c.index-items-place.result c.loop-place-test.true c.index-items-place.is c.measure-measure.ensures in
    let within = length-map c.args.items.now f in
    elim c.if-is_nearest.branch [
      | then-is_nearest w ↦ rw w.best-is (best_moves _ _ _ _ _ c.loop-place.invariant (omega arith) is (w.if-is_nearest.ensures.0 refl))
      | else-is_nearest w ↦ rw w.best-is (best_stays _ _ _ _ _ c.loop-place.invariant is (not_from_Decides false w.if-is_nearest.ensures refl))
    ]

pub returns : goal.returns
returns g c =
    let n = length-map c.args.items.now (g.M.Measured.measure_at c.args.edge) in
    let h = c.loop-place.invariant in
    record {
      empty = best_none _ _ _ _ _ h c.loop-place-test.false;
      extreme = best_extreme _ _ _ _ h (omega arith);
      within = best_within _ _ _ _ _ h n;
    }
