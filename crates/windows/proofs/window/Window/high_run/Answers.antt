-- The proof of `high_run`: what the search leaves open.
use Rattle.std.proofs.Common.{◌≤◌, refl, arith}
use Rattle.grid.specs.declared.parts.Edge.TheVariants.{High}
use Rattle.windows.proofs.Stored.{opened}
use Rattle.windows.proofs.Finding.{Facts, run_found, reach_bound}
use Rattle.windows.proofs.window.Window.high_run.Goals as goal

pub returns-clause-exact : goal.returns-clause-exact
returns-clause-exact c =
    let w = c.args.self.now in
    let h = opened w c.self.inside c.self.view_is c.self.invariant in
    let base = c.floor-base.result in
    let f : Facts High c.args.setting.theta w c.args.place base c.self.inside.least_high.measure c.step.result c.high_room.result = record {
      rest = c.high_room.ensures.sum;
      within = c.in_ok-interval.ensures.place.0;
      reach = reach_bound High w c.self.inside.greatest_low c.args.place (λ v. base ≤ v) h.window.valid.some h.lows (λ v. (λ r. omega (arith, c.floor-base.ensures), λ r. omega (arith, c.floor-base.ensures)));
      widest_is = h.highs.0;
      extra_is = c.step.ensures;
    } in
    run_found f c.in_ok-interval.interval c.in_ok-interval.interval.high c.high_bottom-bottom.result c.between.result c.in_ok-interval.ensures.place.1 refl c.high_bottom-bottom.ensures c.between.ensures.exact
