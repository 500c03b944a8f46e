-- The proof of `low_run`: what the search leaves open.
use Rattle.std.proofs.Common.{◌≤◌}
use Rattle.grid.specs.declared.parts.Edge.TheVariants.{Low}
use Rattle.windows.proofs.Stored.{opened}
use Rattle.windows.proofs.Reach.{run_reach}
use Rattle.windows.proofs.Finding.{Facts, run_sums, run_found, run_none, reach_bound}
use Rattle.windows.proofs.window.Window.low_run.Goals as goal
use Rattle.windows.proofs.window.Window.low_run.Goals.{After-low_top}

-- what is known when the sums are looked at
known : (c : After-low_top) → Facts Low c.args.setting.theta c.args.self.now c.args.place c.in_ok-cap.cap c.self.inside.greatest_low.measure c.step.result c.in_ok-room.room
known c =
    let h = opened c.args.self.now c.self.inside c.self.view_is c.self.invariant in
    record {
      rest = c.in_ok-room.ensures;
      within = c.in_ok-interval.ensures.place.0;
      reach = reach_bound Low c.args.self.now c.self.inside.least_high c.args.place (λ v. v ≤ c.in_ok-cap.cap) h.window.valid.some h.highs c.in_ok-cap.ensures;
      widest_is = h.lows.0;
      extra_is = c.step.ensures;
    }

pub returns-in_err-cap-clause-exact : goal.returns-in_err-cap-clause-exact
returns-in_err-cap-clause-exact c =
    let θ = c.args.setting.theta in
    let w = c.args.self.now in
    let j = c.args.place in
    let h = opened w c.self.inside c.self.view_is c.self.invariant in
    let reach = reach_bound Low w c.self.inside.least_high j (λ v. ⊥) h.window.valid.some h.highs c.in_err-cap.ensures in
    rw c.from_residual-in_err-cap.ensures (run_none Low θ w j (λ v r. (reach v).1 (run_reach Low θ w j v r.0 r.1)))

pub returns-in_err-top-clause-exact : goal.returns-in_err-top-clause-exact
returns-in_err-top-clause-exact c =
    let f = known (goal.at.returns-in_err-top-clause-exact c).After-low_top in
    rw c.from_residual-in_err-top.ensures (run_none Low c.args.setting.theta c.args.self.now c.args.place (λ v h. (c.in_err-top.ensures v).1 (run_sums f v h)))

pub returns-clause-exact : goal.returns-clause-exact
returns-clause-exact c =
    let f = known (goal.at.returns-clause-exact c).After-low_top in
    run_found f c.in_ok-interval.interval c.from.result c.in_ok-top.top c.between.result c.in_ok-interval.ensures.place.1 c.from.ensures c.in_ok-top.ensures c.between.ensures.exact
