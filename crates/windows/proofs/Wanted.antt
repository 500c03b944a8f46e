-- A key is wanted exactly when its value lies in the low run or the high run of its place.
use Rattle.std.proofs.Common.{◌≡◌, ℕ, ◌≤◌, ◌⊎◌, List, ℤ, sym, ◌∙◌, subst, inl, inr, ⊎_elim, arith}
use Rattle.grid.specs.declared.parts.Edge.TheVariants.{Low, High}
use Rattle.grid.specs.Vectors.{first_place}
use Rattle.grid.specs.Keys.{extreme, key_at}
use Rattle.grid.proofs.Edges.{edge_cases, key_low, key_high}
use Rattle.windows.specs.Intervals.{Interval}
use Rattle.windows.specs.Runs.{AtPlace, LowRun, HighRun, Valid, WantedByRuns}
use Rattle.windows.specs.Wanted.{Wanted}
use Rattle.windows.proofs.Witness.{run_wanted, inside_run}

abbrev pub Runs : ℤ → List Interval → ℕ → ℕ → Type 0
Runs θ w j v = LowRun θ w j v ⊎ HighRun θ w j v

-- a wanted key is that of a value in a run
pub wanted_split : (θ : ℤ) (w : List Interval) (k : ℕ) → Valid w → Wanted θ w k → (j : ℕ) × (v : ℕ) × AtPlace w j v × Runs θ w j v × (k ≡ key_at j v)
wanted_split θ w k ok (x, g, i, e) = ⊎_elim
    (λ l. let r = inside_run Low θ w x ok i l.1 in (first_place (extreme Low x) x, extreme Low x, r.0, inl r.1, sym e ∙ key_low θ x l.0))
    (λ h. let r = inside_run High θ w x ok i h.1 in (first_place (extreme High x) x, extreme High x, r.0, inr r.1, sym e ∙ key_high θ x h.0))
    (edge_cases θ x)

at_fits : (w : List Interval) (j v : ℕ) → Valid w → AtPlace w j v → v ≤ 65535
at_fits w j v ok a = omega (arith, a.1.1, ok.grid j a.0)

pub run_of : (θ : ℤ) (w : List Interval) (j v : ℕ) → Valid w → v ≤ 65535 → Wanted θ w (key_at j v) → AtPlace w j v × Runs θ w j v
run_of θ w j v ok fit h =
    let s = wanted_split θ w (key_at j v) ok h in
    let f = at_fits w s.0 s.1 ok s.2 in
    let p : s.0 ≡ j = omega (arith, s.4) in
    let q : s.1 ≡ v = omega (arith, s.4) in
    subst (λ i. AtPlace w i v × Runs θ w i v) p (subst (λ u. AtPlace w s.0 u × Runs θ w s.0 u) q (s.2, s.3))

pub wanted_of : (θ : ℤ) (w : List Interval) (j v : ℕ) → Valid w → AtPlace w j v → Runs θ w j v → Wanted θ w (key_at j v)
wanted_of θ w j v ok a r = ⊎_elim (run_wanted Low θ w j v ok a) (run_wanted High θ w j v ok a) r

pub by_runs : WantedByRuns
by_runs θ w ok = (
  (λ j v a. ((λ h. (run_of θ w j v ok (at_fits w j v ok a) h).1), wanted_of θ w j v ok a)),
  (λ k h. let s = wanted_split θ w k ok h in (s.0, s.1, s.2, s.4)),
)
