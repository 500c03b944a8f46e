-- What ranges gain with the keys of a run.
use Rattle.std.proofs.Common.{◌≡◌, ℕ, ◌-◌, ◌*◌, ◌≤◌, List, [], ◌∷◌, ◌++◌, Some, Option, inl, inr, ⊎_elim, arith}
use Rattle.std.proofs.lemmas.List.{length_push}
use Rattle.grid.specs.Keys.{key_at}
use Rattle.windows.specs.Finding.{Holds, Proper}
use Rattle.plans.specs.Ranges.{KeyRange, Planned, Apart}
use Rattle.plans.specs.Planning.{Gains}
use Rattle.plans.proofs.Ranges.{planned_more, planned_old, planned_new}

gains_numbers : (rs : List KeyRange) (j a b : ℕ) (r : KeyRange) → r.low ≡ key_at j a → r.high ≡ key_at j b → Gains rs j (Some (a, b)) (rs ++ r ∷ [])
gains_numbers rs j a b r low high = record {
  few = omega (arith, length_push rs r);
  keys = λ k. (
    (λ h. ⊎_elim inl (λ g. inr (k - 65536 * j, (omega (arith, g.0), omega (arith, g.1)), omega (arith, g.0))) (planned_more rs r k h)),
    ⊎_elim (planned_old rs r k) (λ g. planned_new rs r k (omega (arith, g.1.0, g.2), omega (arith, g.1.1, g.2))),
  );
}

pub gains_push : {rs rs' : List KeyRange} {j a b : ℕ} {r : KeyRange} {run : Option (ℕ × ℕ)} → rs' ≡ rs ++ r ∷ [] → run ≡ Some (a, b) → r.low ≡ key_at j a → r.high ≡ key_at j b → Gains rs j run rs'
gains_push {rs} {rs'} {j} {a} {b} {r} {run} g s low high = rw (s, g) (gains_numbers rs j a b r low high)

-- the range of a run lies apart where the keys of the run do
pub range_apart : (rs : List KeyRange) (j : ℕ) (r : KeyRange) {a b : ℕ} {run : Option (ℕ × ℕ)} → r.low ≡ key_at j a → run ≡ Some (a, b) → Proper run
    → ((k v : ℕ) → Planned rs k → Holds run v → Apart k (key_at j v)) → (k : ℕ) → Planned rs k → Apart k r.low
range_apart rs j r {a} {b} low s p apart k h =
    let p' : a ≤ b = rw s at p in
    let g : (k v : ℕ) → Planned rs k → Holds (Some (a, b)) v → Apart k (key_at j v) = rw s at apart in
    let c = g k a h (omega arith, p') in
    rw low c
