-- The plan of the places before j, and of one more.
use Rattle.std.proofs.Common.{◌≡◌, ℕ, ◌+◌, ◌*◌, ◌<◌, ◌≤◌, ◌⊎◌, ◌↔◌, List, length, ℤ, Option, subst, inl, inr, ⊎_elim, arith}
use Rattle.std.proofs.lemmas.Bool.{cases_lt}
use Rattle.grid.specs.Keys.{key_at}
use Rattle.windows.specs.Intervals.{Interval}
use Rattle.windows.specs.Runs.{AtPlace, Valid}
use Rattle.windows.specs.Wanted.{Wanted}
use Rattle.windows.specs.Finding.{Holds, Same, InLowRun, InHighRun}
use Rattle.windows.proofs.Wanted.{Runs, wanted_of, wanted_split}
use Rattle.plans.specs.Ranges.{KeyRange, Planned, Apart, Rule}
use Rattle.plans.specs.Planning.{Merges, RunKey, Gains, Covers, Tight, IsPlan}

-- the ranges are the plan of the places before j
pub record Upto (θ : ℤ) (w : List Interval) (j : ℕ) (rs : List KeyRange) : Type 0 where
  pub few : length rs ≤ 2 * j
  pub rule : Rule rs
  pub keys : (k : ℕ) → Planned rs k ↔ ((k < 65536 * j) × Wanted θ w k)

-- what is known of one place
pub record Step (θ : ℤ) (w : List Interval) (j : ℕ) (low high first second : Option (ℕ × ℕ)) : Type 0 where
  pub valid : Valid w
  pub lows : Same (Holds low) (InLowRun θ w j)
  pub highs : Same (Holds high) (InHighRun θ w j)
  pub merges : Merges low high first second

abbrev InRuns : ℤ → List Interval → ℕ → ℕ → Type 0
InRuns θ w j v = AtPlace w j v × Runs θ w j v

module _ {θ : ℤ} {w : List Interval} {j : ℕ} {low high first second : Option (ℕ × ℕ)} (s : Step θ w j low high first second) where
  either_run : (v : ℕ) → Holds first v ⊎ Holds second v → InRuns θ w j v
  either_run v h = ⊎_elim (λ a. let r = (s.lows v).0 a in (r.0, inl r.1)) (λ a. let r = (s.highs v).0 a in (r.0, inr r.1)) (s.merges.onto v h)

  run_either : (v : ℕ) → InRuns θ w j v → Holds first v ⊎ Holds second v
  run_either v h = s.merges.from v (⊎_elim (λ a. inl ((s.lows v).1 (h.0, a))) (λ a. inr ((s.highs v).1 (h.0, a))) h.1)

  -- a key of either run is wanted, and one of place j
  run_key : (run : Option (ℕ × ℕ)) → ((v : ℕ) → Holds run v → Holds first v ⊎ Holds second v) → (k : ℕ) → RunKey j run k → (k < 65536 * (j + 1)) × Wanted θ w k
  run_key run of k a =
      let r = either_run a.0 (of a.0 a.1) in (
        omega (arith, a.2, r.0.1.1, s.valid.grid j r.0.0),
        rw a.2 (wanted_of θ w j a.0 s.valid r.0 r.1),
      )

  -- what is asked where the two runs are added
  pub first_apart : (rs : List KeyRange) → Upto θ w j rs → (k v : ℕ) → Planned rs k → Apart k (key_at j v)
  first_apart rs u k v h = let b = ((u.keys k).0 h).0 in (omega arith, λ e. omega arith)

  pub second_apart : (rs rs₁ : List KeyRange) → Upto θ w j rs → Gains rs j first rs₁ → (k v : ℕ) → Planned rs₁ k → Holds second v → Apart k (key_at j v)
  second_apart rs rs₁ u g k v h p = ⊎_elim
      (λ a. first_apart rs u k v a)
      (λ a. let m = s.merges.apart a.0 v a.1 p in (omega (arith, a.2), λ e. omega (arith, a.2)))
      ((g.keys k).0 h)

  pub upto_more : (rs rs₁ rs₂ : List KeyRange) → Upto θ w j rs → Gains rs j first rs₁ → Gains rs₁ j second rs₂ → Rule rs₂ → Upto θ w (j + 1) rs₂
  upto_more rs rs₁ rs₂ u g₁ g₂ rule = record {
    few = omega (arith, u.few, g₁.few, g₂.few);
    rule = rule;
    keys = λ k. (
      (λ h. ⊎_elim
          (λ h₁. ⊎_elim (λ h₀. let b = (u.keys k).0 h₀ in (omega (arith, b.0), b.1)) (run_key first (λ v a. inl a) k) ((g₁.keys k).0 h₁))
          (run_key second (λ v a. inr a) k)
          ((g₂.keys k).0 h)),
      (λ b. ⊎_elim
          (λ l. (g₂.keys k).1 (inl ((g₁.keys k).1 (inl ((u.keys k).1 (l, b.1))))))
          (λ l.
          let t = wanted_split θ w k s.valid b.1 in
          let fit = s.valid.grid t.0 t.2.0 in
          let at : t.0 ≡ j = omega (arith, t.2.1.1, t.4, b.0) in
          let r = subst (λ i. InRuns θ w i t.1) at (t.2, t.3) in
          let e : k ≡ key_at j t.1 = omega (arith, t.4) in
          ⊎_elim
          (λ a. (g₂.keys k).1 (inl ((g₁.keys k).1 (inr (t.1, a, e)))))
          (λ a. (g₂.keys k).1 (inr (t.1, a, e)))
          (run_either t.1 r))
          (cases_lt k (65536 * j))),
    );
  }

-- ranges that have the wanted keys and no others are tight
pub tight_of : (θ : ℤ) (w : List Interval) (rs : List KeyRange) → Covers θ w rs → Tight θ w rs
tight_of θ w rs c k ss h miss =
    let x = (c k).0 h in
    (x.0, x.1, x.2, λ p. miss (subst (λ m. Planned ss m) x.3 p))

-- the plan of all places
pub upto_all : (θ : ℤ) (w : List Interval) (j : ℕ) (rs : List KeyRange) → Valid w → length w ≤ j → Upto θ w j rs → IsPlan θ w rs
upto_all θ w j rs ok n u =
    let c : Covers θ w rs = λ k. (
      (λ h. ((u.keys k).0 h).1),
      (λ h. let s = wanted_split θ w k ok h in (u.keys k).1 (omega (arith, s.2.0, s.2.1.1, ok.grid s.0 s.2.0, s.4), h)),
    ) in
    record { rule = u.rule; covers = c; tight = tight_of θ w rs c }
