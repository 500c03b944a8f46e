-- The twelve marked lines.
use Rattle.std.proofs.Common.{ℕ, zero, suc, ◌+◌, ◌*◌, ◌<◌, ◌≤◌, List, [], ◌∷◌, length, ℤ, pos, ◌+ℤ◌, ◌≤ℤ◌, ◌<ℤ◌, refl, inl, inr, ⊎_elim, arith}
use Rattle.std.proofs.lemmas.Int.{ints}
use Rattle.std.proofs.lemmas.Bool.{cases_lt}
use Rattle.grid.proofs.Marked.{marked_keys}
use Rattle.windows.specs.Intervals.{Interval}
use Rattle.windows.specs.Intervals.{interval_at}
use Rattle.windows.specs.Runs.{LowRun, HighRun, lowest_top, highest_bottom, Valid}
use Rattle.plans.specs.Ranges.{KeyRange}
use Rattle.plans.specs.Planning.{IsPlan}
use Rattle.plans.specs.MarkedLines.{MarkedLines, interval, keys}
use Rattle.plans.proofs.Placed.{tight_of}
use Rattle.plans.proofs.Listed.{In, Rises, HasRuns, ruled, covered}

-- ranges that are written out are a plan
plan : (θ : ℤ) (w : List Interval) (rs : List KeyRange) → length rs ≤ 32 → Rises rs → Valid w → ((k : ℕ) → In rs k → k < 65536 * length w) → ((j : ℕ) → j < length w → HasRuns θ w rs j) → IsPlan θ w rs
plan θ w rs few rises ok top runs = let c = covered θ w rs ok top runs in record { rule = ruled rs few rises; covers = c; tight = tight_of θ w rs c }

-- ---- windows of one place and of two, place by place

one : (P : ℕ → Type 0) → P 0 → (i : ℕ) → i < 1 → P i
one P p zero h = p
one P p (suc i) h = absurd (omega arith)

two : (P : ℕ → Type 0) → P 0 → P 1 → (i : ℕ) → i < 2 → P i
two P p q zero h = p
two P p q (suc zero) h = q
two P p q (suc (suc i)) h = absurd (omega arith)

abbrev pair : ℕ → ℕ → ℕ → ℕ → List Interval
pair a b c d = interval a b ∷ (interval c d ∷ [])

module _ {a b c d : ℕ} where
  valid_pair : a ≤ b → c ≤ d → b < 65536 → d < 65536 → Valid (pair a b c d)
  valid_pair h g p q = record {
    some = omega arith;
    uncrossed = two (λ i. (interval_at (pair a b c d) i).low ≤ (interval_at (pair a b c d) i).high) h g;
    grid = two (λ i. (interval_at (pair a b c d) i).high ≤ 65535) (omega arith) (omega arith);
  }

  -- the conditions of the runs, from plain bounds
  low_first : {θ : ℤ} (v : ℕ) → v ≤ d → (pos (v + lowest_top (pair a b c d) 0 v) +ℤ θ) <ℤ pos 65535 → LowRun θ (pair a b c d) 0 v
  low_first v h e = record { earlier = λ i l. absurd (omega arith); later = λ i l g. two (λ i. 0 < i → v ≤ (interval_at (pair a b c d) i).high) (λ l. absurd (omega arith)) (λ l. h) i g l; edge = e }

  low_second : {θ : ℤ} (v : ℕ) → v < b → (pos (v + lowest_top (pair a b c d) 1 v) +ℤ θ) <ℤ pos 65535 → LowRun θ (pair a b c d) 1 v
  low_second v h e = record { earlier = λ i l. two (λ i. i < 1 → v < (interval_at (pair a b c d) i).high) (λ l. h) (λ l. absurd (omega arith)) i (omega arith) l; later = λ i l g. absurd (omega arith); edge = e }

  high_first : {θ : ℤ} (v : ℕ) → c ≤ v → pos 65535 ≤ℤ (pos (v + highest_bottom (pair a b c d) 0 v) +ℤ θ) → HighRun θ (pair a b c d) 0 v
  high_first v h e = record { earlier = λ i l. absurd (omega arith); later = λ i l g. two (λ i. 0 < i → (interval_at (pair a b c d) i).low ≤ v) (λ l. absurd (omega arith)) (λ l. h) i g l; edge = e }

  high_second : {θ : ℤ} (v : ℕ) → a < v → pos 65535 ≤ℤ (pos (v + highest_bottom (pair a b c d) 1 v) +ℤ θ) → HighRun θ (pair a b c d) 1 v
  high_second v h e = record { earlier = λ i l. two (λ i. i < 1 → (interval_at (pair a b c d) i).low < v) (λ l. h) (λ l. absurd (omega arith)) i (omega arith) l; later = λ i l g. absurd (omega arith); edge = e }

one_place : IsPlan (pos 0) (interval 0 65535 ∷ []) (keys 0 65535 ∷ [])
one_place =
    let w = interval 0 65535 ∷ [] in
    let rs = keys 0 65535 ∷ [] in
    plan (pos 0) w rs (omega arith) (omega arith, refl)
    (record { some = omega arith; uncrossed = one (λ i. (interval_at w i).low ≤ (interval_at w i).high) (omega arith); grid = one (λ i. (interval_at w i).high ≤ 65535) (omega arith) })
    (λ k. ⊎_elim (λ h. omega arith) (λ h. absurd h))
    (one (HasRuns (pos 0) w rs) (λ v fit. (
      (λ h. (
        (omega arith, (omega arith, omega arith)),
        ⊎_elim
            (λ l. inl (record { earlier = λ i q. absurd (omega arith); later = λ i q g. absurd (omega arith); edge = omega (arith, ints) }))
            (λ l. inr (record { earlier = λ i q. absurd (omega arith); later = λ i q g. absurd (omega arith); edge = omega (arith, ints) }))
            (cases_lt v 32768),
      )),
      (λ h. inl (omega arith, omega arith)),
    )))

whole_grid : IsPlan (pos 0) (interval 0 65535 ∷ (interval 0 65535 ∷ [])) (keys 0 65535 ∷ (keys 65536 98302 ∷ (keys 98304 131071 ∷ [])))
whole_grid =
    let w = interval 0 65535 ∷ (interval 0 65535 ∷ []) in
    let rs = keys 0 65535 ∷ (keys 65536 98302 ∷ (keys 98304 131071 ∷ [])) in
    plan (pos 0) w rs (omega arith) ((omega arith, refl), (omega arith, λ e. absurd (omega arith)), ((omega arith, refl), (omega arith, λ e. omega arith), (omega arith, refl)))
    (valid_pair (omega arith) (omega arith) (omega arith) (omega arith))
    (λ k. ⊎_elim (λ h. omega arith) (⊎_elim (λ h. omega arith) (⊎_elim (λ h. omega arith) (λ h. absurd h))))
    (two (HasRuns (pos 0) w rs)
    (λ v fit. (
      (λ h. (
        (omega arith, (omega arith, omega arith)),
        ⊎_elim
            (λ l. inl (low_first v (omega arith) (omega (arith, ints))))
            (λ l. inr (high_first v (omega arith) (omega (arith, ints))))
            (cases_lt v 32768),
      )),
      (λ h. inl (omega arith, omega arith)),
    ))
    (λ v fit. (
      (λ h. (
        (omega arith, (omega arith, omega arith)),
        ⊎_elim (λ h. absurd (omega (arith, h.1)))
            (⊎_elim (λ h. inl (low_second v (omega (arith, h.1)) (omega (arith, ints, h.1))))
            (⊎_elim (λ h. inr (high_second v (omega (arith, h.0)) (omega (arith, ints, h.0))))
            (λ h. absurd h))) h,
      )),
      (λ h. ⊎_elim
          (λ r. inr (inl (omega arith, omega (arith, ints, r.edge))))
          (λ r. let u = r.earlier 0 (omega arith) in inr (inr (inl (omega (arith, ints, r.edge), omega arith))))
          h.1),
    )))

one_value : IsPlan (pos 0) (interval 0 65535 ∷ (interval 6553 6553 ∷ [])) (keys 0 6553 ∷ (keys 58982 65535 ∷ (keys 72089 72089 ∷ [])))
one_value =
    let w = interval 0 65535 ∷ (interval 6553 6553 ∷ []) in
    let rs = keys 0 6553 ∷ (keys 58982 65535 ∷ (keys 72089 72089 ∷ [])) in
    plan (pos 0) w rs (omega arith) ((omega arith, refl), (omega arith, λ e. omega arith), ((omega arith, refl), (omega arith, λ e. omega arith), (omega arith, refl)))
    (valid_pair (omega arith) (omega arith) (omega arith) (omega arith))
    (λ k. ⊎_elim (λ h. omega arith) (⊎_elim (λ h. omega arith) (⊎_elim (λ h. omega arith) (λ h. absurd h))))
    (two (HasRuns (pos 0) w rs)
    (λ v fit. (
      (λ h. (
        (omega arith, (omega arith, omega arith)),
        ⊎_elim (λ h. inl (low_first v (omega (arith, h.1)) (omega (arith, ints, h.1))))
            (⊎_elim (λ h. inr (high_first v (omega (arith, h.0)) (omega (arith, ints, h.0))))
            (⊎_elim (λ h. absurd (omega (arith, h.0))) (λ h. absurd h))) h,
      )),
      (λ h. ⊎_elim
          (λ r. let u = r.later 1 (omega arith) (omega arith) in inl (omega arith, omega arith))
          (λ r. inr (inl (omega (arith, ints, r.edge), omega arith)))
          h.1),
    ))
    (λ v fit. (
      ⊎_elim (λ h. absurd (omega (arith, h.1)))
          (⊎_elim (λ h. absurd (omega (arith, h.1)))
          (⊎_elim (λ h. ((omega arith, (omega (arith, h.0), omega (arith, h.1))), inl (low_second v (omega (arith, h.1)) (omega (arith, ints, h.1))))) (λ h. absurd h))),
      (λ h. inr (inr (inl (omega (arith, h.0.1), omega (arith, h.0.1))))),
    )))

high_only : IsPlan (pos 32768) (interval 13107 19661 ∷ (interval 26214 39321 ∷ [])) (keys 91750 104857 ∷ [])
high_only =
    let w = interval 13107 19661 ∷ (interval 26214 39321 ∷ []) in
    let rs = keys 91750 104857 ∷ [] in
    plan (pos 32768) w rs (omega arith) (omega arith, refl)
    (valid_pair (omega arith) (omega arith) (omega arith) (omega arith))
    (λ k. ⊎_elim (λ h. omega arith) (λ h. absurd h))
    (two (HasRuns (pos 32768) w rs)
    (λ v fit. (
      ⊎_elim (λ h. absurd (omega (arith, h.0))) (λ h. absurd h),
      (λ h. ⊎_elim
          (λ r. absurd (omega (arith, ints, r.edge, h.0.1)))
          (λ r. absurd (omega (arith, r.later 1 (omega arith) (omega arith), h.0.1)))
          h.1),
    ))
    (λ v fit. (
      ⊎_elim (λ h. ((omega arith, (omega (arith, h.0), omega (arith, h.1))), inr (high_second v (omega (arith, h.0)) (omega (arith, ints, h.0))))) (λ h. absurd h),
      (λ h. inl (omega (arith, h.0.1), omega (arith, h.0.1))),
    )))

pub marked : MarkedLines
marked = record { marked_keys = marked_keys; one_place = one_place; whole_grid = whole_grid; one_value = one_value; high_only = high_only }
