-- Ranges and windows that are written out: what they plan, and their rule, range by range.
use Rattle.std.proofs.Common.{◌≡◌, ℕ, zero, suc, ◌+◌, ◌-◌, ◌*◌, ◌/◌, ◌<◌, ◌≤◌, ◌⊎◌, List, [], ◌∷◌, length, ℤ, sym, refl, subst, inl, inr, arith}
use Rattle.std.specs.Prelude.{All}
use Rattle.grid.specs.Keys.{key_at}
use Rattle.windows.specs.Intervals.{Interval}
use Rattle.windows.specs.Runs.{AtPlace, Valid}
use Rattle.windows.specs.Wanted.{Wanted}
use Rattle.windows.proofs.Wanted.{Runs, wanted_of, wanted_split}
use Rattle.plans.specs.Ranges.{KeyRange, Has, Planned, Apart, OnePlace, Rising, Rule}
use Rattle.plans.specs.Planning.{Covers}

-- one of the ranges has the key
abbrev pub In : List KeyRange → ℕ → Type 0
In [] k = ⊥
In (r ∷ rs) k = Has r k ⊎ In rs k

pub in_planned : (rs : List KeyRange) (k : ℕ) → In rs k → Planned rs k
in_planned [] k h = absurd h
in_planned (r ∷ rs) k (inl h) = (0, r, omega arith, refl, h)
in_planned (r ∷ rs) k (inr h) = let p = in_planned rs k h in (suc p.0, p.1, omega (arith, p.2), p.3, p.4)

pub planned_in : (rs : List KeyRange) (k : ℕ) → Planned rs k → In rs k
planned_in [] k (i, x, h, e, has) = absurd (omega arith)
planned_in (r ∷ rs) k (zero, x, h, e, has) = inl (subst (λ y. Has y k) (sym e) has)
planned_in (r ∷ rs) k (suc i, x, h, e, has) = inr (planned_in rs k (i, x, omega arith, e, has))

-- the rule
abbrev pub Rises : List KeyRange → Type 0
Rises [] = Unit {0}
Rises (r ∷ []) = OnePlace r
Rises (r ∷ (s ∷ rs)) = OnePlace r × Apart r.high s.low × Rises (s ∷ rs)

rises_places : (rs : List KeyRange) → Rises rs → All OnePlace rs
rises_places [] h i d l = absurd (omega arith)
rises_places (r ∷ []) h zero d l = h
rises_places (r ∷ []) h (suc i) d l = absurd (omega arith)
rises_places (r ∷ (s ∷ rs)) h zero d l = h.0
rises_places (r ∷ (s ∷ rs)) h (suc i) d l = rises_places (s ∷ rs) h.2 i d (omega arith)

rises_rising : (rs : List KeyRange) → Rises rs → Rising rs
rises_rising [] h i l = absurd (omega arith)
rises_rising (r ∷ []) h i l = absurd (omega arith)
rises_rising (r ∷ (s ∷ rs)) h zero l = h.1
rises_rising (r ∷ (s ∷ rs)) h (suc i) l =
    let e : suc i + 1 ≡ suc (i + 1) = omega arith in
    rw e (rises_rising (s ∷ rs) h.2 i (omega arith))

pub ruled : (rs : List KeyRange) → length rs ≤ 32 → Rises rs → Rule rs
ruled rs n h = record { few = n; places = rises_places rs h; rising = rises_rising rs h }

-- ranges that have the runs of a place
abbrev pub HasRuns : ℤ → List Interval → List KeyRange → ℕ → Type 0
HasRuns θ w rs j = (v : ℕ) → v < 65536 → (In rs (key_at j v) → AtPlace w j v × Runs θ w j v) × (AtPlace w j v × Runs θ w j v → In rs (key_at j v))

-- those that have the runs of every place, and no keys past them, have the wanted keys
pub covered : (θ : ℤ) (w : List Interval) (rs : List KeyRange) → Valid w → ((k : ℕ) → In rs k → k < 65536 * length w) → ((j : ℕ) → j < length w → HasRuns θ w rs j) → Covers θ w rs
covered θ w rs ok top runs k = (
  (λ h.
      let i = planned_in rs k h in
      let b = top k i in
      let j : ℕ = k / 65536 in
      let v : ℕ = k - 65536 * j in
      let e : k ≡ key_at j v = omega arith in
      let r = (runs j (omega arith) v (omega arith)).0 (subst (λ x. In rs x) e i) in
      subst (λ x. Wanted θ w x) (sym e) (wanted_of θ w j v ok r.0 r.1)),
  (λ h.
      let s = wanted_split θ w k ok h in
      let fit : s.1 < 65536 = omega (arith, s.2.1.1, ok.grid s.0 s.2.0) in
      subst (λ x. Planned rs x) (sym s.4) (in_planned rs (key_at s.0 s.1) ((runs s.0 s.2.0 s.1 fit).1 (s.2, s.3)))),
)
