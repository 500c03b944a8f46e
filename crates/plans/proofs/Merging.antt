-- Two runs of one place that touch.
use Rattle.std.proofs.Common.{◌≡◌, ℕ, ◌+◌, ◌<◌, ◌≤◌, Some, None, Option, inl, inr, ⊎_elim, arith}
use Rattle.std.proofs.lemmas.Bool.{cases_lt}
use Rattle.windows.specs.Finding.{Holds, Proper}
use Rattle.plans.specs.Planning.{Merges}

abbrev pub Below : Option (ℕ × ℕ) → Option (ℕ × ℕ) → Type 0
Below low high = (v u : ℕ) → Holds low v → Holds high u → v < u

-- the ends of two runs
ends : (low high : Option (ℕ × ℕ)) (a b c d : ℕ) → low ≡ Some (a, b) → high ≡ Some (c, d) → Proper low → Proper high → Below low high → (a ≤ b) × (c ≤ d) × (b < c)
ends low high a b c d e f p q below =
    let p' : a ≤ b = rw e at p in
    let q' : c ≤ d = rw f at q in
    let g : Below (Some (a, b)) (Some (c, d)) = rw (e, f) at below in
    (p', q', g b c (p', omega arith) (omega arith, q'))

merges_numbers : (a b c d : ℕ) → a ≤ b → c ≤ d → b < c → c ≤ b + 1 → Merges (Some (a, b)) (Some (c, d)) (Some (a, d)) None
merges_numbers a b c d p q s t = record {
  onto = λ v. ⊎_elim (λ h. ⊎_elim (λ l. inr (omega arith, h.1)) (λ l. inl (h.0, omega arith)) (cases_lt b v)) (λ h. absurd h);
  from = λ v. ⊎_elim (λ h. inl (h.0, omega (arith, h.1))) (λ h. inl (omega (arith, h.0), h.1));
  apart = λ v u h g. absurd g;
}

-- the run of both, where the ends touch
pub touching : {low high : Option (ℕ × ℕ)} {a b c d : ℕ} → low ≡ Some (a, b) → high ≡ Some (c, d) → Proper low → Proper high → Below low high → c ≤ b + 1 → (a ≤ d) × Merges low high (Some (a, d)) None
touching {low} {high} {a} {b} {c} {d} e f p q below t =
    let m = ends low high a b c d e f p q below in
    (omega (arith, m.0, m.1, m.2), rw (e, f) (merges_numbers a b c d m.0 m.1 m.2 t))
