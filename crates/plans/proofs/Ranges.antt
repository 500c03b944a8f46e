-- One more range behind others.
use Rattle.std.proofs.Common.{ℕ, ◌+◌, ◌<◌, ◌⊎◌, List, [], ◌∷◌, ◌++◌, length, sym, ◌∙◌, subst, inl, inr, ⊎_elim, arith}
use Rattle.std.specs.Prelude.{All}
use Rattle.std.proofs.lemmas.List.{get_or_append_left, get_or_push, length_push}
use Rattle.std.proofs.lemmas.List.Elements.{All-push, Contains-get_or}
use Rattle.std.proofs.lemmas.List.Quantifiers.{Any-push}
use Rattle.std.proofs.lemmas.Bool.{cases_lt}
use Rattle.plans.specs.Ranges.{KeyRange, range_at, Has, Planned, Apart, OnePlace, Rising, Rule}

pub planned_more : (rs : List KeyRange) (r : KeyRange) (k : ℕ) → Planned (rs ++ r ∷ []) k → Planned rs k ⊎ Has r k
planned_more rs r k (i, x, h, e, has) =
    let n = length_push rs r in
    ⊎_elim
    (λ l. inl (i, x, l, sym (get_or_append_left rs (r ∷ []) x i l) ∙ e, has))
    (λ l. inr (subst (λ y. Has y k) (sym e ∙ get_or_push rs r x i (omega arith)) has))
    (cases_lt i (length rs))

pub planned_old : (rs : List KeyRange) (r : KeyRange) (k : ℕ) → Planned rs k → Planned (rs ++ r ∷ []) k
planned_old rs r k (i, x, h, e, has) = let n = length_push rs r in (i, x, omega arith, get_or_append_left rs (r ∷ []) x i h ∙ e, has)

pub planned_new : (rs : List KeyRange) (r : KeyRange) (k : ℕ) → Has r k → Planned (rs ++ r ∷ []) k
planned_new rs r k has = Any-push (λ x. Has x k) rs r has

-- the range at an index plans its high end
planned_high : (rs : List KeyRange) (i : ℕ) → All OnePlace rs → i < length rs → Planned rs (range_at rs i).high
planned_high rs i places h =
    let z : KeyRange = record { low = 0; high = 0 } in
    let at = Contains-get_or rs i z h in
    (at.0, range_at rs i, at.1, at.2, ((places i z h).0, omega arith))

rising_push : (rs : List KeyRange) (r : KeyRange) → All OnePlace rs → Rising rs → ((k : ℕ) → Planned rs k → Apart k r.low) → Rising (rs ++ r ∷ [])
rising_push rs r places old apart i h =
    let n = length_push rs r in
    let z : KeyRange = record { low = 0; high = 0 } in
    let e = get_or_append_left rs (r ∷ []) z i (omega arith) in
    let P : KeyRange → KeyRange → Type 0 = λ x y. Apart x.high y.low in
    subst (λ x. P x (range_at (rs ++ r ∷ []) (i + 1))) (sym e)
    (⊎_elim
    (λ l. subst (λ y. P (range_at rs i) y) (sym (get_or_append_left rs (r ∷ []) z (i + 1) l)) (old i l))
    (λ l. subst (λ y. P (range_at rs i) y) (sym (get_or_push rs r z (i + 1) (omega arith))) (apart (range_at rs i).high (planned_high rs i places (omega arith))))
    (cases_lt (i + 1) (length rs)))

-- a plan with one more range that lies apart is a plan
pub rule_push : (rs : List KeyRange) (r : KeyRange) → Rule rs → length rs < 32 → OnePlace r → ((k : ℕ) → Planned rs k → Apart k r.low) → Rule (rs ++ r ∷ [])
rule_push rs r old room place apart = record {
  few = omega (arith, length_push rs r);
  places = All-push OnePlace rs r old.places place;
  rising = rising_push rs r old.places old.rising apart;
}
