-- The cells of a plan with one more range.
use Rattle.std.proofs.Common.{◌≡◌, ℕ, suc, ◌+◌, ◌-◌, ◌<◌, List, [], ◌∷◌, ◌++◌, length, set, replicate, sym, ◌∙◌, ap, subst, arith, append_assoc}
use Rattle.std.proofs.Math.Seq.{set-append_seam}
use Rattle.std.proofs.lemmas.List.{length_push, length-append, length-replicate, take_more_set}
use Rattle.plans.specs.declared.plan.Plan.TheInside.{Inside as Fields}
use Rattle.plans.specs.Ranges.{KeyRange, Planned, Apart, OnePlace, Rule}
use Rattle.plans.specs.Plan.{ranges_of, cells_of, IsHeld}
use Rattle.plans.proofs.Ranges.{rule_push}

set-cells_of : (rs : List KeyRange) (r : KeyRange) → length rs < 32 → set (cells_of rs) (length rs) r ≡ cells_of (rs ++ r ∷ [])
set-cells_of rs r room =
    let z : KeyRange = record { low = 0; high = 0 } in
    let n = length_push rs r in
    let e : 32 - length rs ≡ suc (31 - length rs) = omega arith in
    let f : 32 - length (rs ++ r ∷ []) ≡ 31 - length rs = omega arith in
    rw (e, f, append_assoc) (set-append_seam rs z (replicate (31 - length rs) z) r)

-- the fields with the range put behind hold a plan
pub held_push : (a : Fields) (r : KeyRange) → IsHeld a → length (ranges_of a) < 32 → OnePlace r → ((k : ℕ) → Planned (ranges_of a) k → Apart k r.low)
    → IsHeld (record { ranges = set a.ranges a.len r; len = a.len + 1 })
held_push a r held room place apart =
    let z : KeyRange = record { low = 0; high = 0 } in
    let rs = ranges_of a in
    let all : length a.ranges ≡ length (cells_of rs) = ap length held.cells in
    let n = length-append rs (replicate (32 - length rs) z) in
    let m = length-replicate (32 - length rs) z in
    let e = take_more_set a.ranges a.len r (omega (arith, held.len)) in
    let f : set a.ranges a.len r ≡ cells_of (rs ++ r ∷ []) = let g = set-cells_of rs r room in let c = held.cells in let l = held.len in cc in
    record {
      rule = subst Rule (sym e) (rule_push rs r held.rule room place apart);
      cells = f ∙ ap cells_of (sym e);
      len = omega (arith, held.len, length_push rs r, ap length e);
    }
