-- The run of a place in plain sums, and what its finder has found.
use Rattle.std.proofs.Common.{◌≡◌, ℕ, zero, suc, ◌<◌, ◌≤◌, min, List, length, ℤ, pos, ◌+ℤ◌, None, Option, sym, ap, ◌∙◌, subst, arith}
use Rattle.std.proofs.lemmas.Int.{ints}
use Rattle.grid.specs.declared.parts.Edge.{Edge}
use Rattle.grid.specs.declared.parts.Edge.TheVariants.{Low, High}
use Rattle.windows.specs.Intervals.{Interval, interval_at, Between}
use Rattle.grid.specs.declared.extremes.Extreme.{Extreme}
use Rattle.grid.specs.Extremes.{IsExtreme}
use Rattle.windows.specs.Ends.{far_end, far_ends}
use Rattle.windows.specs.Runs.{AtPlace}
use Rattle.windows.specs.Finding.{Holds, Same, LowSums, HighSums}
use Rattle.windows.proofs.Reach.{Run, Reach, NoFarther, Room, OnEdge, near_end, widest, counted, run_reach, run_edge, run_made, reach_room, room_reach}

-- ---- the sum of a value and the other extreme

-- what the knob leaves to the sum on the low edge, and asks of it on the high edge
abbrev Rest : Edge → ℤ → ℕ → Type 0
Rest Low θ room = pos room +ℤ θ ≡ pos 65534
Rest High θ room = pos room +ℤ θ ≡ pos 65535

-- a value on the high edge is above a low end before it, and so not 0
abbrev Stepped : Edge → ℕ → ℕ → Type 0
Stepped Low j v = Unit {0}
Stepped High j v = min j 1 ≤ v

stepped : (e : Edge) (w : List Interval) (j v : ℕ) → j < length w → Reach e w j v → Stepped e j v
stepped Low w j v h r = tt
stepped High w zero v h r = omega arith
stepped High w (suc j) v h r = omega (arith, (r 0 (omega arith)).0 (omega arith))

abbrev pub Sums : Edge → ℕ → ℕ → ℕ → ℕ → ℕ → Type 0
Sums Low bound g extra room v = LowSums bound g extra room v
Sums High bound g extra room v = HighSums bound g extra room v

-- v is no farther than a bound
abbrev pub Bounded : Edge → ℕ → ℕ → Type 0
Bounded e b v = NoFarther e v b

sums_of : (e : Edge) (θ : ℤ) (bound g j v room : ℕ) → Rest e θ room → Bounded e bound v → Stepped e j v → OnEdge e θ v (counted e g j v) → Sums e bound g (min j 1) room v
sums_of Low θ bound g zero v room r b s o = (b, omega (arith, ints), omega (arith, ints))
sums_of Low θ bound g (suc j) v room r b s o = (b, omega (arith, ints), omega (arith, ints))
sums_of High θ bound g zero v room r b s o = (b, omega (arith, ints), omega (arith, ints))
sums_of High θ bound g (suc j) v room r b s o = (b, omega (arith, ints), omega (arith, ints))

sums_bounded : (e : Edge) (bound g extra room v : ℕ) → Sums e bound g extra room v → Bounded e bound v
sums_bounded Low bound g extra room v s = s.0
sums_bounded High bound g extra room v s = s.0

sums_edge : (e : Edge) (θ : ℤ) (bound g j v room : ℕ) → Rest e θ room → Stepped e j v → Sums e bound g (min j 1) room v → OnEdge e θ v (counted e g j v)
sums_edge Low θ bound g zero v room r s h = omega (arith, ints, h.1, h.2)
sums_edge Low θ bound g (suc j) v room r s h = omega (arith, ints, h.1, h.2)
sums_edge High θ bound g zero v room r s h = omega (arith, ints, h.1, h.2)
sums_edge High θ bound g (suc j) v room r s h = omega (arith, ints, h.1, h.2)

-- ---- what a finder knows before it looks at the end towards the edge

pub record Facts (e : Edge) (θ : ℤ) (w : List Interval) (j bound g extra room : ℕ) : Type 0 where
  pub rest : Rest e θ room
  pub within : j < length w
  pub reach : Same (Bounded e bound) (Reach e w j)
  pub widest_is : g ≡ widest e w
  pub extra_is : extra ≡ min j 1

abbrev pub InRun : Edge → ℤ → List Interval → ℕ → ℕ → Type 0
InRun e θ w j v = AtPlace w j v × Run e θ w j v

-- v lies between the end towards the edge and a bound
abbrev pub Within : Edge → ℕ → ℕ → ℕ → Type 0
Within Low near limit v = (near ≤ v) × (v ≤ limit)
Within High near limit v = (limit ≤ v) × (v ≤ near)

within_bounded : (e : Edge) (near limit v : ℕ) → Within e near limit v → Bounded e limit v
within_bounded Low near limit v h = h.1
within_bounded High near limit v h = h.0

within_own : (e : Edge) (s : Interval) (near limit v : ℕ) → near ≡ near_end e s → Within e near limit v → NoFarther e v (far_end e s) → Between s v
within_own Low s near limit v is h f = (omega (arith, h.0), f)
within_own High s near limit v is h f = (f, omega (arith, h.1))

within_made : (e : Edge) (s : Interval) (near limit v : ℕ) → near ≡ near_end e s → Between s v → Bounded e limit v → Within e near limit v
within_made Low s near limit v is b l = (omega (arith, b.0), l)
within_made High s near limit v is b l = (l, omega (arith, b.1))

module _ {e : Edge} {θ : ℤ} {w : List Interval} {j bound g extra room : ℕ} (f : Facts e θ w j bound g extra room) where
  pub run_sums : (v : ℕ) → InRun e θ w j v → Sums e bound g extra room v
  run_sums v h =
      let r = run_reach e θ w j v h.0 h.1 in
      let s = sums_of e θ bound (widest e w) j v room f.rest ((f.reach v).1 r) (stepped e w j v f.within r) (run_edge e θ w j v h.1) in
      subst (λ x. Sums e bound x extra room v) (sym f.widest_is) (subst (λ x. Sums e bound (widest e w) x room v) (sym f.extra_is) s)

  sums_run : (v : ℕ) → Sums e bound g extra room v → Reach e w j v × Run e θ w j v
  sums_run v h =
      let s = subst (λ x. Sums e bound (widest e w) x room v) f.extra_is (subst (λ x. Sums e bound x extra room v) f.widest_is h) in
      let r = (f.reach v).0 (sums_bounded e bound (widest e w) (min j 1) room v s) in
      (r, run_made e θ w j v f.within r (sums_edge e θ bound (widest e w) j v room f.rest (stepped e w j v f.within r) s))

  -- a bound that the sums leave, and the end towards the edge, are the ends of the run
  pub run_found : (s : Interval) (near limit : ℕ) (r : Option (ℕ × ℕ)) → s ≡ interval_at w j → near ≡ near_end e s → Same (Bounded e limit) (Sums e bound g extra room)
      → Same (Holds r) (Within e near limit) → Same (Holds r) (InRun e θ w j)
  run_found own near limit r here at sums ends v =
      let is : near ≡ near_end e (interval_at w j) = at ∙ ap (near_end e) here in (
        (λ h.
            let b = (ends v).0 h in
            let s = sums_run v ((sums v).0 (within_bounded e near limit v b)) in
            ((f.within, within_own e (interval_at w j) near limit v is b ((s.0 j f.within).1 (omega arith))), s.1)),
        (λ h. (ends v).1 (within_made e (interval_at w j) near limit v is h.0.1 ((sums v).1 (run_sums v h)))),
      )

-- no value is in the run
pub run_none : (e : Edge) (θ : ℤ) (w : List Interval) (j : ℕ) → ((v : ℕ) → InRun e θ w j v → ⊥) → Same (Holds None) (InRun e θ w j)
run_none e θ w j never v = (λ h. absurd h, λ h. absurd (never v h))

-- ---- what the tightest end of a window leaves

pub reach_bound : (e : Edge) (w : List Interval) (x : Extreme) (j : ℕ) (P : ℕ → Type 0) → 0 < length w → IsExtreme e (far_ends e w) x → Same P (λ v. Room e x.measure x.place j v) → Same P (Reach e w j)
reach_bound e w x j P some is same v = (
  (λ h. room_reach e w j v x some is ((same v).0 h)),
  (λ h. (same v).1 (reach_room e w j v x some is h)),
)
