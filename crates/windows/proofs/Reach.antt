-- How far a value at place j may lie from an edge: the run conditions of both edges in one form.
use Rattle.std.proofs.Common.{◌≡◌, ℕ, ◌+◌, ◌<◌, ◌≤◌, min, max, List, map, length, get_or, ℤ, pos, ◌+ℤ◌, ◌≤ℤ◌, ◌<ℤ◌, sym, ◌∙◌, subst, ⊎_elim, arith}
use lib.ListN.{length-map}
use Rattle.std.proofs.lemmas.List.{get_or-map}
use Rattle.std.proofs.lemmas.Bool.Decides.{nat_tests}
use Rattle.std.proofs.lemmas.Bool.{cases_lt}
use Rattle.grid.specs.declared.parts.Edge.{Edge}
use Rattle.grid.specs.declared.parts.Edge.TheVariants.{Low, High}
use Rattle.grid.specs.Vectors.{least, greatest}
use Rattle.grid.specs.Keys.{Beyond, extreme}
use Rattle.grid.proofs.ExtremeLemmas.{extreme_first, extreme_none}
use Rattle.windows.specs.Intervals.{Interval, interval_at, Between}
use Rattle.grid.specs.declared.extremes.Extreme.{Extreme}
use Rattle.grid.specs.Extremes.{IsExtreme}
use Rattle.windows.specs.Ends.{far_end, far_ends}
use Rattle.windows.specs.Runs.{AtPlace, LowRun, HighRun, past, short}
use Rattle.windows.specs.Finding.{late}

-- the end of place i that lies away from an edge
abbrev pub far_at : Edge → List Interval → ℕ → ℕ
far_at e w i = far_end e (interval_at w i)

pub get_or_far : (e : Edge) (w : List Interval) (i : ℕ) → i < length w → get_or (far_ends e w) i 0 ≡ far_at e w i
get_or_far e w i h = get_or-map (far_end e) w i (record { low = 0; high = 0 }) 0 h

pub length_far : (e : Edge) (w : List Interval) → length (far_ends e w) ≡ length w
length_far e w = length-map w (far_end e)

-- x lies no farther from the edge than y
abbrev pub NoFarther : Edge → ℕ → ℕ → Type 0
NoFarther Low x y = x ≤ y
NoFarther High x y = y ≤ x

-- the run of an edge
abbrev pub Run : Edge → ℤ → List Interval → ℕ → ℕ → Type 0
Run Low θ w j v = LowRun θ w j v
Run High θ w j v = HighRun θ w j v

-- every place has a measure that the value at place j does not pass, and before place j one that it does not meet
abbrev pub Reach : Edge → List Interval → ℕ → ℕ → Type 0
Reach e w j v = (i : ℕ) → i < length w → (i < j → Beyond e v (far_at e w i)) × (j ≤ i → NoFarther e v (far_at e w i))

-- the end of an interval towards the edge
abbrev pub near_end : Edge → Interval → ℕ
near_end Low s = s.low
near_end High s = s.high

abbrev pub near_ends : Edge → List Interval → List ℕ
near_ends e w = map (near_end e) w

-- the extreme towards the other edge
abbrev pub opposite : Edge → List ℕ → ℕ
opposite Low x = greatest x
opposite High x = least x

-- v, and one step away from the edge where there is a place before j
abbrev pub after : Edge → ℕ → ℕ → ℕ
after Low j v = past j v
after High j v = short j v

-- the farther of two measures from the edge
abbrev pub farther : Edge → ℕ → ℕ → ℕ
farther Low x y = max x y
farther High x y = min x y

-- the farthest of v, the end g, and v or one step away from the edge
abbrev pub counted : Edge → ℕ → ℕ → ℕ → ℕ
counted e g j v = farther e (farther e v g) (after e j v)

-- of the ends towards the edge, the one that lies farthest from it
abbrev pub widest : Edge → List Interval → ℕ
widest e w = opposite e (near_ends e w)

-- of the vectors whose extreme is v, first at place j, the other extreme where it lies nearest to the edge
abbrev pub other_extreme : Edge → List Interval → ℕ → ℕ → ℕ
other_extreme e w j v = counted e (widest e w) j v

-- a vector with these two extremes is on the edge
abbrev pub OnEdge : Edge → ℤ → ℕ → ℕ → Type 0
OnEdge Low θ v m = (pos (v + m) +ℤ θ) <ℤ pos 65535
OnEdge High θ v m = pos 65535 ≤ℤ (pos (v + m) +ℤ θ)

own_far : (e : Edge) (w : List Interval) (j v : ℕ) → Between (interval_at w j) v → NoFarther e v (far_at e w j)
own_far Low w j v b = b.1
own_far High w j v b = b.0

run_earlier : (e : Edge) (θ : ℤ) (w : List Interval) (j v : ℕ) → Run e θ w j v → (i : ℕ) → i < j → Beyond e v (far_at e w i)
run_earlier Low θ w j v r = r.earlier
run_earlier High θ w j v r = r.earlier

run_later : (e : Edge) (θ : ℤ) (w : List Interval) (j v : ℕ) → Run e θ w j v → (i : ℕ) → j < i → i < length w → NoFarther e v (far_at e w i)
run_later Low θ w j v r = r.later
run_later High θ w j v r = r.later

pub run_reach : (e : Edge) (θ : ℤ) (w : List Interval) (j v : ℕ) → AtPlace w j v → Run e θ w j v → Reach e w j v
run_reach e θ w j v a r i h = (
  run_earlier e θ w j v r i,
  λ l. ⊎_elim (λ q. run_later e θ w j v r i q h) (λ q. let s : j ≡ i = omega arith in subst (λ k. NoFarther e v (far_at e w k)) s (own_far e w j v a.1)) (cases_lt j i),
)

pub run_edge : (e : Edge) (θ : ℤ) (w : List Interval) (j v : ℕ) → Run e θ w j v → OnEdge e θ v (other_extreme e w j v)
run_edge Low θ w j v r = r.edge
run_edge High θ w j v r = r.edge

pub run_made : (e : Edge) (θ : ℤ) (w : List Interval) (j v : ℕ) → j < length w → Reach e w j v → OnEdge e θ v (other_extreme e w j v) → Run e θ w j v
run_made Low θ w j v h r o = record { earlier = λ i l. (r i (omega arith)).0 l; later = λ i l g. (r i g).1 (omega arith); edge = o }
run_made High θ w j v h r o = record { earlier = λ i l. (r i (omega arith)).0 l; later = λ i l g. (r i g).1 (omega arith); edge = o }

-- ---- what the tightest end g, first at place p, leaves to a value at place j

abbrev pub Room : Edge → ℕ → ℕ → ℕ → ℕ → Type 0
Room Low g p j v = v + late p j ≤ g
Room High g p j v = g + late p j ≤ v

room_at : (e : Edge) (g p j v : ℕ) → (p < j → Beyond e v g) → (j ≤ p → NoFarther e v g) → Room e g p j v
room_at Low g p j v a b = grind (arith, nat_tests)
room_at High g p j v a b = grind (arith, nat_tests)

reach_at : (e : Edge) (g p j v i y : ℕ) → (Beyond e y g → ⊥) → (i < p → y ≡ g → ⊥) → Room e g p j v → (i < j → Beyond e v y) × (j ≤ i → NoFarther e v y)
reach_at Low g p j v i y n a r = let m : g ≤ y = ⊎_elim (λ l. absurd (n l)) (λ l. l) (cases_lt y g) in ((λ q. grind (arith, nat_tests)), (λ q. grind (arith, nat_tests)))
reach_at High g p j v i y n a r = let m : y ≤ g = ⊎_elim (λ l. absurd (n l)) (λ l. l) (cases_lt g y) in ((λ q. grind (arith, nat_tests)), (λ q. grind (arith, nat_tests)))

pub reach_room : (e : Edge) (w : List Interval) (j v : ℕ) (x : Extreme) → 0 < length w → IsExtreme e (far_ends e w) x → Reach e w j v → Room e x.measure x.place j v
reach_room e w j v x some is r =
    let n = length_far e w in
    let f = extreme_first e (far_ends e w) (omega arith) in
    let l : x.place < length w = omega (arith, f.within, is.1) in
    let g : far_at e w x.place ≡ x.measure = sym (get_or_far e w x.place l) ∙ (λ k. get_or (far_ends e w) (is.1 k) 0) ∙ f.there ∙ sym is.0 in
    room_at e x.measure x.place j v
    (λ q. subst (λ m. Beyond e v m) g ((r x.place l).0 q))
    (λ q. subst (λ m. NoFarther e v m) g ((r x.place l).1 q))

pub room_reach : (e : Edge) (w : List Interval) (j v : ℕ) (x : Extreme) → 0 < length w → IsExtreme e (far_ends e w) x → Room e x.measure x.place j v → Reach e w j v
room_reach e w j v x some is r i l =
    let n = length_far e w in
    let f = extreme_first e (far_ends e w) (omega arith) in
    let at = get_or_far e w i l in
    reach_at e x.measure x.place j v i (far_at e w i)
    (λ b. extreme_none e (far_ends e w) i (omega arith) (subst (λ m. Beyond e m (extreme e (far_ends e w))) (sym at) (subst (λ m. Beyond e (far_at e w i) m) is.0 b)))
    (λ q s. f.first i (omega (arith, is.1)) (at ∙ s ∙ is.0))
    r
