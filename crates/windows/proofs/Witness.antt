-- A key is the key of some vector inside, on an edge, exactly when its value lies in the run of that edge.
use Rattle.std.proofs.Common.{◌≡◌, ℕ, zero, suc, ◌+◌, ◌-◌, ◌<◌, ◌≤◌, min, max, cond, ltb, List, map, length, get_or, ℤ, sym, ◌∙◌, subst, arith}
use lib.ListN.{length-map}
use Rattle.std.specs.List.{range_with_len}
use Rattle.std.proofs.lemmas.List.FromFn.{length-map-range_with_len, get_or-map-range_with_len}
use Rattle.std.proofs.lemmas.List.{get_or-map}
use Rattle.std.proofs.lemmas.Bool.Decides.{nat_tests}
use Rattle.std.proofs.lemmas.Int.{ints}
use Rattle.grid.specs.declared.parts.Edge.{Edge}
use Rattle.grid.specs.declared.parts.Edge.TheVariants.{Low, High}
use Rattle.grid.specs.Vectors.{least, greatest, first_place}
use Rattle.grid.specs.Keys.{Beyond, extreme, key_at, key_of, edge_of}
use Rattle.grid.specs.KeyRule.{FirstPlace}
use Rattle.grid.proofs.ExtremeLemmas.{Leads, leads_found, least_le, le_least, greatest_ge, greatest_le, extreme_first}
use Rattle.grid.proofs.Edges.{LowSum, HighSum, low_edge, high_edge, key_low, key_high}
use Rattle.windows.specs.Intervals.{Interval, interval_at, Between, Inside, Uncrossed}
use Rattle.windows.specs.Ends.{far_end}
use Rattle.windows.specs.Runs.{AtPlace, Valid}
use Rattle.windows.specs.Wanted.{Wanted}
use Rattle.windows.proofs.Reach.{far_at, NoFarther, Run, Reach, near_end, near_ends, opposite, after, farther, counted, widest, other_extreme, OnEdge, run_reach, run_edge, run_made}

-- ---- the extreme towards the other edge

opposite_near : (e : Edge) (x : List ℕ) (k : ℕ) → k < length x → NoFarther e (get_or x k 0) (opposite e x)
opposite_near Low x k h = greatest_ge x k h
opposite_near High x k h = least_le x k h

opposite_least : (e : Edge) (x : List ℕ) (b : ℕ) → 0 < length x → ((k : ℕ) → k < length x → NoFarther e (get_or x k 0) b) → NoFarther e (opposite e x) b
opposite_least Low x b some h = greatest_le x b h
opposite_least High x b some h = le_least x b some h

module _ (e : Edge) (w : List Interval) where
  near_at : (k : ℕ) → k < length w → get_or (near_ends e w) k 0 ≡ near_end e (interval_at w k)
  near_at k h = get_or-map (near_end e) w k (record { low = 0; high = 0 }) 0 h

  near_length : length (near_ends e w) ≡ length w
  near_length = length-map w (near_end e)

  near_widest : (k : ℕ) → k < length w → NoFarther e (near_end e (interval_at w k)) (widest e w)
  near_widest k h = subst (λ m. NoFarther e m (widest e w)) (near_at k h) (opposite_near e (near_ends e w) k (omega (arith, near_length)))

  widest_least : (b : ℕ) → 0 < length w → ((k : ℕ) → k < length w → NoFarther e (near_end e (interval_at w k)) b) → NoFarther e (widest e w) b
  widest_least b some h = opposite_least e (near_ends e w) b (omega (arith, near_length)) (λ k l.
      let i : k < length w = omega (arith, near_length) in
      subst (λ m. NoFarther e m b) (sym (near_at k i)) (h k i))

-- ---- from a run to a vector

-- of the measures between the ends, the nearest to the edge that does not pass m
abbrev fitted : Edge → Interval → ℕ → ℕ
fitted Low s m = max s.low m
fitted High s m = min s.high m

-- one step away from the edge
abbrev away : Edge → ℕ → ℕ
away Low v = v + 1
away High v = v - 1

abbrev measure : Edge → List Interval → ℕ → ℕ → ℕ → ℕ
measure e w j v i = fitted e (interval_at w i) (cond (ltb i j) (away e v) v)

-- of the vectors inside whose extreme is v, first at place j, the one nearest to the edge
abbrev witness : Edge → List Interval → ℕ → ℕ → List ℕ
witness e w j v = map (measure e w j v) (range_with_len 0 (length w))

at : (e : Edge) (w : List Interval) (j v i : ℕ) → i < length w → get_or (witness e w j v) i 0 ≡ measure e w j v i
at e w j v i h = get_or-map-range_with_len (measure e w j v) 0 (length w) i i 0 h (omega arith)

long : (e : Edge) (w : List Interval) (j v : ℕ) → length (witness e w j v) ≡ length w
long e w j v = length-map-range_with_len (measure e w j v) 0 (length w)

between : (e : Edge) (w : List Interval) (j v i : ℕ) → (interval_at w i).low ≤ (interval_at w i).high
    → (i < j → Beyond e v (far_at e w i)) × (j ≤ i → NoFarther e v (far_at e w i)) → Between (interval_at w i) (measure e w j v i)
between Low w j v i c r = let b : i < j → v < (interval_at w i).high = r.0 in let a : j ≤ i → v ≤ (interval_at w i).high = r.1 in (grind (arith, nat_tests), grind (arith, nat_tests))
between High w j v i c r = let b : i < j → (interval_at w i).low < v = r.0 in let a : j ≤ i → (interval_at w i).low ≤ v = r.1 in (grind (arith, nat_tests), grind (arith, nat_tests))

inside : (e : Edge) (w : List Interval) (j v : ℕ) → Uncrossed w → Reach e w j v → Inside w (witness e w j v)
inside e w j v valid r = record {
  width = long e w j v;
  between = λ i h. subst (λ m. Between (interval_at w i) m) (sym (at e w j v i h)) (between e w j v i (valid i h) (r i h));
}

here : (e : Edge) (w : List Interval) (j v : ℕ) → Between (interval_at w j) v → measure e w j v j ≡ v
here Low w j v b = grind (arith, nat_tests)
here High w j v b = grind (arith, nat_tests)

none_nearer : (e : Edge) (w : List Interval) (j v i : ℕ) → Beyond e (measure e w j v i) v → (i < j → Beyond e v (far_at e w i)) → ⊥
none_nearer Low w j v i b r = grind (arith, nat_tests)
none_nearer High w j v i b r = let c : i < j → (interval_at w i).low < v = r in grind (arith, nat_tests)

before : (e : Edge) (w : List Interval) (j v i : ℕ) → i < j → Beyond e v (far_at e w i) → Beyond e v (measure e w j v i)
before Low w j v i l r = grind (arith, nat_tests)
before High w j v i l r = grind (arith, nat_tests)

leads : (e : Edge) (w : List Interval) (j v : ℕ) → AtPlace w j v → Reach e w j v → Leads e (witness e w j v) (length (witness e w j v)) j
leads e w j v a r =
    let n = long e w j v in
    let x = witness e w j v in
    let own : get_or x j 0 ≡ v = at e w j v j a.0 ∙ here e w j v a.1 in
    record {
      within = omega (arith, a.0);
      none = λ k l b. none_nearer e w j v k (subst (λ m. Beyond e (measure e w j v k) m) own (subst (λ m. Beyond e m (get_or x j 0)) (at e w j v k (omega arith)) b)) (r k (omega arith)).0;
      first = λ k l.
          let h : k < length w = omega (arith, a.0) in
          subst (λ m. Beyond e (get_or x j 0) m) (sym (at e w j v k h)) (subst (λ m. Beyond e m (measure e w j v k)) (sym own) (before e w j v k l ((r k h).0 l)));
    }

-- no measure of the vector lies farther from the edge than what the run counts with
measure_near : (e : Edge) (s : Interval) (g j v k : ℕ) → NoFarther e (near_end e s) g → NoFarther e (fitted e s (cond (ltb k j) (away e v) v)) (counted e g j v)
measure_near Low s g zero v k h = grind (arith, nat_tests)
measure_near Low s g (suc j) v k h = grind (arith, nat_tests)
measure_near High s g zero v k h = grind (arith, nat_tests)
measure_near High s g (suc j) v k h = grind (arith, nat_tests)

other_near : (e : Edge) (w : List Interval) (j v : ℕ) → j < length w → NoFarther e (opposite e (witness e w j v)) (other_extreme e w j v)
other_near e w j v some =
    let n = long e w j v in
    opposite_least e (witness e w j v) (other_extreme e w j v) (omega arith) (λ k h.
    let i : k < length w = omega arith in
    subst (λ m. NoFarther e m (other_extreme e w j v)) (sym (at e w j v k i)) (measure_near e (interval_at w k) (widest e w) j v k (near_widest e w k i)))

-- the sums of a vector with the extreme v, from those of the run
edge_of_witness : (e : Edge) (θ : ℤ) (x : List ℕ) (v m : ℕ) → extreme e x ≡ v → NoFarther e (opposite e x) m → OnEdge e θ v m → edge_of θ x ≡ e
edge_of_witness Low θ x v m is n o = low_edge θ x (omega (arith, ints))
edge_of_witness High θ x v m is n o = high_edge θ x (omega (arith, ints))

key_on : (e : Edge) (θ : ℤ) (x : List ℕ) → edge_of θ x ≡ e → key_of θ x ≡ key_at (first_place (extreme e x) x) (extreme e x)
key_on Low θ x h = key_low θ x h
key_on High θ x h = key_high θ x h

pub run_wanted : (e : Edge) (θ : ℤ) (w : List Interval) (j v : ℕ) → Valid w → AtPlace w j v → Run e θ w j v → Wanted θ w (key_at j v)
run_wanted e θ w j v ok a run =
    let r = run_reach e θ w j v a run in
    let x = witness e w j v in
    let n = long e w j v in
    let f = leads_found e x (length x) j (leads e w j v a r) (omega arith) in
    let is : extreme e x ≡ v = sym f.value ∙ at e w j v j a.0 ∙ here e w j v a.1 in
    let on = edge_of_witness e θ x v (other_extreme e w j v) is (other_near e w j v a.0) (run_edge e θ w j v run) in
    let i = inside e w j v ok.uncrossed r in (
      x,
      (λ k l. omega (arith, (i.between k (omega arith)).1, ok.grid k (omega arith))),
      i,
      key_on e θ x on ∙ (λ k. key_at (sym f.first k) (is k)),
    )

-- ---- and back

extreme_near : (e : Edge) (x : List ℕ) (k : ℕ) → k < length x → NoFarther e (extreme e x) (get_or x k 0)
extreme_near Low x k h = least_le x k h
extreme_near High x k h = greatest_ge x k h

-- a measure between the ends of an interval lies no farther than its far end
far_beyond : (e : Edge) (s : Interval) (v y : ℕ) → Between s y → NoFarther e v y → (y ≡ v → ⊥) → Beyond e v (far_end e s)
far_beyond Low s v y b n d = grind arith
far_beyond High s v y b n d = grind arith

far_near : (e : Edge) (s : Interval) (v y : ℕ) → Between s y → NoFarther e v y → NoFarther e v (far_end e s)
far_near Low s v y b n = omega arith
far_near High s v y b n = omega arith

between_near : (e : Edge) (s : Interval) (y o : ℕ) → Between s y → NoFarther e y o → NoFarther e (near_end e s) o
between_near Low s y o b n = omega (arith, b.0)
between_near High s y o b n = omega (arith, b.1)

away_near : (e : Edge) (a y o : ℕ) → NoFarther e a y → (y ≡ a → ⊥) → NoFarther e y o → NoFarther e (away e a) o
away_near Low a y o n d m = grind arith
away_near High a y o n d m = grind arith

-- behind another place, the vector has a measure farther from the edge
after_near : (e : Edge) (x : List ℕ) (j : ℕ) → FirstPlace x (extreme e x) j → NoFarther e (extreme e x) (opposite e x) → NoFarther e (after e j (extreme e x)) (opposite e x)
after_near Low x zero f n = n
after_near High x zero f n = n
after_near Low x (suc j) f n = let l : 0 < length x = omega (arith, f.within) in away_near Low (least x) (get_or x 0 0) (greatest x) (extreme_near Low x 0 l) (f.first 0 (omega arith)) (opposite_near Low x 0 l)
after_near High x (suc j) f n = let l : 0 < length x = omega (arith, f.within) in away_near High (greatest x) (get_or x 0 0) (least x) (extreme_near High x 0 l) (f.first 0 (omega arith)) (opposite_near High x 0 l)

farther_near : (e : Edge) (a b o : ℕ) → NoFarther e a o → NoFarther e b o → NoFarther e (farther e a b) o
farther_near Low a b o h g = omega arith
farther_near High a b o h g = omega arith

-- no vector inside has its other extreme nearer to the edge than what the run counts with
other_far : (e : Edge) (w : List Interval) (x : List ℕ) (j : ℕ) → 0 < length w → Inside w x → FirstPlace x (extreme e x) j → NoFarther e (other_extreme e w j (extreme e x)) (opposite e x)
other_far e w x j some i f =
    let n : length x ≡ length w = i.width in
    let a = extreme e x in
    let o = opposite e x in
    let own : NoFarther e a o = subst (λ m. NoFarther e m o) f.there (opposite_near e x j f.within) in
    let ends : NoFarther e (widest e w) o = widest_least e w o some (λ k l. between_near e (interval_at w k) (get_or x k 0) o (i.between k l) (opposite_near e x k (omega arith))) in
    farther_near e (farther e a (widest e w)) (after e j a) o (farther_near e a (widest e w) o own ends) (after_near e x j f own)

-- the vector is on the edge
abbrev pub Sum : Edge → ℤ → List ℕ → Type 0
Sum Low θ x = LowSum θ x
Sum High θ x = HighSum θ x

on_edge_of : (e : Edge) (θ : ℤ) (x : List ℕ) (m : ℕ) → Sum e θ x → NoFarther e m (opposite e x) → OnEdge e θ (extreme e x) m
on_edge_of Low θ x m h n = omega (arith, ints)
on_edge_of High θ x m h n = omega (arith, ints)

-- the extreme of a vector inside lies in the run of its place
pub inside_run : (e : Edge) (θ : ℤ) (w : List Interval) (x : List ℕ) → Valid w → Inside w x → Sum e θ x → AtPlace w (first_place (extreme e x) x) (extreme e x) × Run e θ w (first_place (extreme e x) x) (extreme e x)
inside_run e θ w x ok i h =
    let n : length x ≡ length w = i.width in
    let a = extreme e x in
    let p = first_place a x in
    let f = extreme_first e x (omega (arith, ok.some)) in
    let l : p < length w = omega (arith, f.within) in
    let reach : Reach e w p a = λ k g. (
      (λ q. far_beyond e (interval_at w k) a (get_or x k 0) (i.between k g) (extreme_near e x k (omega arith)) (f.first k q)),
      (λ q. far_near e (interval_at w k) a (get_or x k 0) (i.between k g) (extreme_near e x k (omega arith))),
    ) in (
      (l, subst (λ m. Between (interval_at w p) m) f.there (i.between p l)),
      run_made e θ w p a l reach (on_edge_of e θ x (other_extreme e w p a) h (other_far e w x p ok.some i f)),
    )
