-- The least and the greatest measure of a vector, and the first place of a measure.
use Rattle.std.proofs.Common.{◌≡◌, ℕ, zero, suc, ◌+◌, ◌<◌, ◌≤◌, List, [], ◌∷◌, length, get_or, Option, Some, None, IfSome, IsNone, ◌↔◌, map, sym, refl, ap, ◌∙◌, subst, inl, inr, ⊎_elim, arith, below_more}
use Rattle.std.proofs.lemmas.Bool.Decides.{nat_tests, eqb_tells}
use Rattle.std.proofs.lemmas.Bool.{cases_lt}
use Rattle.std.proofs.lemmas.List.{get_or-map}
use Rattle.grid.specs.declared.parts.Edge.{Edge}
use Rattle.grid.specs.declared.parts.Edge.TheVariants.{Low, High}
use Rattle.grid.specs.Vectors.{least, greatest, first_place}
use Rattle.grid.specs.Keys.{Beyond, extreme}
use Rattle.grid.specs.declared.extremes.Extreme.{Extreme}
use Rattle.grid.specs.Extremes.{IsExtreme, IsNearest}
use Rattle.grid.specs.KeyRule.{FirstPlace, NoneBelow, NoneAbove}

pub least_le : (v : List ℕ) → NoneBelow v (least v)
least_le [] k h = omega arith
least_le (x ∷ []) zero h = omega arith
least_le (x ∷ []) (suc k) h = omega arith
least_le (x ∷ (y ∷ ys)) zero h = omega arith
least_le (x ∷ (y ∷ ys)) (suc k) h =
    let t : least (y ∷ ys) ≤ get_or (y ∷ ys) k 0 = least_le (y ∷ ys) k (omega arith) in omega arith

pub le_least : (v : List ℕ) (a : ℕ) → 0 < length v → NoneBelow v a → a ≤ least v
le_least [] a h b = omega arith
le_least (x ∷ []) a h b = b 0 (omega arith)
le_least (x ∷ (y ∷ ys)) a h b =
    let t : a ≤ least (y ∷ ys) = le_least (y ∷ ys) a (omega arith) (λ k l. b (suc k) (omega arith)) in
    let s : a ≤ x = b 0 (omega arith) in
    omega arith

pub greatest_ge : (v : List ℕ) → NoneAbove v (greatest v)
greatest_ge [] k h = omega arith
greatest_ge (x ∷ xs) zero h = omega arith
greatest_ge (x ∷ xs) (suc k) h =
    let t : get_or xs k 0 ≤ greatest xs = greatest_ge xs k (omega arith) in omega arith

pub greatest_le : (v : List ℕ) (a : ℕ) → NoneAbove v a → greatest v ≤ a
greatest_le [] a b = omega arith
greatest_le (x ∷ xs) a b =
    let t : greatest xs ≤ a = greatest_le xs a (λ k l. b (suc k) (omega arith)) in
    let s : x ≤ a = b 0 (omega arith) in
    omega arith

-- a place that is the first of a measure is the one that is computed
pub place_is : (v : List ℕ) (a p : ℕ) → FirstPlace v a p → p ≡ first_place a v
place_is [] a p h = omega (arith, h.within)
place_is (x ∷ xs) a zero h = let e : x ≡ a = h.there in grind (arith, nat_tests)
place_is (x ∷ xs) a (suc p) h =
    let n : x ≡ a → ⊥ = h.first 0 (omega arith) in
    let t : p ≡ first_place a xs = place_is xs a p (record { within = omega (arith, h.within); there = h.there; first = λ k l. h.first (suc k) (omega arith) }) in
    grind (arith, nat_tests)

-- a measure that the vector has stands first at the place that is computed
pub place_first : (v : List ℕ) (a k : ℕ) → k < length v → get_or v k 0 ≡ a → FirstPlace v a (first_place a v)
place_first [] a k h e = absurd (omega arith)
place_first (x ∷ xs) a zero h e =
    let z : first_place a (x ∷ xs) ≡ 0 = let q : x ≡ a = e in grind (arith, nat_tests) in
    rw z (record { within = omega arith; there = e; first = λ k l. absurd (omega arith) })
place_first (x ∷ xs) a (suc k) h e =
    let t = place_first xs a k (omega arith) e in
    elim (eqb_tells x a) [
      | inl y ↦ rw y.0 (record { within = omega arith; there = y.1; first = λ i l. absurd (omega arith) })
      | inr n ↦ rw n.0 (record {
        within = omega (arith, t.within);
        there = t.there;
        first = λ i. elim i as (λ i. i < suc (first_place a xs) → get_or (x ∷ xs) i 0 ≡ a → ⊥) [ zero ↦ λ l q. n.1 q | suc i' ↦ λ l q. t.first i' (omega arith) q ];
      })
    ]

-- some place has the least measure, and some the greatest
pub least_has : (v : List ℕ) → 0 < length v → (k : ℕ) × (k < length v) × (get_or v k 0 ≡ least v)
least_has [] h = absurd (omega arith)
least_has (x ∷ []) h = (0, omega arith, refl)
least_has (x ∷ (y ∷ ys)) h =
    let t = least_has (y ∷ ys) (omega arith) in
    ⊎_elim
    (λ l. (suc t.0, omega (arith, t.1), omega (arith, t.2)))
    (λ l. (0, omega arith, omega arith))
    (cases_lt (least (y ∷ ys)) x)

pub greatest_has : (v : List ℕ) → 0 < length v → (k : ℕ) × (k < length v) × (get_or v k 0 ≡ greatest v)
greatest_has [] h = absurd (omega arith)
greatest_has (x ∷ []) h = (0, omega arith, omega arith)
greatest_has (x ∷ (y ∷ ys)) h =
    let t = greatest_has (y ∷ ys) (omega arith) in
    ⊎_elim
    (λ l. (suc t.0, omega (arith, t.1), omega (arith, t.2)))
    (λ l. (0, omega arith, omega arith))
    (cases_lt x (greatest (y ∷ ys)))

-- the same of the extreme towards an edge
pub extreme_has : (e : Edge) (v : List ℕ) → 0 < length v → (k : ℕ) × (k < length v) × (get_or v k 0 ≡ extreme e v)
extreme_has Low v h = least_has v h
extreme_has High v h = greatest_has v h

pub extreme_first : (e : Edge) (v : List ℕ) → 0 < length v → FirstPlace v (extreme e v) (first_place (extreme e v) v)
extreme_first e v h = let t = extreme_has e v h in place_first v (extreme e v) t.0 t.1 t.2

-- no measure is nearer to the edge than the extreme
pub extreme_none : (e : Edge) (v : List ℕ) (k : ℕ) → k < length v → Beyond e (get_or v k 0) (extreme e v) → ⊥
extreme_none Low v k h b = omega (arith, least_le v k h)
extreme_none High v k h b = omega (arith, greatest_ge v k h)

-- p is the first place of the extreme among the first i measures
pub record Leads (e : Edge) (v : List ℕ) (i p : ℕ) : Type 0 where
  pub within : p < length v
  pub none : (k : ℕ) → k < i → Beyond e (get_or v k 0) (get_or v p 0) → ⊥
  pub first : (k : ℕ) → k < p → Beyond e (get_or v p 0) (get_or v k 0)

-- what is beyond a measure is beyond those that are not
beyond_trans : (e : Edge) (x y z : ℕ) → Beyond e x y → (Beyond e z y → ⊥) → Beyond e x z
beyond_trans Low x y z h n = ⊎_elim (λ l. absurd (n l)) (λ l. omega arith) (cases_lt z y)
beyond_trans High x y z h n = ⊎_elim (λ l. absurd (n l)) (λ l. omega arith) (cases_lt y z)

beyond_not : (e : Edge) (x y : ℕ) → Beyond e x y → Beyond e y x → ⊥
beyond_not Low x y h b = omega arith
beyond_not High x y h b = omega arith

beyond_self : (e : Edge) (x : ℕ) → Beyond e x x → ⊥
beyond_self Low x h = omega arith
beyond_self High x h = omega arith

-- what is found of the extreme among the first i measures
abbrev pub Best : Edge → List ℕ → ℕ → Option Extreme → Type 0
Best e v i None = i ≡ 0
Best e v i (Some x) = Leads e v i x.place × (x.measure ≡ get_or v x.place 0)

leads_here : (e : Edge) (v : List ℕ) (i : ℕ) → i < length v → ((k : ℕ) → k < i → Beyond e (get_or v i 0) (get_or v k 0)) → Leads e v (i + 1) i
leads_here e v i l before = record {
  within = l;
  none = below_more _ _ (λ k h q. beyond_not e (get_or v i 0) (get_or v k 0) (before k h) q) (beyond_self e (get_or v i 0));
  first = before;
}

-- the next measure is nearer than the best
pub best_moves : (e : Edge) (v : List ℕ) (i m : ℕ) (b : Option Extreme) → Best e v i b → i < length v → m ≡ get_or v i 0 → IsNearest e m b
    → Best e v (i + 1) (Some (record { measure = m; place = i }))
best_moves e v i m None h l is n = (leads_here e v i l (λ k q. absurd (omega arith)), is)
best_moves e v i m (Some x) h l is n =
    let n' : Beyond e (get_or v i 0) (get_or v x.place 0) = subst (λ y. Beyond e y (get_or v x.place 0)) is (subst (λ y. Beyond e m y) h.1 n) in
    (leads_here e v i l (λ k q. beyond_trans e (get_or v i 0) (get_or v x.place 0) (get_or v k 0) n' (h.0.none k q)), is)

-- it is not
pub best_stays : (e : Edge) (v : List ℕ) (i m : ℕ) (b : Option Extreme) → Best e v i b → m ≡ get_or v i 0 → (IsNearest e m b → ⊥) → Best e v (i + 1) b
best_stays e v i m None h is n = absurd (n tt)
best_stays e v i m (Some x) h is n =
    let n' : Beyond e (get_or v i 0) (get_or v x.place 0) → ⊥ = λ q. n (subst (λ y. Beyond e m y) (sym h.1) (subst (λ y. Beyond e y (get_or v x.place 0)) (sym is) q)) in
    (record { within = h.0.within; none = below_more _ _ h.0.none n'; first = h.0.first }, h.1)

-- what a search over the whole vector has found
pub record Found (e : Edge) (v : List ℕ) (p : ℕ) : Type 0 where
  pub value : get_or v p 0 ≡ extreme e v
  pub first : p ≡ first_place (extreme e v) v

value_found : (e : Edge) (v : List ℕ) (i p : ℕ) → Leads e v i p → length v ≤ i → get_or v p 0 ≡ extreme e v
value_found Low v i p w l =
    let u : least v ≤ get_or v p 0 = least_le v p w.within in
    let b : NoneBelow v (get_or v p 0) = λ k h. ⊎_elim (λ q. absurd (w.none k (omega arith) q)) (λ q. q) (cases_lt (get_or v k 0) (get_or v p 0)) in
    omega (arith, le_least v (get_or v p 0) (omega (arith, w.within)) b)
value_found High v i p w l =
    let u : get_or v p 0 ≤ greatest v = greatest_ge v p w.within in
    let b : NoneAbove v (get_or v p 0) = λ k h. ⊎_elim (λ q. absurd (w.none k (omega arith) q)) (λ q. q) (cases_lt (get_or v p 0) (get_or v k 0)) in
    omega (arith, greatest_le v (get_or v p 0) b)

pub leads_found : (e : Edge) (v : List ℕ) (i p : ℕ) → Leads e v i p → length v ≤ i → Found e v p
leads_found e v i p w l =
    let is : get_or v p 0 ≡ extreme e v = value_found e v i p w l in
    let other : (k : ℕ) → k < p → get_or v k 0 ≡ extreme e v → ⊥ = λ k h q. beyond_self e (get_or v p 0) (subst (λ m. Beyond e (get_or v p 0) m) (q ∙ sym is) (w.first k h)) in
    record { value = is; first = place_is v (extreme e v) p (record { within = w.within; there = is; first = other }) }

-- the measure of an item is the list of measures' at its place
pub get_or_measure : {M : Type 0} (f : M → ℕ) (items : List M) (i m : ℕ) (x : M) → i < length items → x ≡ get_or items i x → m ≡ f x → m ≡ get_or (map f items) i 0
get_or_measure f items i m x l is e = e ∙ ap f is ∙ sym (get_or-map f items i x 0 l)

pub best_extreme : (e : Edge) (v : List ℕ) (i : ℕ) (b : Option Extreme) → Best e v i b → length v ≤ i → IfSome b (IsExtreme e v)
best_extreme e v i None h l = tt
best_extreme e v i (Some x) h l = let f = leads_found e v i x.place h.0 l in (h.1 ∙ f.value, f.first)

pub best_within : (e : Edge) (v : List ℕ) (i n : ℕ) (b : Option Extreme) → Best e v i b → length v ≡ n → IfSome b (λ x. x.place < n)
best_within e v i n None h l = tt
best_within e v i n (Some x) h l = omega (arith, h.0.within)

pub best_none : {M : Type 0} (e : Edge) (f : M → ℕ) (items : List M) (i : ℕ) (b : Option Extreme) → Best e (map f items) i b → length items ≤ i → IsNone b ↔ (items ≡ [])
best_none e f [] i None h l = (λ q. refl, λ q. refl)
best_none e f [] i (Some x) h l = absurd (omega (arith, h.0.within))
best_none e f (y ∷ ys) i None h l = absurd (omega arith)
best_none e f (y ∷ ys) i (Some x) h l = (λ q. cc, λ q. cc)
