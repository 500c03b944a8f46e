-- The key of a vector by its edge: the laws that stand between the definitions of edge and key and whoever uses them.
use Rattle.std.proofs.Common.{◌≡◌, ℕ, true, false, cond, ◌⊎◌, List, map, ℤ, pos, ◌+ℤ◌, ◌-ℤ◌, ◌≤ℤ◌, ◌<ℤ◌, sym, refl, ap, ◌∙◌, subst, inl, inr, arith}
use lib.Signed.{lt_z}
use Rattle.std.proofs.lemmas.Int.{ints, by_lt_z}
use Rattle.grid.specs.declared.parts.Edge.{Edge}
use Rattle.grid.specs.declared.parts.Edge.TheVariants.{Low, High}
use Rattle.grid.specs.declared.parts.KeyParts.{KeyParts}
use Rattle.std.proofs.lemmas.List.{map-id}
use Rattle.grid.specs.declared.extremes.Extreme.{Extreme}
use Rattle.grid.specs.Extremes.{IsExtreme}
use Rattle.grid.specs.Vectors.{least, greatest, first_place}
use Rattle.grid.specs.Keys.{on_edge, edge_at, edge_of, extreme, measure_of, place_of, key_at, key_of}
use Rattle.grid.specs.Parts.{PartsOf}

-- the edge is low where the least measure and the knob come below what the greatest leaves of the grid
abbrev pub LowSum : ℤ → List ℕ → Type 0
LowSum θ v = (pos (least v) +ℤ θ) <ℤ (pos 65535 -ℤ pos (greatest v))

abbrev pub HighSum : ℤ → List ℕ → Type 0
HighSum θ v = (pos 65535 -ℤ pos (greatest v)) ≤ℤ (pos (least v) +ℤ θ)

pub low_edge : (θ : ℤ) (v : List ℕ) → LowSum θ v → edge_of θ v ≡ Low
unfolding edge_of
low_edge θ v h = let t : lt_z (pos (least v) +ℤ θ) (pos 65535 -ℤ pos (greatest v)) ≡ true = grind (arith, ints) in ap (λ b. cond b Low High) t

pub high_edge : (θ : ℤ) (v : List ℕ) → HighSum θ v → edge_of θ v ≡ High
unfolding edge_of
high_edge θ v h = let t : lt_z (pos (least v) +ℤ θ) (pos 65535 -ℤ pos (greatest v)) ≡ false = grind (arith, ints) in ap (λ b. cond b Low High) t

-- each vector is on one edge
pub edge_cases : (θ : ℤ) (v : List ℕ) → ((edge_of θ v ≡ Low) × LowSum θ v) ⊎ ((edge_of θ v ≡ High) × HighSum θ v)
edge_cases θ v = by_lt_z (pos (least v) +ℤ θ) (pos 65535 -ℤ pos (greatest v)) (λ h. inl (low_edge θ v h, h)) (λ h. inr (high_edge θ v h, h))

pub key_low : (θ : ℤ) (v : List ℕ) → edge_of θ v ≡ Low → key_of θ v ≡ key_at (first_place (least v) v) (least v)
unfolding key_of
key_low θ v h = ap (λ e. key_at (first_place (extreme e v) v) (extreme e v)) h

pub key_high : (θ : ℤ) (v : List ℕ) → edge_of θ v ≡ High → key_of θ v ≡ key_at (first_place (greatest v) v) (greatest v)
unfolding key_of
key_high θ v h = ap (λ e. key_at (first_place (extreme e v) v) (extreme e v)) h

key_parts : (θ : ℤ) (v : List ℕ) → key_of θ v ≡ key_at (place_of θ v) (measure_of θ v)
unfolding key_of
key_parts θ v = refl

-- the edge that is found from extremes that are found
edge_found : (θ : ℤ) (v : List ℕ) (a b : ℕ) (e : Edge) → a ≡ least v → b ≡ greatest v → e ≡ edge_at θ a b → edge_of θ v ≡ e
unfolding edge_of
edge_found θ v a b e p q h = (λ i. edge_at θ (sym p i) (sym q i)) ∙ sym h

pub parts_found : (θ : ℤ) (v : List ℕ) (a b x : Extreme) (k : KeyParts) → IsExtreme Low (map (λ n. n) v) a → IsExtreme High (map (λ n. n) v) b
    → k.edge ≡ edge_at θ a.measure b.measure → x ≡ on_edge k.edge a b → k.measure ≡ x.measure → k.place ≡ x.place → PartsOf θ v k
parts_found θ v a b x k least_is greatest_is edge_is x_is m p =
    let low : IsExtreme Low v a = subst (λ w. IsExtreme Low w a) (map-id v) least_is in
    let high : IsExtreme High v b = subst (λ w. IsExtreme High w b) (map-id v) greatest_is in
    let h = edge_found θ v a.measure b.measure k.edge low.0 high.0 edge_is in
    let found : IsExtreme k.edge v x = subst (IsExtreme k.edge v) (sym x_is) (picked k.edge low high) in
    let f : IsExtreme (edge_of θ v) v x = subst (λ e. IsExtreme e v x) (sym h) found in
    let em : k.measure ≡ measure_of θ v = m ∙ f.0 in
    let ep : k.place ≡ place_of θ v = p ∙ f.1 in
    record { edge = sym h; measure = em; place = ep; key = (λ i. key_at (ep i) (em i)) ∙ sym (key_parts θ v) }
  where
    picked : (e : Edge) → IsExtreme Low v a → IsExtreme High v b → IsExtreme e v (on_edge e a b)
    picked Low l g = l
    picked High l g = g
