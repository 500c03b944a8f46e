-- The key of a vector is the one number that the rule gives, and it tells its place and its measure.
use Rattle.std.proofs.Common.{◌≡◌, ℕ, ◌/◌, ◌%◌, ◌<◌, ◌≤◌, List, length, get_or, ℤ, sym, ap, ◌∙◌, subst, inl, inr, ⊎_elim, arith}
use Rattle.std.proofs.lemmas.Int.{ints}
use Rattle.grid.specs.declared.parts.Edge.TheVariants.{Low, High}
use Rattle.grid.specs.Vectors.{least, greatest, first_place}
use Rattle.grid.specs.Keys.{key_at, key_of}
use Rattle.grid.specs.KeyRule.{FirstPlace, Extremes, EdgeKey, HasKey, KeysFollowTheRule, KeyTells, KeysTell}
use Rattle.grid.proofs.ExtremeLemmas.{least_le, le_least, least_has, greatest_ge, greatest_le, greatest_has, extreme_first, place_is}
use Rattle.grid.proofs.Edges.{edge_cases, low_edge, high_edge, key_low, key_high}

has_key : (θ : ℤ) (v : List ℕ) → 0 < length v → HasKey θ v (key_of θ v)
has_key θ v h = (
  least v,
  first_place (least v) v,
  greatest v,
  first_place (greatest v) v,
  record { least = least_le v; least_place = extreme_first Low v h; greatest = greatest_ge v; greatest_place = extreme_first High v h },
  ⊎_elim (λ l. inl (l.1, key_low θ v l.0)) (λ r. inr (r.1, key_high θ v r.0)) (edge_cases θ v),
)

only_key : (θ : ℤ) (v : List ℕ) (a p b q k : ℕ) → 0 < length v → Extremes v a p b q → EdgeKey θ a p b q k → k ≡ key_of θ v
only_key θ v a p b q k h x e =
    let ea : a ≡ least v = omega (arith, le_least v a h x.least, subst (λ m. least v ≤ m) x.least_place.there (least_le v p x.least_place.within)) in
    let eb : b ≡ greatest v = omega (arith, greatest_le v b x.greatest, subst (λ m. m ≤ greatest v) x.greatest_place.there (greatest_ge v q x.greatest_place.within)) in
    let ep : p ≡ first_place (least v) v = place_is v a p x.least_place ∙ ap (λ m. first_place m v) ea in
    let eq : q ≡ first_place (greatest v) v = place_is v b q x.greatest_place ∙ ap (λ m. first_place m v) eb in
    ⊎_elim
    (λ l. l.1 ∙ (λ i. key_at (ep i) (ea i)) ∙ sym (key_low θ v (low_edge θ v (omega (arith, ints, l.0)))))
    (λ r. r.1 ∙ (λ i. key_at (eq i) (eb i)) ∙ sym (key_high θ v (high_edge θ v (omega (arith, ints, r.0)))))
    e

pub follow : KeysFollowTheRule
follow θ v h = (has_key θ v h, λ k x. only_key θ v x.0 x.1 x.2 x.3 k h x.4 x.5)

tells_at : (v : List ℕ) (a p k : ℕ) → length v ≤ 16 → a ≤ 65535 → FirstPlace v a p → k ≡ key_at p a → KeyTells v k
tells_at v a p k long small f e =
    let ep : k / 65536 ≡ p = omega arith in
    let em : k % 65536 ≡ a = omega arith in
    let w : p < length v = f.within in
    record {
      fits = omega arith;
      place = omega arith;
      measure = ap (λ j. get_or v j 0) ep ∙ f.there ∙ sym em;
      first = λ i l q. f.first i (omega arith) (q ∙ em);
    }

pub tell : KeysTell
tell θ v some long grid =
    let l = least_has v some in
    let g = greatest_has v some in
    ⊎_elim
    (λ s. tells_at v (least v) (first_place (least v) v) (key_of θ v) long (omega (arith, grid l.0 l.1, l.2)) (extreme_first Low v some) (key_low θ v s.0))
    (λ s. tells_at v (greatest v) (first_place (greatest v) v) (key_of θ v) long (omega (arith, grid g.0 g.1, g.2)) (extreme_first High v some) (key_high θ v s.0))
    (edge_cases θ v)
