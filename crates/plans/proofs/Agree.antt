-- Two lists of ranges that keep the rule and have the same keys are equal.
use Rattle.std.proofs.Common.{◌≡◌, ℕ, suc, ◌+◌, ◌/◌, ◌<◌, ◌≤◌, List, [], ◌∷◌, sym, refl, ap, ◌∙◌, inl, inr, ⊎_elim, arith}
use Rattle.std.specs.Prelude.{All}
use Rattle.plans.specs.Ranges.{KeyRange, Apart, OnePlace, Rising}
use Rattle.plans.specs.Planning.{Covers, PlansAgree}
use Rattle.plans.proofs.Listed.{In, Rises, in_planned, planned_in}

rises_of : (rs : List KeyRange) → All OnePlace rs → Rising rs → Rises rs
rises_of [] e c = tt
rises_of (r ∷ []) e c = e 0 r (omega arith)
rises_of (r ∷ (s ∷ rs)) e c = (
  e 0 r (omega arith),
  c 0 (omega arith),
  rises_of (s ∷ rs) (λ i d l. e (suc i) d (omega arith))
      (λ i l. let q : suc i + 1 ≡ suc (i + 1) = omega arith in rw q at (c (suc i) (omega arith))),
)

own : (r : KeyRange) (rs : List KeyRange) → Rises (r ∷ rs) → OnePlace r
own r [] h = h
own r (s ∷ rs) h = h.0

rest : (r : KeyRange) (rs : List KeyRange) → Rises (r ∷ rs) → Rises rs
rest r [] h = tt
rest r (s ∷ rs) h = h.2

apart_up : (x y k : ℕ) → Apart x y → y ≤ k → Apart x k
apart_up x y k c h = (omega (arith, c.0), λ e. let same : x / 65536 ≡ y / 65536 = omega (arith, c.0) in omega (arith, c.1 same))

-- every later key lies apart from the first range
later : (r : KeyRange) (rs : List KeyRange) → Rises (r ∷ rs) → (k : ℕ) → In rs k → Apart r.high k
later r [] h k i = absurd i
later r (s ∷ rs) h k (inl p) = apart_up r.high s.low k h.1 p.0
later r (s ∷ rs) h k (inr p) =
    let t = later s rs h.2 k p in
    apart_up r.high s.low k h.1 (omega (arith, t.0, (own s rs h.2).0))

from_low : (r : KeyRange) (rs : List KeyRange) → Rises (r ∷ rs) → (k : ℕ) → In (r ∷ rs) k → r.low ≤ k
from_low r rs h k (inl p) = p.0
from_low r rs h k (inr p) = omega (arith, (later r rs h k p).0, (own r rs h).0)

abbrev Same : List KeyRange → List KeyRange → Type 0
Same rs ss = (k : ℕ) → In rs k → In ss k

-- a first range does not end below that of a list with no other keys
no_shorter : (r s : KeyRange) (rs ss : List KeyRange) → Rises (r ∷ rs) → Rises (s ∷ ss) → r.low ≡ s.low → Same (s ∷ ss) (r ∷ rs) → r.high < s.high → ⊥
no_shorter r s rs ss h g e same l =
    let o = own s ss g in
    let p = own r rs h in
    ⊎_elim
    (λ i. omega (arith, i.1))
    (λ i. let c = later r rs h (r.high + 1) i in
    let q : r.high / 65536 ≡ (r.high + 1) / 65536 = omega (arith, o.1, p.0) in
    omega (arith, c.1 q))
    (same (r.high + 1) (inl (omega (arith, p.0), omega arith)))

range_ext : (r s : KeyRange) → r.low ≡ s.low → r.high ≡ s.high → r ≡ s
range_ext r s low high = λ i. record { low = low i; high = high i }

inner : (r s : KeyRange) (rs ss : List KeyRange) → Rises (r ∷ rs) → r.high ≡ s.high → Same (r ∷ rs) (s ∷ ss) → Same rs ss
inner r s rs ss h e same k i = ⊎_elim (λ p. absurd (omega (arith, p.1, (later r rs h k i).0))) (λ p. p) (same k (inr i))

same_ranges : (rs ss : List KeyRange) → Rises rs → Rises ss → Same rs ss → Same ss rs → rs ≡ ss
same_ranges [] [] h g a b = refl
same_ranges [] (s ∷ ss) h g a b = absurd (b s.low (inl (omega arith, (own s ss g).0)))
same_ranges (r ∷ rs) [] h g a b = absurd (a r.low (inl (omega arith, (own r rs h).0)))
same_ranges (r ∷ rs) (s ∷ ss) h g a b =
    let x : s.low ≤ r.low = from_low s ss g r.low (a r.low (inl (omega arith, (own r rs h).0))) in
    let y : r.low ≤ s.low = from_low r rs h s.low (b s.low (inl (omega arith, (own s ss g).0))) in
    let e : r.low ≡ s.low = omega arith in
    let m : r.high < s.high → ⊥ = no_shorter r s rs ss h g e b in
    let n : s.high < r.high → ⊥ = no_shorter s r ss rs g h (sym e) a in
    let f : r.high ≡ s.high = grind arith in
    ap (λ t. t ∷ rs) (range_ext r s e f) ∙ ap (λ t. s ∷ t) (same_ranges rs ss (rest r rs h) (rest s ss g) (inner r s rs ss h f a) (inner s r ss rs g (sym f) b))

pub agree : PlansAgree
agree θ w rs ss a b =
    let same : (xs ys : List KeyRange) → Covers θ w xs → Covers θ w ys → Same xs ys = λ xs ys p q k i. planned_in ys k ((q k).1 ((p k).0 (in_planned xs k i))) in
    same_ranges rs ss (rises_of rs a.rule.places a.rule.rising) (rises_of ss b.rule.places b.rule.rising) (same rs ss a.covers b.covers) (same ss rs b.covers a.covers)
