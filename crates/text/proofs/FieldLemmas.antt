-- The fields of a line, one at a time, and the numbers that are read of them.
use Rattle.std.proofs.Common.{◌≡◌, ℕ, ◌+◌, ◌<◌, ◌≤◌, Bool, true, false, cond, eqb, List, [], ◌∷◌, ◌++◌, map, length, get_or, take, drop, set, Some, None, Option, sym, refl, ap, ◌∙◌, subst, arith, Bor, ne_eqb}
use Rattle.std.proofs.lemmas.List.{take_more, take_more_set, take_all, map_push, drop-drop, drop-set-lt}
use Rattle.text.specs.Spelling.{spelled}
use borrow.Author.Tests.{eqb-false}
use Rattle.std.specs.List.{All, count_by, enumerate_from, onto_first}
use Rattle.std.proofs.lemmas.List.FromFn.{get_or-enumerate_from, length-enumerate_from}
use Rattle.std.proofs.lemmas.List.Elements.{All-weaker, All-nil, All-cons, All-head, All-tail, All-push, All-same}
use Rattle.std.proofs.lemmas.List.Splits.{slice_split_none, slice_split_at, length-slice_split, join_with_byte-slice_split}
use Rattle.text.specs.Reading.{Spells}
use Rattle.text.specs.Fields.{fields, left, FirstField, Tabless, FieldsOf}

tests_false : (f : List ℕ) → Tabless f → All (λ b. eqb b 9 ≡ false) f
tests_false f h = All-weaker (λ b. b ≡ 9 → ⊥) (λ b. eqb b 9 ≡ false) (λ b n. ne_eqb b 9 n) f h

pub fields_first : (line f : List ℕ) (more : Option (Bor (List ℕ))) → FirstField line f more → fields line ≡ f ∷ left more
fields_first line f None h = ap fields h.0 ∙ slice_split_none (λ b. eqb b 9) f (tests_false f h.1)
fields_first line f (Some rest) h = ap fields h.0 ∙ slice_split_at (λ b. eqb b 9) f 9 rest.now (tests_false f h.1) refl

-- a line has one field more than tabs
pub length_fields : (line : List ℕ) → length (fields line) ≡ count_by (λ b. eqb b 9) line + 1
length_fields line = length-slice_split (λ b. eqb b 9) line

-- no field holds a tab
apart_onto : (b : ℕ) (fs : List (List ℕ)) → (b ≡ 9 → ⊥) → All Tabless fs → All Tabless (onto_first b fs)
apart_onto b [] n h = All-cons Tabless (b ∷ []) [] (All-cons (λ b. b ≡ 9 → ⊥) b [] n (All-nil (λ b. b ≡ 9 → ⊥))) (All-nil Tabless)
apart_onto b (f ∷ fs) n h = All-cons Tabless (b ∷ f) fs (All-cons (λ b. b ≡ 9 → ⊥) b f n (All-head Tabless f fs h)) (All-tail Tabless f fs h)

apart_more : (b : ℕ) (fs : List (List ℕ)) (t : Bool) → eqb b 9 ≡ t → All Tabless fs → All Tabless (cond t ([] ∷ fs) (onto_first b fs))
apart_more b fs true e h = All-cons Tabless [] fs (All-nil (λ b. b ≡ 9 → ⊥)) h
apart_more b fs false e h = apart_onto b fs (eqb-false b 9 e) h

apart : (line : List ℕ) → All Tabless (fields line)
apart [] = All-cons Tabless [] [] (All-nil (λ b. b ≡ 9 → ⊥)) (All-nil Tabless)
apart (b ∷ bs) = apart_more b (fields bs) (eqb b 9) refl (apart bs)

pub fields_join : (line : List ℕ) → FieldsOf line (fields line)
fields_join line = record { some = omega (arith, length_fields line); whole = join_with_byte-slice_split 9 line; apart = apart line }

-- the first i fields are read into the places o, which were o₀
pub record Reading (fs : List (List ℕ)) (o₀ o : List ℕ) (i : ℕ) : Type 0 where
  pub kept : drop i o ≡ drop i o₀
  pub before : Spells (take i fs) (take i o)

drop_both : (i : ℕ) (xs ys : List ℕ) → drop i xs ≡ drop i ys → drop (i + 1) xs ≡ drop (i + 1) ys
drop_both i xs ys e = sym (drop-drop 1 i xs) ∙ ap (drop 1) e ∙ drop-drop 1 i ys

pub reading_more : (fs : List (List ℕ)) (o₀ o : List ℕ) (k : ℕ) → Reading fs o₀ o k → (i j n : ℕ) → i ≡ k → j ≡ k + 1 → length fs ≡ length o → k < length o → (f : List ℕ) → get_or fs k f ≡ f → f ≡ spelled n → n ≤ 65535
    → Reading fs o₀ (set o i n) j
reading_more fs o₀ o k w i j n same next long room f at is few = subst (λ m. Reading fs o₀ (set o m n) j) (sym same) (subst (Reading fs o₀ (set o k n)) (sym next) (record {
  kept = drop-set-lt (k + 1) o k n (omega arith) ∙ drop_both k o o₀ w.kept;
  before = record {
    same = take_more fs k f (omega arith) ∙ (λ t. w.before.same t ++ (at ∙ is) t ∷ []) ∙ sym (ap (map spelled) (take_more_set o k n room) ∙ map_push spelled (take k o) n);
    small = All-same (λ m. m ≤ 65535) (take (k + 1) (set o k n)) (take k o ++ n ∷ []) (take_more_set o k n room) (All-push (λ m. m ≤ 65535) (take k o) n w.before.small few);
  };
}))

pub reading_done : (fs : List (List ℕ)) (o₀ o : List ℕ) (i : ℕ) → length fs ≡ length o → length o ≤ i → Reading fs o₀ o i → Spells fs o
reading_done fs o₀ o i long end w = record {
  same = sym (take_all i fs (omega arith)) ∙ w.before.same ∙ ap (map spelled) (take_all i o end);
  small = All-same (λ m. m ≤ 65535) o (take i o) (sym (take_all i o end)) w.before.small;
}

-- item k of the fields with their indices
pub enumerated : (fs : List (List ℕ)) (k i : ℕ) (f : List ℕ) → k < length (enumerate_from 0 fs) → (i, f) ≡ get_or (enumerate_from 0 fs) k (i, f) → (k < length fs) × (i ≡ k) × (get_or fs k f ≡ f)
enumerated fs k i f l e =
    let h : k < length fs = omega (arith, length-enumerate_from 0 fs) in
    let p : (i, f) ≡ (0 + k, get_or fs k f) = e ∙ get_or-enumerate_from 0 fs k (i, f) h in
    (h, omega (arith, ap (λ q. q.0) p), sym (ap (λ q. q.1) p))
