-- Digits with no leading zero are what `spelled` gives of their value.
use Rattle.std.proofs.Common.{◌≡◌, ℕ, zero, suc, ◌+◌, ◌-◌, ◌*◌, ◌/◌, ◌%◌, ◌<◌, ◌≤◌, cond, List, [], ◌∷◌, ◌++◌, map, length, get_or, take, drop, sym, refl, ap, ◌∙◌, subst, append_assoc, append-nil, arith, ne_eqb, ◌≢◌}
use lib.ListN.{length-map}
use Rattle.std.proofs.lemmas.Int.Digits.{digits_of_step, all_below_base_digits_of, first_digits_of, number_digits_of, length-digits_of_step}
use Rattle.std.proofs.lemmas.List.{map_push, get_or-map, take_more, take-append-drop, take_all}
use Rattle.std.proofs.lemmas.List.Elements.{All-from_recursion, All-weaker, All-map, All-nil, All-cons, All-head, All-tail}
use Rattle.std.specs.Char.{IsAsciiDigit}
use Rattle.std.specs.Int.Digits.{digits_of, number_from_digits_after}
use Rattle.std.specs.List.{All}
use Rattle.text.specs.Spelling.{spelled, Plain}

-- the number that the bytes write, after those of n
abbrev pub read : ℕ → List ℕ → ℕ
read n [] = n
read n (c ∷ cs) = read (n * 10 + (c - 48)) cs

-- the digits of n as bytes; none where n is 0
abbrev in_digits : ℕ → List ℕ
in_digits n = map (λ d. 48 + d) (digits_of 10 n)

in_digits_step : (n : ℕ) → 0 < n → in_digits n ≡ in_digits (n / 10) ++ ((48 + n % 10) ∷ [])
in_digits_step n h = ap (map (λ d. 48 + d)) (digits_of_step 10 n (omega arith) h) ∙ map_push (λ d. 48 + d) (digits_of 10 (n / 10)) (n % 10)

-- digits read after a number go behind its own
digits_after : (n : ℕ) (ds : List ℕ) → 0 < n → All IsAsciiDigit ds → in_digits (read n ds) ≡ in_digits n ++ ds
digits_after n [] some digits = sym (append-nil (in_digits n))
digits_after n (c ∷ cs) some digits =
    let m : ℕ = n * 10 + (c - 48) in
    let digit : (48 ≤ c) × (c ≤ 57) = All-head IsAsciiDigit c cs digits in
    let front : m / 10 ≡ n = omega arith in
    let end : 48 + m % 10 ≡ c = omega arith in
    digits_after m cs (omega arith) (All-tail IsAsciiDigit c cs digits)
    ∙ ap (λ x. x ++ cs) (in_digits_step m (omega arith) ∙ (λ i. in_digits (front i) ++ (end i ∷ [])))
    ∙ append_assoc (in_digits n) (c ∷ []) cs

read_ge : (n : ℕ) (ds : List ℕ) → n ≤ read n ds
read_ge n [] = omega arith
read_ge n (c ∷ cs) = omega (arith, read_ge (n * 10 + (c - 48)) cs)

spelled_some : (n : ℕ) → 0 < n → spelled n ≡ in_digits n
unfolding spelled
spelled_some n h = ap (λ t. cond t (48 ∷ []) (in_digits n)) (ne_eqb n 0 (λ e. omega arith))

-- digits after one that is no 0 are the spelling of their value
spelled_read : (c n : ℕ) (cs : List ℕ) → n < 10 → c ≡ 48 + n → 0 < n → All IsAsciiDigit cs → spelled (read n cs) ≡ c ∷ cs
spelled_read c n cs few is some digits =
    let none : n / 10 ≡ 0 = omega arith in
    let one : 48 + n % 10 ≡ c = omega arith in
    spelled_some (read n cs) (omega (arith, read_ge n cs))
    ∙ digits_after n cs some digits
    ∙ ap (λ x. x ++ cs) (in_digits_step n some ∙ (λ i. in_digits (none i) ++ (one i ∷ [])))

spelled_digits : (c n : ℕ) (cs : List ℕ) → n < 10 → c ≡ 48 + n → (0 < length cs → c ≢ 48) → All IsAsciiDigit cs → c ∷ cs ≡ spelled (read n cs)
unfolding spelled
spelled_digits c zero [] few is front digits = ap (λ b. b ∷ []) is
spelled_digits c zero (e ∷ cs) few is front digits = absurd (front (omega arith) is)
spelled_digits c (suc n) cs few is front digits = sym (spelled_read c (suc n) cs few is (omega arith) digits)

-- plain digits are the spelling of the number that they write
pub plain_spelled : (f : List ℕ) → Plain f → f ≡ spelled (read 0 f)
plain_spelled [] p = absurd (omega (arith, p.some))
plain_spelled (c ∷ cs) p =
    let digit : (48 ≤ c) × (c ≤ 57) = All-head IsAsciiDigit c cs p.digits in
    spelled_digits c (0 * 10 + (c - 48)) cs (omega arith) (omega arith) (λ some e. p.front (omega arith) e) (All-tail IsAsciiDigit c cs p.digits)

-- and a spelling is plain digits that write the number
read_map : (m : ℕ) (ds : List ℕ) → read m (map (λ d. 48 + d) ds) ≡ number_from_digits_after 10 m ds
read_map m [] = refl
read_map m (d ∷ ds) = let e : 48 + d - 48 ≡ d = omega arith in ap (λ x. read (m * 10 + x) (map (λ d. 48 + d) ds)) e ∙ read_map (m * 10 + d) ds

pub read_spelled : (n : ℕ) → read 0 (spelled n) ≡ n
unfolding spelled
read_spelled zero = refl
read_spelled (suc m) = ap (read 0) (spelled_some (suc m) (omega arith)) ∙ read_map 0 (digits_of 10 (suc m)) ∙ number_digits_of 10 (suc m) (omega arith)

pub spelled_plain : (n : ℕ) → Plain (spelled n)
unfolding spelled
spelled_plain zero = record { some = omega arith; digits = All-cons IsAsciiDigit 48 [] (omega arith, omega arith) (All-nil IsAsciiDigit); front = λ l e. omega arith }
spelled_plain (suc m) =
    let n : ℕ = suc m in
    let ds : List ℕ = digits_of 10 n in
    let some : 0 < length ds = omega (arith, length-digits_of_step 10 n (omega arith) (omega arith)) in
    let below : All (λ d. d < 10) ds = All-from_recursion (λ d. d < 10) ds (all_below_base_digits_of 10 n (omega arith)) in
    let p : Plain (in_digits n) = record {
      some = omega (arith, length-map ds (λ d. 48 + d));
      digits = All-map IsAsciiDigit (λ d. 48 + d) ds (All-weaker (λ d. d < 10) (λ d. IsAsciiDigit (48 + d)) (λ d h. (omega arith, omega arith)) ds below);
      front = λ l e. omega (arith, get_or-map (λ d. 48 + d) ds 0 0 0 some, first_digits_of 10 n (omega arith) (omega arith));
    } in
    subst Plain (sym (spelled_some n (omega arith))) p

-- reading byte by byte
read_append : (n : ℕ) (xs ys : List ℕ) → read n (xs ++ ys) ≡ read (read n xs) ys
read_append n [] ys = refl
read_append n (x ∷ xs) ys = read_append (n * 10 + (x - 48)) xs ys

pub read_more : (f : List ℕ) (i : ℕ) → i < length f → read 0 (take (i + 1) f) ≡ read 0 (take i f) * 10 + (get_or f i 0 - 48)
read_more f i l = ap (read 0) (take_more f i 0 l) ∙ read_append 0 (take i f) (get_or f i 0 ∷ [])

pub read_upto : (f : List ℕ) (i : ℕ) → read 0 (take i f) ≤ read 0 f
read_upto f i = omega (arith, ap (read 0) (take-append-drop i f), read_append 0 (take i f) (drop i f), read_ge (read 0 (take i f)) (drop i f))

pub read_all : (f : List ℕ) (i : ℕ) → length f ≤ i → read 0 (take i f) ≡ read 0 f
read_all f i l = ap (read 0) (take_all i f l)
