-- A minus in front of a number.
use Rattle.std.proofs.Common.{◌≡◌, ℕ, zero, suc, ◌<◌, List, ◌∷◌, get_or, drop, ℤ, pos, negsuc, Ok, Err, sym, ap, ◌∙◌, ◌≢◌, arith}
use Rattle.std.proofs.lemmas.Int.{ints}
use Rattle.text.specs.declared.numbers.NumberFault.{NumberFault}
use Rattle.text.specs.declared.numbers.NumberFault.TheVariants.{Digits, Size}
use Rattle.text.specs.Spelling.{spelled, signed, ReadNumber, ReadSigned, minus}
use Rattle.text.proofs.Digits.{read, spelled_plain, read_spelled}

-- no number without a sign begins with a minus
no_minus : (n : ℕ) (rest : List ℕ) → 45 ∷ rest ≡ spelled n → ⊥
no_minus n rest e = let p = spelled_plain n in omega (arith, p.digits 0 0 p.some, ap (λ l. get_or l 0 0) e)

-- what a minus and the number after it are read as
pub read_minus : (rest : List ℕ) (n : ℕ) → ReadNumber 65536 rest (Ok n) → ReadSigned (negsuc 65535) (pos 65535) (45 ∷ rest) (minus n)
read_minus rest zero h = no
  where
    no : (z : ℤ) → 45 ∷ rest ≡ signed z → ⊥
    no (pos n) e = no_minus n rest e
    no (negsuc n) e =
        let s : spelled 0 ≡ spelled (suc n) = sym h.0 ∙ ap (drop 1) e in
        omega (arith, read_spelled 0, read_spelled (suc n), ap (read 0) s)
read_minus rest (suc n) h = (ap (λ l. 45 ∷ l) h.0, omega (arith, ints, h.1), omega (arith, ints))

pub read_minus_fault : (rest : List ℕ) (kind : NumberFault) → ReadNumber 65536 rest (Err kind) → ReadSigned (negsuc 65535) (pos 65535) (45 ∷ rest) (Err kind)
read_minus_fault rest Digits h = no
  where
    no : (z : ℤ) → 45 ∷ rest ≡ signed z → ⊥
    no (pos n) e = no_minus n rest e
    no (negsuc n) e = h (suc n) (ap (drop 1) e)
read_minus_fault rest Size h = large h.0 h.1 h.2
  where
    large : (n : ℕ) → rest ≡ spelled n → 65536 < n → ReadSigned (negsuc 65535) (pos 65535) (45 ∷ rest) (Err Size)
    large zero e l = absurd (omega arith)
    large (suc n) e l = (negsuc n, ap (λ x. 45 ∷ x) e, λ b. omega (arith, ints, b.0))

-- what a field without a minus is read as, where it is no number within the limits
pub read_plain_fault : (f : List ℕ) (kind : NumberFault) → ReadNumber 65535 f (Err kind) → ((rest : List ℕ) → f ≢ 45 ∷ rest) → ReadSigned (negsuc 65535) (pos 65535) f (Err kind)
read_plain_fault f Digits h none = no
  where
    no : (z : ℤ) → f ≡ signed z → ⊥
    no (pos n) e = h n e
    no (negsuc n) e = none (spelled (suc n)) e
read_plain_fault f Size h none = (pos h.0, h.1, λ b. omega (arith, ints, b.1, h.2))
