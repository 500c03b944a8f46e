-- How a field spells a number, and what the reading of one answers.
use Rattle.std.specs.Prelude.{◌≡◌, ℕ, zero, suc, ◌+◌, ◌<◌, ◌≤◌, if◌then◌else◌, List, [], ◌∷◌, map, length, ℤ, pos, negsuc, ◌≤ℤ◌, Some, None, Option, Ok, Err, Result, All, ◌==◌, ◌≢◌, slice_index}
use Rattle.std.specs.Borrow.{Bor}
use Rattle.std.specs.Char.{IsAsciiDigit}
use Rattle.std.specs.Int.Digits.{digits_of}
use Rattle.text.specs.declared.numbers.NumberFault.{NumberFault}
use Rattle.text.specs.declared.numbers.NumberFault.TheVariants.{Digits, Size}

-- the bytes of n in decimal, with no sign and no leading zero
unfoldable pub spelled : ℕ → List ℕ
spelled n = if n == 0 then 48 ∷ [] else map (λ d. 48 + d) (digits_of 10 n)

-- the same with a minus before a negative number
abbrev pub signed : ℤ → List ℕ
signed (pos n) = spelled n
signed (negsuc n) = 45 ∷ spelled (suc n)

-- what the reading of a number from 0 to m answers
abbrev pub ReadNumber : ℕ → List ℕ → Result ℕ NumberFault → Type 0
ReadNumber m f (Ok n) = (f ≡ spelled n) × (n ≤ m)
ReadNumber m f (Err Digits) = (n : ℕ) → f ≢ spelled n
ReadNumber m f (Err Size) = (n : ℕ) × (f ≡ spelled n) × (m < n)

-- what the reading of a number from l to h answers
abbrev pub ReadSigned : ℤ → ℤ → List ℕ → Result ℤ NumberFault → Type 0
ReadSigned l h f (Ok z) = (f ≡ signed z) × (l ≤ℤ z) × (z ≤ℤ h)
ReadSigned l h f (Err Digits) = (z : ℤ) → f ≢ signed z
ReadSigned l h f (Err Size) = (z : ℤ) × (f ≡ signed z) × ¬ ((l ≤ℤ z) × (z ≤ℤ h))

-- some digits, and no 0 in front of others: the fields that spell a number
pub record Plain (f : List ℕ) : Type 0 where
  pub some : 0 < length f
  pub digits : All IsAsciiDigit f
  pub front : 1 < length f → slice_index f 0 ≢ 48

-- what a minus makes of the number after it
abbrev pub minus : ℕ → Result ℤ NumberFault
minus zero = Err Digits
minus (suc n) = Ok (negsuc n)

-- the field is a minus and what follows it; or it begins with none
abbrev pub AfterMinus : List ℕ → Option (Bor (List ℕ)) → Type 0
AfterMinus f None = (rest : List ℕ) → f ≢ 45 ∷ rest
AfterMinus f (Some rest) = f ≡ 45 ∷ rest.now
