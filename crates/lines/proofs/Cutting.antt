-- A text that is cut as its bytes come in.
use Rattle.std.proofs.Common.{◌≡◌, ℕ, ◌<◌, List, [], ◌∷◌, ◌++◌, length, take, sym, ap, ◌∙◌, ⊎_elim, arith, length-take}
use Rattle.std.proofs.lemmas.List.{take_all, take-append-le, length_push}
use Rattle.std.proofs.lemmas.Bool.{cases_lt}

pub take_push : (n : ℕ) (xs : List ℕ) (b : ℕ) → length xs < n → take n (xs ++ b ∷ []) ≡ xs ++ b ∷ []
take_push n xs b room = take_all n (xs ++ b ∷ []) (omega (arith, length_push xs b))

pub take-append_full : (n : ℕ) (xs ys : List ℕ) → length xs ≡ n → take n (xs ++ ys) ≡ xs
take-append_full n xs ys full = take-append-le n xs ys (omega arith) ∙ take_all n xs (omega arith)

-- cutting before and after a byte is cutting after it
pub take-take_push : (n : ℕ) (xs : List ℕ) (b : ℕ) → take n (take n xs ++ b ∷ []) ≡ take n (xs ++ b ∷ [])
take-take_push n xs b =
    ⊎_elim (λ short. ap (λ v. take n (v ++ b ∷ [])) (take_all n xs (omega arith)))
    (λ long. take-append_full n (take n xs) (b ∷ []) (omega (arith, length-take n xs)) ∙ sym (take-append-le n xs (b ∷ []) long))
    (cases_lt (length xs) n)
