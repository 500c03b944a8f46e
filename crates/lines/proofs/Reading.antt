-- The calls that an input's chunks are handed to.
use Rattle.std.proofs.Common.{◌≡◌, ℕ, ◌<◌, ◌≤◌, true, false, List, [], ◌∷◌, ◌++◌, length, take, None, Some, Option, is_some, Ok, ControlFlow, Continue, Break, sym, refl, ap, ◌∙◌, append_assoc, append-nil, rules, arith, length-take, length-append, ◌+◌}
use Rattle.std.specs.ControlFlow.{break_value}
use Rattle.std.specs.List.{concat}
use Rattle.std.specs.Fn.{CalledAt}
use Rattle.std.specs.Io.KnownBytes.{Consumes}
use Rattle.std.proofs.lemmas.Fn.{FoldsTo-push}
use Rattle.std.proofs.lemmas.List.Elements.{All-push}
use Rattle.std.proofs.lemmas.List.Folds.{concat-append}
use Rattle.lines.specs.Chunks.{Taking, IsChunk, GoesOn}

Consumes-append : (a b c : Option (List ℕ)) (xs ys : List ℕ) → Consumes a b xs → Consumes b c ys → Consumes a c (xs ++ ys)
Consumes-append None b c xs ys p q = tt
Consumes-append (Some us) None c xs ys p q = absurd p
Consumes-append (Some us) (Some vs) None xs ys p q = q
Consumes-append (Some us) (Some vs) (Some ws) xs ys p q = p ∙ ap (λ v. xs ++ v) q ∙ sym (append_assoc xs ys ws)

concat_push : (xss : List (List ℕ)) (xs : List ℕ) → concat (xss ++ xs ∷ []) ≡ concat xss ++ xs
concat_push xss xs = concat-append xss (xs ∷ []) ∙ ap (λ v. concat xss ++ v) (append-nil xs)

-- one more call that goes on
pub GoesOn-push : {F E : Type 0} (g : Taking F E) (count : ℕ) (first p q : F) (before left after : Option (List ℕ)) (chunk : List ℕ)
    → GoesOn g count first p before left → IsChunk chunk → CalledAt g p chunk (Ok (Continue tt)) q → Consumes left after chunk → GoesOn g (count + 1) first q before after
GoesOn-push g count first p q before left after chunk went size called more = record {
  chunks = went.chunks ++ chunk ∷ [];
  counted = length-append went.chunks (chunk ∷ []) ∙ ap (λ n. n + 1) went.counted;
  calls = FoldsTo-push _ first went.chunks p chunk q went.calls called;
  sizes = All-push IsChunk went.chunks chunk went.sizes size;
  whole = rw (concat_push went.chunks chunk) (Consumes-append before left after (concat went.chunks) chunk went.whole more);
}

pub IsChunk-take : (count : ℕ) (buffer : List ℕ) → 0 < count → count ≤ length buffer → length buffer ≡ 4096 → IsChunk (take count buffer)
IsChunk-take count buffer some fits long = (omega (arith, length-take count buffer), omega (arith, length-take count buffer))

pub is_break-Break : (flow : ControlFlow (Unit {0}) (Unit {0})) → is_some (break_value flow) ≡ true → flow ≡ Break tt
is_break-Break (Continue v) e = absurd (search rules)
is_break-Break (Break v) e = refl

pub is_break-Continue : (flow : ControlFlow (Unit {0}) (Unit {0})) → is_some (break_value flow) ≡ false → flow ≡ Continue tt
is_break-Continue (Continue v) e = refl
is_break-Continue (Break v) e = absurd (search rules)
