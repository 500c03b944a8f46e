-- The proof of `lines_join`: the lines of an input put together again, byte by byte.
use Rattle.std.proofs.Common.{◌≡◌, ℕ, inl, inr, ◌≢◌, List, [], ◌∷◌, ◌++◌, fold, refl, append_assoc, append-nil, arith}
use Rattle.std.proofs.lemmas.Bool.Decides.{eqb_tells}
use Rattle.std.proofs.lemmas.List.Elements.{All-nil, All-push}
use Rattle.lines.specs.Lines.{Split, fed, blank, glued, Feedless, LinesOf}
use Rattle.lines.proofs.feeding.lines_join.Goals as goal

glued_push : (ls : List (List ℕ)) (l : List ℕ) → glued (ls ++ l ∷ []) ≡ glued ls ++ (l ++ 10 ∷ [])
glued_push [] l = refl
glued_push (k ∷ ls) l = grind (arith, append_assoc, glued_push ls l)

-- one byte more
LinesOf-push : (bytes : List ℕ) (p : Split) (b : ℕ) → LinesOf bytes p → LinesOf (bytes ++ b ∷ []) (fed p b)
LinesOf-push bytes p b w = elim (eqb_tells b 10) [
  | inl (e, is) ↦ rw e (record {
    whole = grind (arith, append_assoc, append-nil, glued_push p.lines p.rest, w.whole, is);
    apart = All-push Feedless p.lines p.rest w.apart w.last;
    last = All-nil (λ x. x ≢ 10);
  })
  | inr (e, other) ↦ rw e (record {
    whole = grind (arith, append_assoc, w.whole);
    apart = w.apart;
    last = All-push (λ x. x ≢ 10) p.rest b w.last other;
  })
]

-- further bytes
LinesOf-append : (bs bytes : List ℕ) (p : Split) → LinesOf bytes p → LinesOf (bytes ++ bs) (fold fed p bs)
LinesOf-append [] bytes p w = rw append-nil w
LinesOf-append (b ∷ bs) bytes p w = rw (← append_assoc bytes (b ∷ []) bs) (LinesOf-append bs (bytes ++ b ∷ []) (fed p b) (LinesOf-push bytes p b w))

pub returns : goal.returns
returns c = λ bytes. LinesOf-append bytes [] blank (record { whole = refl; apart = All-nil Feedless; last = All-nil (λ x. x ≢ 10) })
