-- One more line of a session; and the counts of a session are those of its answers.
use Rattle.std.proofs.Common.{◌≡◌, ℕ, suc, ◌+◌, ◌-◌, ◌^◌, ◌<◌, ◌≤◌, false, cond, ◌&&◌, eqb, List, [], ◌∷◌, ◌++◌, length, take, ℤ, Some, None, Ok, Err, Option, Result, sym, refl, ap, ◌∙◌, subst, append_assoc, append-nil, arith, length-take}
use lib.Seq.{take-append-le}
use Rattle.std.proofs.lemmas.List.{length_push, take_all}
use Rattle.std.proofs.lemmas.List.Sums.{sum_by_push}
use Rattle.fault.specs.declared.LineFault.{LineFault}
use Rattle.grid.specs.declared.parts.Edge.{Edge}
use Rattle.grid.specs.declared.parts.KeyParts.{KeyParts}
use Rattle.grid.specs.Parts.{PartsOf}
use Rattle.sessions.specs.declared.study.Study.{Study}
use Rattle.sessions.specs.declared.session.Answer.{Answer}
use Rattle.sessions.specs.declared.session.Answer.TheVariants.{Opened, Explained}
use Rattle.sessions.specs.Tallies.{same_edge, stands_at, standing, Tallied}
use Rattle.sessions.specs.Sessions.{Answered, Fresh, Gains}
use Rattle.sessions.specs.Histories.{Ran, names, naming, CountsAnswers, Taken, Ended}

-- one more line
pub ran_more : (s : Option Study) (ls : List (List ℕ)) (rs : List (Result Answer LineFault)) (t u : Option Study) (l : List ℕ) (r : Result Answer LineFault)
    → Ran s ls rs t → Answered l t u r → Ran s (ls ++ l ∷ []) (rs ++ r ∷ []) u
ran_more s [] rs t u l r h a =
    (u, r, [], ap (λ q. q ++ r ∷ []) h.0, subst (λ v. Answered l v u r) h.1 a, (refl, refl))
ran_more s (k ∷ ls) rs t u l r h a =
    (h.0, h.1, h.2 ++ r ∷ [], ap (λ q. q ++ r ∷ []) h.3, h.4, ran_more h.0 ls h.2 t u l r h.5 a)

naming_push : (j : ℕ) (e : Edge) (rs : List (Result Answer LineFault)) (r : Result Answer LineFault) → naming j e (rs ++ r ∷ []) ≡ naming j e rs + cond (names j e r) 1 0
naming_push j e rs r = sum_by_push (λ x. cond (names j e x) 1 0) rs r

-- what the counts of a study say of the answers so far: they are those of some vectors, as many as the answers say
pub record Counted (s : Study) (n : ℕ) (rs : List (Result Answer LineFault)) : Type 0 where
  pub vectors : List (List ℕ)
  pub few : length vectors ≤ n
  pub told : length vectors < 2 ^ 64 → Tallied s.setting.theta vectors s.tally
  pub same : (j : ℕ) (e : Edge) → standing s.setting.theta j e vectors ≡ naming j e rs

abbrev pub Holds : Option Study → ℕ → List (Result Answer LineFault) → Type 0
Holds None n rs = (j : ℕ) (e : Edge) → naming j e rs ≡ 0
Holds (Some s) n rs = Counted s n rs

push_other : (j : ℕ) (e : Edge) (rs : List (Result Answer LineFault)) (r : Result Answer LineFault) → names j e r ≡ false → naming j e (rs ++ r ∷ []) ≡ naming j e rs
push_other j e rs r h = naming_push j e rs r ∙ ap (λ t. naming j e rs + cond t 1 0) h ∙ omega arith

module _ (l : List ℕ) (n : ℕ) (rs : List (Result Answer LineFault)) where
  holds_opened : (s : Study) (d : ℕ) (θ : ℤ) → Fresh d θ s → ((j : ℕ) (e : Edge) → naming j e rs ≡ 0) → Counted s (n + 1) (rs ++ Ok Opened ∷ [])
  holds_opened s d θ f none = record {
    vectors = [];
    few = omega arith;
    told = λ _. subst (λ z. Tallied z [] s.tally) (sym f.theta) f.tally;
    same = λ j e. sym (push_other j e rs (Ok Opened) refl ∙ none j e);
  }

  holds_same : (s : Study) (f : LineFault) → Counted s n rs → Counted s (n + 1) (rs ++ Err f ∷ [])
  holds_same s f c = record {
    vectors = c.vectors;
    few = omega (arith, c.few);
    told = c.told;
    same = λ j e. c.same j e ∙ sym (push_other j e rs (Err f) refl);
  }

  holds_explained : (s s' : Study) (v : List ℕ) (p : KeyParts) → PartsOf s.setting.theta v p → Gains v s s' → Counted s n rs → Counted s' (n + 1) (rs ++ Ok (Explained p) ∷ [])
  holds_explained s s' v p parts g c = record {
    vectors = c.vectors ++ v ∷ [];
    few = omega (arith, c.few, length_push c.vectors v);
    told = λ small.
        let θ = s.setting.theta in
        let lt : length c.vectors < 2 ^ 64 - 1 = omega (arith, small, length_push c.vectors v) in
        subst (λ z. Tallied z (c.vectors ++ v ∷ []) s'.tally) (sym (ap (λ x. x.theta) g.setting)) (g.tally c.vectors lt (c.told (omega arith)));
    same = λ j e.
        let at : stands_at s.setting.theta j e v ≡ names j e (Ok (Explained p)) = λ i. eqb (sym parts.place i) j && same_edge (sym parts.edge i) e in
        subst (λ z. standing z j e (c.vectors ++ v ∷ []) ≡ naming j e (rs ++ Ok (Explained p) ∷ [])) (sym (ap (λ x. x.theta) g.setting))
        (sum_by_push (λ x. cond (stands_at s.setting.theta j e x) 1 0) c.vectors v ∙ (λ i. c.same j e i + cond (at i) 1 0) ∙ sym (naming_push j e rs (Ok (Explained p))));
  }

  holds_more : (s t : Option Study) (r : Result Answer LineFault) → Answered l s t r → Holds s n rs → Holds t (n + 1) (rs ++ r ∷ [])
  holds_more None t (Ok Opened) a h = subst (λ v. Holds v (n + 1) (rs ++ Ok Opened ∷ [])) (sym a.1) (holds_opened a.0 a.2.0 a.2.1 a.2.4 h)
  holds_more None t (Ok (Explained p)) a h = absurd a
  holds_more None t (Err f) a h = subst (λ v. Holds v (n + 1) (rs ++ Err f ∷ [])) (sym a.1) (λ j e. push_other j e rs (Err f) refl ∙ h j e)
  holds_more (Some s) t (Ok Opened) a h = absurd a
  holds_more (Some s) t (Ok (Explained p)) a h = subst (λ v. Holds v (n + 1) (rs ++ Ok (Explained p) ∷ [])) (sym a.1) (holds_explained s a.0 a.2.0 p a.2.2 a.2.3 h)
  holds_more (Some s) t (Err f) a h = subst (λ v. Holds v (n + 1) (rs ++ Err f ∷ [])) (sym a.1) (holds_same s f h)

-- over a whole run
holds_all : (s : Option Study) (ls : List (List ℕ)) (rs : List (Result Answer LineFault)) (t : Option Study) (n : ℕ) (before : List (Result Answer LineFault))
    → Ran s ls rs t → Holds s n before → Holds t (n + length ls) (before ++ rs)
holds_all s [] rs t n before h start =
    let z : n + 0 ≡ n = omega arith in
    rw (h.0, append-nil before, h.1, z) start
holds_all s (l ∷ ls) rs t n before h start =
    let step = holds_more l n before s h.0 h.1 h.4 start in
    let rest = holds_all h.0 ls h.2 t (n + 1) (before ++ h.1 ∷ []) h.5 step in
    let z : n + suc (length ls) ≡ n + 1 + length ls = omega arith in
    rw (h.3, z, ← append_assoc before (h.1 ∷ []) h.2) rest

counts_of : (t : Option Study) (n : ℕ) (rs : List (Result Answer LineFault)) → n < 2 ^ 64 → Holds t n rs → CountsAnswers t rs
counts_of None n rs small h = tt
counts_of (Some s) n rs small h = λ j e l. h.told (omega (arith, h.few)) j e l ∙ h.same j e

pub counts_answers : (ls : List (List ℕ)) (rs : List (Result Answer LineFault)) (t : Option Study) → length ls < 2 ^ 64 → Ran None ls rs t → CountsAnswers t rs
counts_answers ls rs t small h = counts_of t (0 + length ls) rs (omega arith) (holds_all None ls rs t 0 [] h (λ j e. refl))

-- a line past the first million is not taken
pub taken_past : (s : Option Study) (n : ℕ) (ls : List (List ℕ)) (l : List ℕ) → 1000000 ≤ n → Taken s n ls → Taken s n (ls ++ l ∷ [])
taken_past s n ls l full h =
    (omega (arith, h.0, length_push ls l), h.1, rw (take-append-le 1000000 ls (l ∷ []) (omega (arith, h.0))) h.2)

-- any other is
pub taken_more : (s t : Option Study) (n : ℕ) (ls : List (List ℕ)) (l : List ℕ) (r : Result Answer LineFault) → n < 1000000 → Taken s n ls → Answered l s t r → Taken t (n + 1) (ls ++ l ∷ [])
taken_more s t n ls l r room h a =
    let few : length ls < 1000000 = omega (arith, h.0) in
    let before = rw (take_all 1000000 ls (omega arith)) at h.2 in
    (omega (arith, h.0, length_push ls l), h.1 ++ r ∷ [], rw (take_all 1000000 (ls ++ l ∷ []) (omega (arith, length_push ls l))) (ran_more None ls h.1 s t l r before a))

-- what the counts say of the lines that were taken
pub taken_counts : (s : Option Study) (n : ℕ) (ls : List (List ℕ)) → Taken s n ls → Ended ls s
taken_counts s n ls h = record {
  answers = (h.1, h.2);
  counts = λ rs r. counts_answers (take 1000000 ls) rs s (omega (arith, length-take 1000000 ls)) r;
}
