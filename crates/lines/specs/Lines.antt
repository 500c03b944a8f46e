-- The lines of an input: the input cut at its line feeds.
use Rattle.std.specs.Prelude.{◌≡◌, ℕ, ◌==◌, ◌≢◌, if◌then◌else◌, List, [], ◌∷◌, ◌++◌, map, take, fold}
use Rattle.std.specs.List.{All}

-- ended lines, and what follows the last line feed
pub record Split : Type 0 where
  pub lines : List (List ℕ)
  pub rest : List ℕ

-- one byte more
abbrev pub fed : Split → ℕ → Split
fed p b = if b == 10 then (record { lines = p.lines ++ p.rest ∷ []; rest = [] }) else (record { lines = p.lines; rest = p.rest ++ b ∷ [] })

abbrev pub blank : Split
blank = record { lines = []; rest = [] }

abbrev pub split : List ℕ → Split
split bytes = fold fed blank bytes

-- each line, or its first 256 bytes
abbrev pub cut : List (List ℕ) → List (List ℕ)
cut ls = map (take 256) ls

-- a handler has been handed the ended lines, and the reader holds what follows them, each cut
abbrev pub HasTaken : {H : Type 0} → (H → List (List ℕ) → Type 0) → Split → List ℕ → H → Type 0
HasTaken after p line to = (line ≡ take 256 p.rest) × after to (cut p.lines)

-- lines, each with its line feed
abbrev pub glued : List (List ℕ) → List ℕ
glued [] = []
glued (l ∷ ls) = l ++ 10 ∷ glued ls

-- no byte is a line feed
abbrev pub Feedless : List ℕ → Type 0
Feedless l = All (λ b. b ≢ 10) l

-- the lines with their line feeds and the rest are the bytes, and none holds a line feed
pub record LinesOf (bytes : List ℕ) (p : Split) : Type 0 where
  pub whole : glued p.lines ++ p.rest ≡ bytes
  pub apart : All Feedless p.lines
  pub last : Feedless p.rest

-- that holds of the lines of every input
abbrev pub LinesJoin : Type 0
LinesJoin = (bytes : List ℕ) → LinesOf bytes (split bytes)
