-- Lists of key ranges: what they plan, and the rule of a plan.
use Rattle.std.specs.Prelude.{◌≡◌, ℕ, ◌+◌, ◌<◌, ◌≤◌, List, length, All, Any, slice_index_or}
use Rattle.grid.specs.Keys.{key_place}
use Rattle.windows.specs.declared.spans.Span.{Span}

abbrev pub KeyRange : Type 0
KeyRange = Span ℕ

abbrev pub range_at : List KeyRange → ℕ → KeyRange
range_at rs i = slice_index_or rs i (record { low = 0; high = 0 })

-- the key lies in the range
abbrev pub Has : KeyRange → ℕ → Type 0
Has r k = (r.low ≤ k) × (k ≤ r.high)

-- one of the ranges has the key
abbrev pub Planned : List KeyRange → ℕ → Type 0
Planned rs k = Any (λ r. Has r k) rs

-- key l comes after key k and, in the same place, does not touch it
abbrev pub Apart : ℕ → ℕ → Type 0
Apart k l = (k < l) × (key_place k ≡ key_place l → k + 1 < l)

-- the range has a key, and lies within one place
abbrev pub OnePlace : KeyRange → Type 0
OnePlace r = (r.low ≤ r.high) × (key_place r.low ≡ key_place r.high)

-- the ranges rise, and within one place neither overlap nor touch
abbrev pub Rising : List KeyRange → Type 0
Rising rs = (i : ℕ) → i + 1 < length rs → Apart (range_at rs i).high (range_at rs (i + 1)).low

-- the rule of a plan
pub record Rule (rs : List KeyRange) : Type 0 where
  pub few : length rs ≤ 32
  pub places : All OnePlace rs
  pub rising : Rising rs
