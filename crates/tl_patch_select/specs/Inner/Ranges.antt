-- Numbers in the order of their keys.
use Rattle.std.specs.List.{Contains, slice_get}
use Rattle.std.specs.List.Sorted.{IsNonDecreasingBy}
use Rattle.std.specs.Prelude.{List, None, Option, Some, if◌then◌else◌, length, nat_lt, slice_index_or, ℕ, ◌<◌, ◌≡◌, ◌≤◌, ◌⊎◌}
use Rattle.tl_patch_select.specs.declared.ranges.Bounds.{Bounds}
use Rattle.tl_patch_select.specs.declared.ranges.ByKey.{ByKey}
use Rattle.tl_patch_select.specs.declared.ranges.Keyed.{Keyed}
use Rattle.tl_patch_select.specs.declared.ranges.Range.{Range}
use Rattle.tl_patch_select.specs.declared.ranges.Span.{Span}

abbrev pub IsRising : List Keyed → Type 0
IsRising all = IsNonDecreasingBy (λ (one : Keyed). one.key) all

abbrev pub least_of : Keyed → Keyed → Keyed
least_of one other = if nat_lt other.number one.number then other else one

abbrev pub greatest_of : Keyed → Keyed → Keyed
greatest_of one other = if nat_lt one.number other.number then other else one

-- one of these stands between an index and an end
pub record StandsAmong (all : List Keyed) (start end : ℕ) (one : Keyed) : Type 0 where
  pub at : ℕ
  pub from : start ≤ at
  pub before : at < end
  pub is : slice_get all at ≡ Some one

-- the least and the greatest of those between an index and an end
pub record AreBounds (all : List Keyed) (start end : ℕ) (bounds : Bounds) : Type 0 where
  pub least : StandsAmong all start end bounds.least
  pub greatest : StandsAmong all start end bounds.greatest
  pub no_less : (one : Keyed) → StandsAmong all start end one →
      bounds.least.number ≤ one.number
  pub no_greater : (one : Keyed) → StandsAmong all start end one →
      one.number ≤ bounds.greatest.number

pub record IsSpan (all : List Keyed) (start : ℕ) (span : Span) : Type 0 where
  pub order : start < span.end
  pub within : span.end ≤ length all
  pub bounds : AreBounds all start span.end span.bounds

pub record AreSpans (all : List Keyed) (spans : List Span) : Type 0 where
  pub count : length spans ≡ length all
  pub each : (start : ℕ) (d : Span) → start < length spans →
      IsSpan all start (slice_index_or spans start d)

-- one stands at an index, with a key that is less than this
pub record IsBefore (all : List Keyed) (at past : ℕ) : Type 0 where
  pub within : at < length all
  pub one : Keyed
  pub is : slice_get all at ≡ Some one
  pub before : one.key < past

-- all from an index on, of keys that are less than this
pub record IsSpanBefore (all : List Keyed) (start past : ℕ) (span : Span) : Type 0 where
  pub is_span : IsSpan all start span
  pub before : (one : Keyed) → StandsAmong all start span.end one → one.key < past

-- numbers are ready to be asked
pub record IsByKey (own : ByKey) : Type 0 where
  pub rising : IsRising own.all.items
  pub spans : AreSpans own.all.items own.spans.items

pub record StandsIn (range : Range) (number : ℕ) : Type 0 where
  pub from : range.from ≤ number
  pub before : number < range.past

-- one of these has a key in a range
pub record HasKey (all : List Keyed) (keys : Range) (one : Keyed) : Type 0 where
  pub among : Contains all one
  pub key : StandsIn keys one.key

-- the least and the greatest of the numbers with such keys
pub record AreBoundsOf (all : List Keyed) (keys : Range) (bounds : Bounds) : Type 0 where
  pub least : HasKey all keys bounds.least
  pub greatest : HasKey all keys bounds.greatest
  pub no_less : (one : Keyed) → HasKey all keys one → bounds.least.number ≤ one.number
  pub no_greater : (one : Keyed) → HasKey all keys one → one.number ≤ bounds.greatest.number

abbrev pub IsBoundsOf : List Keyed → Range → Option Bounds → Type 0
IsBoundsOf all keys None = (one : Keyed) → HasKey all keys one → ⊥
IsBoundsOf all keys (Some bounds) = AreBoundsOf all keys bounds

-- one is the least or the greatest of some numbers, and stands in no such range
pub record IsOutOf (bounds : Bounds) (range : Range) (one : Keyed) : Type 0 where
  pub is : (one ≡ bounds.least) ⊎ (one ≡ bounds.greatest)
  pub out : StandsIn range one.number → ⊥

-- one has a key in a range, and its number stands in no other range
pub record IsStray (all : List Keyed) (keys numbers : Range) (one : Keyed) : Type 0 where
  pub has_key : HasKey all keys one
  pub out : StandsIn numbers one.number → ⊥
