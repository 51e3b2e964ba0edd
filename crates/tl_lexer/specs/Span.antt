-- What stands at a span, and at a place.
use Rattle.std.specs.Prelude.{ℕ, ◌+◌, ◌≤◌, List, [], ◌∷◌, length, take, drop, Option, None, Some, option_map, IfSome}
use Rattle.tl_spec.specs.Lex.Attribute.{Pair}
use Rattle.tl_lexer.specs.declared.span.Span.{Span}
use Rattle.tl_lexer.specs.declared.span.AttributeSpan.{AttributeSpan}

-- a byte in front of the rest, or nothing
abbrev pub in_front : Option ℕ → List ℕ → List ℕ
in_front None rest = []
in_front (Some b) rest = b ∷ rest

-- the bytes of a span
abbrev pub bytes_at : List ℕ → Span → List ℕ
bytes_at t s = take s.len (drop s.start t)

-- the bytes of a span, where there is one
abbrev pub optional_bytes_at : List ℕ → Option Span → Option (List ℕ)
optional_bytes_at t s = option_map (bytes_at t) s

-- the span is in the text
abbrev pub IsIn : List ℕ → Span → Type 0
IsIn t s = s.start + s.len ≤ length t

-- the key and the value of an attribute
abbrev pub pair_at : List ℕ → AttributeSpan → Pair
pair_at t a = (bytes_at t a.key, optional_bytes_at t a.value)

-- the key and the value are in the text
pub record ArePairIn (t : List ℕ) (a : AttributeSpan) : Type 0 where
  pub key : IsIn t a.key
  pub value : IfSome a.value (IsIn t)
