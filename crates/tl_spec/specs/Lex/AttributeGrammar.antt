-- The attributes of a start tag, said of all its pairs at once.
use Rattle.std.specs.Prelude.{◌≡◌, ℕ, ◌||◌, not, List, [], ◌∷◌, Option, None, codes, filter, map, reverse, unwrap_or}
use Rattle.std.specs.Map.{lookup}
use Rattle.std.specs.Str.{bytes_eq}
use Rattle.tl_spec.specs.Lex.Attribute.{Pair}
use Rattle.tl_spec.specs.Lex.AttributeList.{PlainAttributes, is_id, is_class}

-- each key once, where it first stands
abbrev pub distinct_keys : List Pair → List (List ℕ)
distinct_keys [] = []
distinct_keys (p ∷ ps) = p.0 ∷ filter (λ key. not (bytes_eq p.0 key)) (distinct_keys ps)

-- of these all but `id` and `class`
abbrev pub other_keys : List Pair → List (List ℕ)
other_keys pairs = filter (λ key. not (is_id key || is_class key)) (distinct_keys pairs)

-- the value of the last pair of the key: none where that pair has none, or there is no such pair
abbrev pub last_value : List ℕ → List Pair → Option (List ℕ)
last_value key pairs = unwrap_or (lookup (bytes_eq key) (reverse pairs)) None

-- each key with the value of its last pair: the other keys in the order in which they first stand,
-- and `id` and `class` apart
pub record AreAttributesOf (pairs : List Pair) (a : PlainAttributes) : Type 0 where
  pub others : a.others ≡ map (λ key. (key, last_value key pairs)) (other_keys pairs)
  pub id : a.id ≡ last_value (codes "id") pairs
  pub class : a.class ≡ last_value (codes "class") pairs
