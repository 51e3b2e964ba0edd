-- The attributes of a tag: `id` and `class` apart, the other keys distinct.
use Rattle.std.specs.Prelude.{◌≡◌, ℕ, ◌+◌, Bool, false, List, [], ◌∷◌, ◌++◌, length, Option, Some, None, codes, fold, if◌then◌else◌, is_some, option_map}
use Rattle.std.specs.Int.{from_bool}
use Rattle.std.specs.List.{AllByRecursion, IsDistinct}
use Rattle.std.specs.Map.{keys_of}
use Rattle.std.specs.Str.{bytes_eq}
use Rattle.indexmap.specs.IndexMap.{insert_entry}
use Rattle.tl_spec.specs.Lex.Attribute.{Pair}
use Rattle.tl_spec.specs.Tree.Inline.{InlineMap}

-- the values of `id` and `class`, of the type B, and the others in a list of the type L
pub record AttributesOf (B L : Type 0) : Type 0 where
  pub others : L
  pub id : Option B
  pub class : Option B

-- what a tag holds, with keys and values of the type B
abbrev pub Attributes : Type 0 → Type 0
Attributes B = AttributesOf B (InlineMap B (Option B))

-- where only the pairs count
abbrev pub PlainAttributes : Type 0
PlainAttributes = AttributesOf (List ℕ) (List Pair)

-- a tag without attributes
abbrev pub no_attributes : PlainAttributes
no_attributes = record { others = []; id = None; class = None }

-- whether a key is `id`
abbrev pub is_id : List ℕ → Bool
is_id key = bytes_eq key (codes "id")

-- whether a key is `class`
abbrev pub is_class : List ℕ → Bool
is_class key = bytes_eq key (codes "class")

-- a key that is neither `id` nor `class`
abbrev pub IsOther : List ℕ → Type 0
IsOther key = (is_id key ≡ false) × (is_class key ≡ false)

-- the first at `id`, the second at `class`, and the third at every other key
abbrev pub choose_by_key : {A : Type 0} → List ℕ → A → A → A → A
choose_by_key key at_id at_class at_other =
    if is_id key then at_id else if is_class key then at_class else at_other

-- attributes with this value where the key is `id` or `class`, and else with these others
abbrev pub set_at : {B L : Type 0} → List ℕ → Option B → L → AttributesOf B L → AttributesOf B L
set_at key value others a = choose_by_key key (record a { id = value }) (record a { class = value })
    (record a { others = others })

-- the attributes after one more pair: a later one replaces an earlier one of its key, at the
-- earlier one's place
abbrev pub with_pair : PlainAttributes → Pair → PlainAttributes
with_pair a p = set_at p.0 p.1 (insert_entry bytes_eq a.others p.0 p.1) a

-- the attributes of a start tag with these pairs
abbrev pub attributes_of : List Pair → PlainAttributes
attributes_of pairs = fold with_pair no_attributes pairs

-- the key with its value, if there is one
abbrev pub pair_if_some : {K V : Type 0} → K → Option V → List (K × Option V)
pair_if_some key None = []
pair_if_some key (Some v) = (key, Some v) ∷ []

-- these others, then `id` and `class` where they have a value; `key` makes a key of its bytes
abbrev pub pairs_in_order : {K V : Type 0} → (List ℕ → K) → List (K × Option V) → Option V →
    Option V → List (K × Option V)
pairs_in_order key others id class =
    others ++ pair_if_some (key (codes "id")) id ++ pair_if_some (key (codes "class")) class

-- all pairs in the order of the print
abbrev pub printed_pairs : PlainAttributes → List Pair
printed_pairs a = pairs_in_order (λ key. key) a.others a.id a.class

-- no key is `id` or `class`
abbrev pub AreOthers : {K V : Type 0} → (K → List ℕ) → List (K × V) → Type 0
AreOthers list es = AllByRecursion (λ e. IsOther (list e.0)) es

-- what the type of attributes keeps: the other keys are distinct, and neither `id` nor `class`
pub record HasOwnKeys (a : PlainAttributes) : Type 0 where
  pub distinct : IsDistinct bytes_eq (keys_of a.others)
  pub others : AreOthers (λ key. key) a.others

-- 1 for a value, 0 for none
abbrev pub one_if_some : {A : Type 0} → Option A → ℕ
one_if_some x = from_bool (is_some x)

-- how many attributes there are
abbrev pub count_of : {B : Type 0} → Attributes B → ℕ
count_of a = length a.others.entries + one_if_some a.id + one_if_some a.class

-- attributes with each value under f, and the others under g
abbrev pub attributes_image : {B C L M : Type 0} → (B → C) → (L → M) → AttributesOf B L →
    AttributesOf C M
attributes_image f g a = record {
  others = g a.others;
  id = option_map f a.id;
  class = option_map f a.class;
}
