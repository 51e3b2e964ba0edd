-- What a token of a page says, as it is put into a store.
use Rattle.std.specs.BTreeSet.{BTreeSet, contains}
use Rattle.std.specs.Cmp.Lexicographic.{slice_cmp}
use Rattle.std.specs.Ordering.{nat_cmp}
use Rattle.std.specs.Prelude.{Bool, List, None, Vec, drop, if◌then◌else◌, map, take, ℕ, ◌++◌, ◌-◌, ◌∷◌, ◌≡◌, []}
use Rattle.std.specs.List.{list_any}
use Rattle.std.specs.Str.{bytes_eq}
use Rattle.std.specs.declared.alloc.Global.{Global}
use Rattle.std.specs.declared.cmp.Ordering.{Ordering}
use Rattle.tl_dom_spec.specs.Tags as dom
use Rattle.tl_html_parts.specs.Parts.{attributes_of}
use Rattle.tl_html_parts.specs.Rest.{HasRest}
use Rattle.tl_html_spec.specs.HtmlTokenizer.{OpenTag}
use Rattle.tl_tree.specs.Inner.Store.{attribute_of, bytes_of}
use Rattle.tl_tree.specs.declared.entries.AttributeEntry.{AttributeEntry}
use Rattle.tl_tree.specs.declared.store.Store.{Store}

-- the bytes of a piece
abbrev pub piece_at : List ℕ → ℕ → ℕ → List ℕ
piece_at page start end = take (end - start) (drop start page)

-- what attributes stand for
abbrev pub attributes_in : Store → List AttributeEntry → List dom.Attribute
attributes_in s entries = map (attribute_of s) entries

-- the attributes of a tag that is being read, as the tree has them
abbrev pub attributes_so_far : OpenTag → List dom.Attribute
attributes_so_far tag = map dom.plain_attribute tag.attributes

-- keys in the order of their bytes
abbrev pub key_order : Vec ℕ Global → Vec ℕ Global → Ordering
key_order key other = slice_cmp nat_cmp key.items other.items

-- the keys of attributes
abbrev pub keys_in : Store → List AttributeEntry → List (List ℕ)
keys_in s entries = map (λ e. bytes_of s e.key) entries

abbrev pub has_key : List ℕ → List (List ℕ) → Bool
has_key key keys = list_any (λ k. bytes_eq k key) keys

-- with one more, unless it is one of them
abbrev pub with_key : List (List ℕ) → List ℕ → List (List ℕ)
with_key keys key = if has_key key keys then keys else keys ++ key ∷ []

-- a set has these keys but for the first 16, and no others
abbrev pub AreKeysBehind : BTreeSet (Vec ℕ Global) → List (List ℕ) → Type 0
AreKeysBehind set keys =
    (key : Vec ℕ Global) → contains key_order set key ≡ has_key key.items (drop 16 keys)

-- from a place of a text on to another one, a tag has these attributes
pub record AreRead (text : List ℕ) (from at : ℕ) (attributes : List dom.Attribute) : Type 0 where
  pub pairs : List (List ℕ × List ℕ)
  pub rest : (more : List (List ℕ × List ℕ)) (closes : Bool) → HasRest (drop at text) more closes →
      HasRest (drop from text) (pairs ++ more) closes
  pub stands : attributes ≡ map dom.plain_attribute (attributes_of pairs)

-- a tag, from a place of a text to its end, has these attributes and this flag
pub record IsRestRead (text : List ℕ) (from : ℕ) (closes : Bool) (attributes : List dom.Attribute)
    : Type 0 where
  pub pairs : List (List ℕ × List ℕ)
  pub rest : HasRest (drop from text) pairs closes
  pub stands : attributes ≡ map dom.plain_attribute (attributes_of pairs)

-- an element of HTML
abbrev pub tag_with : List ℕ → List dom.Attribute → dom.Tag
tag_with name attributes = record {
  space = dom.html_space;
  name = name;
  attributes = attributes;
  source = None;
}
