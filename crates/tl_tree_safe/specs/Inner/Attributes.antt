-- What is written of attributes.
use Rattle.std.specs.Prelude.{Bool, List, [], codes, if◌then◌else◌, ℕ, ◌&&◌}
use Rattle.tl_dom_spec.specs.Tags.{Attribute, plain_attribute}
use Rattle.tl_html_print.specs.Serialized.{serialized_attribute}
use Rattle.tl_tree_safe.specs.Kept.{has_key, is_listed_attribute, is_marked_link, kept_attributes, kept_value, marked_where}
use Rattle.tl_tree_safe.specs.Lists.{ListedWords, is_listed_value, rel_key}

-- a key with a value, where it may stand
abbrev pub pair_where : Bool → List ℕ → List ℕ → List ℕ
pair_where stands key value =
    if stands then serialized_attribute (plain_attribute (key, value)) else []

-- a listed key with what stays of its value
abbrev pub value_written : ListedWords → List ℕ → List ℕ → List ℕ
value_written p key value =
    pair_where (is_listed_value p key (kept_value p key value)) key (kept_value p key value)

-- an attribute that is listed, and nothing of another one
abbrev pub listed_written : ListedWords → Attribute → List ℕ
listed_written p a = if is_listed_attribute p a then serialized_attribute a else []

-- one that stands beside the mark of a link
abbrev pub beside_written : ListedWords → Attribute → List ℕ
beside_written p a = if has_key rel_key a then [] else listed_written p a

-- the target of a link that stays
abbrev pub is_kept_target : ListedWords → Attribute → Bool
is_kept_target p a = has_key (codes "href") a && is_listed_attribute p a

-- those that stay of an element of a name, with the mark of a link
abbrev pub marked_attributes : ListedWords → List ℕ → List Attribute → List Attribute
marked_attributes p name attributes =
    let stay = kept_attributes p attributes in
    marked_where (is_marked_link p name stay) stay
