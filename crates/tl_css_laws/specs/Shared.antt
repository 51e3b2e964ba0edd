-- Selector texts that the grammar of `tl_spec`, the Rust crate's, and that of CSS read alike.
use Rattle.std.specs.Prelude.{◌↔◌, ℕ, Bool, true, false, not, ◌||◌, ◌&&◌, ◌==◌, List, [], ◌∷◌}
use Rattle.std.specs.List.{Contains, list_all, take_while}
use Rattle.std.specs.Option.{is_some, option_map_or}
use Rattle.std.specs.Str.{byte, bytes_eq, str_to_ascii_lowercase}
use Rattle.tl_spec.specs.Lex.ByteClass.{is_ident}
use Rattle.tl_spec.specs.Lex.Runs.{has_bytes}
use Rattle.tl_spec.specs.Select.Reading.{quote_at, selector_at}
use Rattle.tl_spec.specs.Select.Selector.{Selector, Tag, Id, Class, All as Every, And, Or, Descendant, Parent as ChildOf, Attribute, AttributeValue, AttributeValueWhitespacedContains, AttributeValueStartsWith, AttributeValueEndsWith, AttributeValueSubstring}
use Rattle.tl_spec.specs.Tree.Document.{Node}
use Rattle.tl_css.specs.Bytes.{is_name_byte}
use Rattle.tl_css.specs.Meaning.{IsTag}

-- a byte of a name in both: a letter, a digit, `-` or `_`
abbrev pub is_shared_byte : ℕ → Bool
is_shared_byte b = is_ident b && is_name_byte b

-- a name in both: one such byte or more
abbrev pub is_shared_name : List ℕ → Bool
is_shared_name name = has_bytes name && list_all is_shared_byte name

-- such a name in lower case
abbrev pub is_lower_name : List ℕ → Bool
is_lower_name name = is_shared_name name && bytes_eq (str_to_ascii_lowercase name) name

-- a type or `*`
abbrev pub is_type : Selector → Bool
is_type (Tag name) = true
is_type Every = true
is_type _ = false

-- CSS asks the same in the same words: by names of both, those of types and keys in lower case; a
-- type stands first in its compound, and no empty value begins, ends or is inside of others
abbrev pub is_shared : Selector → Bool
is_shared (Tag name) = is_lower_name name
is_shared (Id id) = is_shared_name id
is_shared (Class member) = is_shared_name member
is_shared Every = true
is_shared (And a b) = is_shared a && (is_shared b && not (is_type b))
is_shared (Or a b) = is_shared a && is_shared b
is_shared (Descendant a b) = is_shared a && is_shared b
is_shared (ChildOf a b) = is_shared a && is_shared b
is_shared (Attribute key) = is_lower_name key
is_shared (AttributeValue key value) = is_lower_name key
is_shared (AttributeValueWhitespacedContains key value) = is_lower_name key
is_shared (AttributeValueStartsWith key value) = is_lower_name key && has_bytes value
is_shared (AttributeValueEndsWith key value) = is_lower_name key && has_bytes value
is_shared (AttributeValueSubstring key value) = is_lower_name key && has_bytes value

-- a quote stands first, or what the Rust crate takes for a name is one in both
abbrev pub begins_shared_value : List ℕ → Bool
begins_shared_value s = is_some (quote_at s) || is_shared_name (take_while is_ident s)

-- after each `=` stands a value in quotes, or a name of both
abbrev pub has_shared_values : List ℕ → Bool
has_shared_values [] = true
has_shared_values (b ∷ s) =
    (not (b == byte "=") || begins_shared_value s) && has_shared_values s

-- a text that both read alike: as a selector, and as the one of CSS that asks the same
abbrev pub is_shared_text : List ℕ → Bool
is_shared_text text = has_shared_values text && option_map_or is_shared (selector_at text) false

-- whether a selector holds at tags alone: `*` holds at texts and comments too in the Rust crate
abbrev pub holds_at_tags : Selector → Bool
holds_at_tags Every = false
holds_at_tags (And a b) = holds_at_tags a || holds_at_tags b
holds_at_tags (Or a b) = holds_at_tags a && holds_at_tags b
holds_at_tags (Descendant a b) = holds_at_tags b
holds_at_tags (ChildOf a b) = holds_at_tags b
holds_at_tags _ = true

-- the text of a selector that does
abbrev pub asks_for_tags : List ℕ → Bool
asks_for_tags text = option_map_or holds_at_tags (selector_at text) false

-- numbers are those of the tags among others
abbrev pub AreTagsAmong : List Node → List ℕ → List ℕ → Type 0
AreTagsAmong nodes ms ns = (n : ℕ) → Contains ns n ↔ (Contains ms n × IsTag nodes n)
