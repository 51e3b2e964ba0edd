-- A plain and slow search for the nodes where a selector holds.
use Rattle.std.specs.Prelude.{ℕ, Bool, true, false, ◌&&◌, ◌||◌, nat_eq, nat_lt, nat_le, List, [], ◌∷◌, length, filter, Option, Some, None, slice_get}
use Rattle.std.specs.List as lists
use Rattle.std.specs.List.{list_any, range_with_len}
use Rattle.std.specs.Option.{is_some, option_map_or}
use Rattle.std.specs.Str.{bytes_eq}
use Rattle.std.specs.Str.Lossy.{utf8_lossy}
use Rattle.bstr.specs.Utf8.{lossy_chars}
use Rattle.tl_spec.specs.Lex.Runs.{has_bytes}
use Rattle.tl_spec.specs.Tree.Document.{Node}
use Rattle.tl_spec.specs.Tree.Element.{name_of, attribute_of, children_of}
use Rattle.tl_spec.specs.Select.LossyText.{words}
use Rattle.tl_spec.specs.Lookup.Scan.{is_value, has_id, is_in_class}
use Rattle.tl_spec.specs.Select.Selector.{Selector, Tag, Id, Class, All, And, Or, Descendant, Parent, Attribute, AttributeValue, AttributeValueWhitespacedContains, AttributeValueStartsWith, AttributeValueEndsWith, AttributeValueSubstring}

-- whether both have the same text
abbrev pub is_same_text : List ℕ → List ℕ → Bool
is_same_text value other = bytes_eq (utf8_lossy value) (utf8_lossy other)

-- whether the text of a value begins with that of front
abbrev pub begins_with : List ℕ → List ℕ → Bool
begins_with value front = lists.starts_with nat_eq (utf8_lossy value) (utf8_lossy front)

-- whether the text of a value ends with that of back
abbrev pub ends_with : List ℕ → List ℕ → Bool
ends_with value back = lists.ends_with nat_eq (utf8_lossy value) (utf8_lossy back)

-- whether a part stands anywhere in a list
abbrev pub stands_in : List ℕ → List ℕ → Bool
stands_in part [] = lists.starts_with nat_eq [] part
stands_in part (x ∷ xs) = lists.starts_with nat_eq (x ∷ xs) part || stands_in part xs

-- whether the text of part stands in that of a value
abbrev pub has_part : List ℕ → List ℕ → Bool
has_part value part = stands_in (utf8_lossy part) (utf8_lossy value)

-- whether the text of word, which is not empty, is one of the words of a value's
abbrev pub has_word : List ℕ → List ℕ → Bool
has_word value word = has_bytes word && list_any (bytes_eq (lossy_chars word)) (words value)

-- whether there is a key with a value, and the value passes
abbrev pub has_value : (List ℕ → Bool) → Option (Option (List ℕ)) → Bool
has_value passes None = false
has_value passes (Some value) = option_map_or passes value false

-- whether a selector holds at a node alone, where no ancestors are known
abbrev pub holds_alone : Selector → Node → Bool
holds_alone (Tag name) node = is_value name (name_of node)
holds_alone (Id id) node = has_id id node
holds_alone (Class member) node = is_in_class member node
holds_alone All node = true
holds_alone (And a b) node = holds_alone a node && holds_alone b node
holds_alone (Or a b) node = holds_alone a node || holds_alone b node
holds_alone (Descendant a b) node = false
holds_alone (Parent a b) node = false
holds_alone (Attribute key) node = is_some (attribute_of key node)
holds_alone (AttributeValue key value) node =
    has_value (λ own. is_same_text own value) (attribute_of key node)
holds_alone (AttributeValueWhitespacedContains key value) node =
    has_value (λ own. has_word own value) (attribute_of key node)
holds_alone (AttributeValueStartsWith key value) node =
    has_value (λ own. begins_with own value) (attribute_of key node)
holds_alone (AttributeValueEndsWith key value) node =
    has_value (λ own. ends_with own value) (attribute_of key node)
holds_alone (AttributeValueSubstring key value) node =
    has_value (λ own. has_part own value) (attribute_of key node)

module _ (nodes : List Node) where
  -- the numbers of all nodes
  abbrev pub node_numbers : List ℕ
  node_numbers = range_with_len 0 (length nodes)

  -- whether the node n of the table stands among the children of m
  abbrev pub is_child : ℕ → ℕ → Bool
  is_child m n = nat_lt n (length nodes)
      && option_map_or (λ node. list_any (nat_eq n) (children_of node)) (slice_get nodes m) false

  -- whether one or more steps lead from m down to n, where all nodes between the two are from a
  -- list: a way passes the first of the list or doesn't, and where one does, one that passes it
  -- once does
  abbrev pub is_below_by : List ℕ → ℕ → ℕ → Bool
  is_below_by [] m n = is_child m n
  is_below_by (l ∷ ls) m n = is_below_by ls m n || (is_below_by ls m l && is_below_by ls l n)

  -- whether one or more steps lead from m down to n
  abbrev pub is_below : ℕ → ℕ → Bool
  is_below = is_below_by node_numbers

  -- whether a selector holds at the node n of the table, whose other nodes count as ancestors
  abbrev pub holds : Selector → ℕ → Bool
  holds (And a b) n = holds a n && holds b n
  holds (Or a b) n = holds a n || holds b n
  holds (Descendant a b) n = holds b n && list_any (λ m. holds a m && is_below m n) node_numbers
  holds (Parent a b) n = holds b n && list_any (λ m. holds a m && is_child m n) node_numbers
  holds e n = option_map_or (holds_alone e) (slice_get nodes n) false

  -- the numbers from one on, and below another, of the nodes where a selector holds, in order
  abbrev pub matches_between : Selector → ℕ → ℕ → List ℕ
  matches_between e from to = filter (λ n. nat_le from n && nat_lt n to && holds e n) node_numbers
