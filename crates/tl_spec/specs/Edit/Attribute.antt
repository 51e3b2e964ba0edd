-- What edits make of the attributes of a tag, whatever its keys and values are.
use Rattle.std.specs.Prelude.{ℕ, Bool, List, Option, Some, None, option_map}
use Rattle.std.specs.Map.{lookup}
use Rattle.tl_spec.specs.Tree.Inline.{room, with_entry, with_value, without_key}
use Rattle.tl_spec.specs.Lex.AttributeList.{Attributes, choose_by_key, set_at}

module _ {B : Type 0} (list : B → List ℕ) (eq : B → B → Bool) where
  -- the value at a key; at `id` and `class` there is a key only with its value
  abbrev pub value_at : Attributes B → B → Option (Option B)
  value_at a k = choose_by_key (list k) (option_map Some a.id) (option_map Some a.class)
      (lookup (eq k) a.others.entries)

  -- attributes with v at a key; at `id` and `class` no value is no key
  abbrev pub with_attribute : Attributes B → B → Option B → Attributes B
  with_attribute a k v = set_at (list k) v (with_entry eq room a.others k v) a

  -- attributes without a key
  abbrev pub without_attribute : Attributes B → B → Attributes B
  without_attribute a k = set_at (list k) None (without_key eq a.others k) a

  -- attributes without the value at a key
  abbrev pub without_value : Attributes B → B → Attributes B
  without_value a k = set_at (list k) None (with_value eq a.others k None) a

  -- attributes with w in the place of the value at a key
  abbrev pub with_value_at : Attributes B → B → B → Attributes B
  with_value_at a k w = set_at (list k) (Some w) (with_value eq a.others k (Some w)) a
