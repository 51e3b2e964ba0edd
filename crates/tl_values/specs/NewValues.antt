-- The values that nodes get.
use Rattle.std.specs.Option.{option_and_then, option_map, option_to_list}
use Rattle.std.specs.Prelude.{Bool, List, None, Option, Some, Vec, false, flat_map, if◌then◌else◌, ℕ}
use Rattle.std.specs.Str.{bytes_eq}
use Rattle.std.specs.declared.alloc.Global.{Global}
use Rattle.tl_tree.specs.Asked.{attributes_at}
use Rattle.tl_tree.specs.Rows.{Row}
use Rattle.tl_values.specs.Absolute.{absolute_at, page_base}
use Rattle.tl_values.specs.Keys.{value_at}
use Rattle.tl_values.specs.Rewrites.{new_value}
use Rattle.tl_values.specs.Naming.{names_got, page_names}
use Rattle.tl_values.specs.Patterns.{replaced_by_pattern}
use Rattle.tl_values.specs.declared.new_value.NewValue.{NewValue}
use Rattle.tl_values.specs.declared.pattern.Pattern.{Pattern}
use Rattle.tl_values.specs.declared.rewrite.Rewrite.{Rewrite}
use Rattle.tl_values.specs.declared.rewrite.Rewrite.TheVariants as rewrite
use Rattle.url.specs.Parts.{Parts}

-- the bytes of a value that is made
abbrev pub items_of : Vec ℕ Global → List ℕ
items_of v = v.items

abbrev pub stands : Option (List ℕ) → List ℕ → Bool
stands None value = false
stands (Some own) value = bytes_eq own value

-- a value, where it isn't the one that stands there
abbrev pub unless_stands : Option (List ℕ) → List ℕ → Option (List ℕ)
unless_stands own value = if stands own value then None else Some value

-- what a node gets at a key of what is made there, where it isn't the value that stands there
abbrev pub another_at : List ℕ → List Row → ℕ → Option (List ℕ) → Option (List ℕ)
another_at key rows number made =
    option_and_then (unless_stands (value_at key (attributes_at rows number))) made

-- what is made at a key of a node of the values of its attributes
abbrev pub value_got : Rewrite → List ℕ → List Row → ℕ → Option (List ℕ)
value_got rewrite key rows number =
    another_at key rows number (new_value rewrite key (attributes_at rows number))

-- what a pattern makes of the value of a node
abbrev pub pattern_got : Pattern → List ℕ → List Row → ℕ → Option (List ℕ)
pattern_got pattern key rows number =
    another_at key rows number
    (option_map (replaced_by_pattern pattern) (value_at key (attributes_at rows number)))

-- of each of these nodes that gets one: its number, and the value
abbrev pub each_got : (ℕ → Option (List ℕ)) → List ℕ → List (ℕ × List ℕ)
each_got got_at numbers =
    flat_map
    (λ number. option_to_list (option_map (λ value. (number, value)) (got_at number)))
    numbers

-- a value with absolute URLs
abbrev pub absolute_got : Parts → List ℕ → List Row → ℕ → Option (List ℕ)
absolute_got base key rows number = another_at key rows number (absolute_at base key rows number)

abbrev pub values_got : Rewrite → List ℕ → List Row → List ℕ → List (ℕ × List ℕ)
values_got (rewrite.Absolute own) key rows numbers =
    each_got (absolute_got (page_base own rows) key rows) numbers
values_got (rewrite.Pattern pattern) key rows numbers =
    each_got (pattern_got pattern key rows) numbers
values_got rewrite.FromText key rows numbers = names_got key rows (page_names key rows) numbers
values_got own key rows numbers = each_got (value_got own key rows) numbers

abbrev pub got : NewValue → ℕ × List ℕ
got v = (v.number, v.value.items)
