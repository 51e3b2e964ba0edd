-- The keys of tags, as the tokenizer reads them.
use Rattle.std.specs.List.{find}
use Rattle.std.specs.Option.{option_map}
use Rattle.std.specs.Prelude.{Bool, List, Option, ℕ}
use Rattle.std.specs.Str.{str_eq_ignore_ascii_case}
use Rattle.tl_dom_spec.specs.Tags.{Attribute}
use Rattle.tl_html_print.specs.Serialized.{serialized_name}

-- whether an attribute comes of this key of a tag: its name as it is serialized, in any case.
-- `viewbox` and `xlink:href` of a tag are `viewBox` and `href` of an element of `svg`
abbrev pub has_key : List ℕ → Attribute → Bool
has_key key a = str_eq_ignore_ascii_case key (serialized_name a.space a.key)

-- the value of the first attribute of a key
abbrev pub value_at : List ℕ → List Attribute → Option (List ℕ)
value_at key own = option_map (λ (a : Attribute). a.value) (find (has_key key) own)
