-- What a rewrite makes of the values of an element.
use Rattle.std.specs.Option.{option_map, unwrap_or}
use Rattle.std.specs.Prelude.{List, Option, Some, [], string_bytes, ℕ, ◌++◌}
use Rattle.tl_dom_spec.specs.Tags as dom
use Rattle.tl_values.specs.Keys.{value_at}
use Rattle.tl_values.specs.Parameters.{without_parameters}
use Rattle.tl_values.specs.Values.{replaced}
use Rattle.tl_values.specs.Words.{with_word, without_word}
use Rattle.tl_values.specs.declared.rewrite.Rewrite.{Rewrite}
use Rattle.tl_values.specs.declared.rewrite.Rewrite.TheVariants.{Absolute, AddWord, CopyOf, DropQuery, FromText, Pattern, Prefix, RemoveWord, Replace, Suffix}

-- what is made of a value; what patterns, URLs and texts make is said apart (`NewValues`)
abbrev pub made_of : Rewrite → List ℕ → List ℕ
made_of (Prefix text) value = text.now ++ value
made_of (Suffix text) value = value ++ text.now
made_of (AddWord word) value = with_word word.now value
made_of (RemoveWord word) value = without_word word.now value
made_of (Replace sought put) value = replaced sought.now put.now value
made_of (CopyOf key) value = value
made_of (DropQuery names) value = without_parameters names.now value
made_of (Pattern pattern) value = value
made_of (Absolute own) value = value
made_of FromText value = value

-- the value of which that of a key is made: the one that stands there, if one does; of a word more
-- an empty one where none stands, of a copy that of the other key
abbrev pub source_of : Rewrite → List ℕ → List dom.Attribute → Option (List ℕ)
source_of (AddWord word) key own = Some (unwrap_or (value_at key own) [])
source_of (CopyOf other) key own = value_at (string_bytes other) own
source_of _ key own = value_at key own

-- the value that a key gets in a tag with these attributes, if it gets one
abbrev pub new_value : Rewrite → List ℕ → List dom.Attribute → Option (List ℕ)
new_value rewrite key own = option_map (made_of rewrite) (source_of rewrite key own)
