-- What a regular expression puts in the place of each match.
use Rattle.regex.specs.Bytes.{regex_names, regex_pattern, regex_source}
use Rattle.regex.specs.Patterns.{find_all}
use Rattle.regex.specs.Replace.{group_bytes, replaced_by}
use Rattle.regex.specs.Templates.{written_after}
use Rattle.std.specs.Prelude.{List, ℕ, ◌≡◌}
use Rattle.tl_values.specs.declared.pattern.Pattern.{Pattern}

-- the value in which at each match stands what the text says, with the groups of the match
abbrev pub replaced_by_pattern : Pattern → List ℕ → List ℕ
replaced_by_pattern p value =
    replaced_by
    (λ m. written_after (regex_names p.regex) (group_bytes value m) p.put.now 0)
    value
    0
    (find_all (regex_pattern p.regex) value)

-- the pattern is that of these texts
pub record IsFrom (source put : List ℕ) (p : Pattern) : Type 0 where
  pub source_is : regex_source p.regex ≡ source
  pub put_is : p.put.now ≡ put
