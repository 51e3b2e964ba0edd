-- What a template writes, in the words of its text.
use Rattle.std.proofs.Common.{List, ap, ℕ, ◌∙◌, ◌≡◌}
use Rattle.regex.specs.Bytes.{regex_names, regex_pattern, IsWrittenBy}
use Rattle.regex.specs.Patterns.{Match, find_all}
use Rattle.regex.specs.Replace.{group_bytes, replaced_by}
use Rattle.regex.specs.Templates.{written_after}
use Rattle.tl_values.specs.Patterns.{replaced_by_pattern}
use Rattle.tl_values.specs.declared.pattern.Pattern.{Pattern}

pub by-pattern : (p : Pattern) (value out : List ℕ) (found : List Match) → found ≡ find_all (regex_pattern p.regex) value →
    IsWrittenBy p.template value found out → out ≡ replaced_by_pattern p value
by-pattern p value out found e written =
    written.read (regex_names p.regex) p.put.now p.read
    ∙ ap (replaced_by (λ m. written_after (regex_names p.regex) (group_bytes value m) p.put.now 0) value 0) e
