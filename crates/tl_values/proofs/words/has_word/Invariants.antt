use Rattle.std.proofs.Common.{◌≡◌}
use Rattle.std.specs.List.{list_any}
use Rattle.std.specs.Str.{bytes_eq}
use Rattle.tl_values.specs.Words.{has_word}
use Rattle.tl_values.proofs.words.has_word.Given as goal

-- the value has the word if it is among those that are left
abbrev pub invariant-loop-own : goal.invariant-loop-own
invariant-loop-own l =
    has_word l.word l.value ≡ list_any (λ own. bytes_eq own l.word) l.own-iterator
