use Rattle.std.proofs.Common.{◌≡◌, Some}
use Rattle.bstr.specs.Utf8.{lossy_chars}
use Rattle.tl_selector.specs.LossyChars.{scan}
use Rattle.tl_selector.proofs.attr_value.is_among_words.Given as goal

abbrev pub invariant-loop-c : goal.invariant-loop-c
invariant-loop-c l =
    (goal.iterator-loop-c).can_next l.c-iterator × (goal.iterator-loop-c).is_finite l.c-iterator
    × (scan (lossy_chars l.word) l.left l.c-iterator ≡ scan (lossy_chars l.fn.word) (Some (lossy_chars l.fn.word)) (lossy_chars l.fn.value))
