use Rattle.std.proofs.Common.{◌≡◌}
use Rattle.bstr.specs.Utf8.{lossy_chars}
use Rattle.tl_selector.specs.LossyChars.{same}
use Rattle.tl_selector.proofs.attr_value.same.Given as goal

abbrev pub invariant-loop-c : goal.invariant-loop-c
invariant-loop-c l =
    (goal.iterator-loop-c).can_next l.c-iterator × (goal.iterator-loop-c).is_finite l.c-iterator
    × (same l.chars l.c-iterator ≡ same (lossy_chars l.fn.value) (lossy_chars l.fn.other))
