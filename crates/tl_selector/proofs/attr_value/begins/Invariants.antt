use Rattle.std.proofs.Common.{◌≡◌}
use Rattle.bstr.specs.Utf8.{lossy_chars}
use Rattle.tl_selector.specs.LossyChars.{begins}
use Rattle.tl_selector.proofs.attr_value.begins.Given as goal

abbrev pub invariant-loop-c : goal.invariant-loop-c
invariant-loop-c l =
    (goal.iterator-loop-c).can_next l.c-iterator × (goal.iterator-loop-c).is_finite l.c-iterator
    × (begins l.chars l.c-iterator ≡ begins (lossy_chars l.fn.value) (lossy_chars l.fn.front))
