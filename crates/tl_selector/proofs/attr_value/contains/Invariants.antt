use Rattle.std.proofs.Common.{◌≡◌, length}
use Rattle.bstr.specs.Utf8.{lossy_chars}
use Rattle.tl_selector.specs.LossyChars.{has_part}
use Rattle.tl_selector.proofs.attr_value.contains.Given as goal

abbrev pub invariant-places : goal.invariant-places
invariant-places l = has_part (lossy_chars l.rest) (lossy_chars l.part) ≡ has_part (lossy_chars l.fn.value) (lossy_chars l.fn.part)

abbrev pub decreases-places : goal.decreases-places
decreases-places l = length (lossy_chars l.rest)
