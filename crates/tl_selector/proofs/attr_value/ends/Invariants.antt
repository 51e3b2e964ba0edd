use Rattle.std.proofs.Common.{◌≡◌, length, reverse}
use Rattle.bstr.specs.Utf8.{lossy_chars}
use Rattle.tl_selector.specs.LossyChars.{begins}
use Rattle.tl_selector.proofs.attr_value.ends.Given as goal

abbrev pub invariant-left : goal.invariant-left
invariant-left l = begins (reverse l.chars) (reverse l.left) ≡ begins (reverse (lossy_chars l.fn.value)) (reverse (lossy_chars l.fn.back))

abbrev pub decreases-left : goal.decreases-left
decreases-left l = length l.left
