use Rattle.std.proofs.Common.{◌≡◌, length}
use Rattle.tl_css.specs.TextView.{without}
use Rattle.tl_css.proofs.text.run.after_bytes.Given as goal

abbrev pub invariant-bytes : goal.invariant-bytes
invariant-bytes l = without l.left l.wanted ≡ without l.bytes l.word

abbrev pub decreases-bytes : goal.decreases-bytes
decreases-bytes l = length l.left
