use Rattle.std.proofs.Common.{◌≡◌, length, codes}
use Rattle.tl_spec.specs.Lex.Runs.{after_needle}
use Rattle.tl_css.proofs.text.gap.after_end.Given as goal

abbrev pub invariant-bytes : goal.invariant-bytes
invariant-bytes l = after_needle (codes "*/") l.left ≡ after_needle (codes "*/") l.s

abbrev pub decreases-bytes : goal.decreases-bytes
decreases-bytes l = length l.left
