use Rattle.std.proofs.Common.{◌≡◌, length}
use Rattle.tl_css.specs.Lexical.{is_word}
use Rattle.tl_css.proofs.text.run.is_word.Given as goal

abbrev pub invariant-parts : goal.invariant-parts
invariant-parts l = is_word l.left l.wanted ≡ is_word l.s l.word

abbrev pub decreases-parts : goal.decreases-parts
decreases-parts l = length l.left
