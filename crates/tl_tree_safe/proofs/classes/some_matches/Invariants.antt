use Rattle.std.proofs.Common.{drop, ◌≡◌}
use Rattle.tl_safe_fit.specs.Words.{words_of}
use Rattle.tl_tree_safe.specs.Classes.{some_matches}
use Rattle.tl_tree_safe.proofs.classes.some_matches.Given as goal

abbrev pub invariant-loop-pattern : goal.invariant-loop-pattern
invariant-loop-pattern l = some_matches (words_of l.patterns) l.word ≡ some_matches (words_of (drop l.pattern-index l.patterns)) l.word
