use Rattle.std.proofs.Common.{◌≡◌, drop}
use Rattle.tl_safe_fit.specs.Words.{words_of}
use Rattle.tl_tree_safe.specs.ListOptions.{has_rel}
use Rattle.tl_tree_safe.proofs.word_lists.has_rel.Given as goal

abbrev pub invariant-loop-key : goal.invariant-loop-key
invariant-loop-key l = has_rel (words_of l.keys) ≡ has_rel (words_of (drop l.key-index l.keys))
