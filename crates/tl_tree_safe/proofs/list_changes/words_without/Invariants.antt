use Rattle.std.proofs.Common.{drop, ◌++◌, ◌≡◌}
use Rattle.tl_safe_fit.specs.Words.{words_of}
use Rattle.tl_tree_safe.specs.ListOptions.{words_without}
use Rattle.tl_tree_safe.proofs.list_changes.words_without.Given as goal

abbrev pub invariant-loop-other : goal.invariant-loop-other
invariant-loop-other l =
    words_without (words_of l.own) l.word ≡ words_of l.found.items ++ words_without (words_of (drop l.other-index l.own)) l.word
