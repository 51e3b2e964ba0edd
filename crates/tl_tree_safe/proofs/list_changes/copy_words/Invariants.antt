use Rattle.std.proofs.Common.{◌≡◌, ◌++◌, drop}
use Rattle.tl_safe_fit.specs.Words.{words_of}
use Rattle.tl_tree_safe.proofs.list_changes.copy_words.Given as goal

-- the words so far, and then those that are left
abbrev pub invariant-loop-word : goal.invariant-loop-word
invariant-loop-word l = words_of l.own ≡ words_of l.found.items ++ words_of (drop l.word-index l.own)
