use Rattle.std.proofs.Common.{◌≡◌, ◌++◌, drop, string_bytes}
use Rattle.tl_safe_fit.specs.Words.{words_of}
use Rattle.tl_tree_safe.specs.ListOptions.{after_commas}
use Rattle.tl_tree_safe.proofs.word_lists.write_line.Given as goal

-- what is written, and then the words that are left
abbrev pub invariant-loop-word : goal.invariant-loop-word
invariant-loop-word l =
    string_bytes l.out ++ after_commas (words_of (drop l.word-index l.others))
    ≡ string_bytes l.initial.out ++ after_commas (words_of l.others)
