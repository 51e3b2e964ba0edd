use Rattle.std.proofs.Common.{◌≡◌, ◌+◌, ◌++◌, length}
use Rattle.std.specs.List.{filter}
use Rattle.std.specs.Option.{option_map_or}
use Rattle.tl_safe_fit.specs.Words.{words_of}
use Rattle.tl_tree_safe.specs.Characters.{is_word}
use Rattle.tl_tree_safe.specs.ListOptions.{words_in, remaining_words}
use Rattle.tl_tree_safe.proofs.word_lists.split_words.Given as goal

-- the words so far, and then those of what is left, are those of the text
abbrev pub invariant-loop-rest : goal.invariant-loop-rest
invariant-loop-rest l = words_in l.text ≡ words_of l.found.items ++ filter is_word (remaining_words l.rest)

abbrev pub decreases-loop-rest : goal.decreases-loop-rest
decreases-loop-rest l = option_map_or (λ r. length r.now + 1) l.rest 0
