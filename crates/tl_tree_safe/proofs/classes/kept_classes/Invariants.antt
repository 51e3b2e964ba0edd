use Rattle.std.proofs.Common.{◌+◌, ◌++◌, ◌≡◌, length}
use Rattle.std.specs.List.{filter}
use Rattle.std.specs.Option.{option_map_or}
use Rattle.tl_safe_fit.specs.Words.{words_of}
use Rattle.tl_tree_safe.specs.Classes.{is_class_of, kept_classes}
use Rattle.tl_tree_safe.specs.Inner.Classes.{spaced_words, words_left}
use Rattle.tl_tree_safe.proofs.classes.kept_classes.Given as goal

-- the words so far, and then those of what is left
abbrev pub invariant-loop-rest : goal.invariant-loop-rest
invariant-loop-rest l =
    kept_classes (words_of l.patterns) l.value
    ≡ l.kept.items ++ spaced_words l.is_first (filter (is_class_of (words_of l.patterns)) (words_left l.rest))

abbrev pub decreases-loop-rest : goal.decreases-loop-rest
decreases-loop-rest l = option_map_or (λ r. length r.now + 1) l.rest 0
