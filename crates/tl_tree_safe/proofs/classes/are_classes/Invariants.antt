use Rattle.std.proofs.Common.{◌+◌, ◌≡◌, length}
use Rattle.std.specs.List.{list_all}
use Rattle.std.specs.Option.{option_map_or}
use Rattle.tl_safe_fit.specs.Words.{words_of}
use Rattle.tl_tree_safe.specs.Classes.{class_words, is_class_of}
use Rattle.tl_tree_safe.specs.Inner.Classes.{words_left}
use Rattle.tl_tree_safe.proofs.classes.are_classes.Given as goal

-- no word so far is another one
abbrev pub invariant-loop-rest : goal.invariant-loop-rest
invariant-loop-rest l =
    list_all (is_class_of (words_of l.patterns)) (class_words l.value)
    ≡ list_all (is_class_of (words_of l.patterns)) (words_left l.rest)

abbrev pub decreases-loop-rest : goal.decreases-loop-rest
decreases-loop-rest l = option_map_or (λ r. length r.now + 1) l.rest 0
