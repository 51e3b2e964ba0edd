use Rattle.std.proofs.Common.{false, length, ◌++◌, ◌≡◌}
use Rattle.tl_tree_safe.specs.Values.{prefixed}
use Rattle.tl_tree_safe.proofs.own_names.write_words.Given as goal

-- what is written, and then what is left, is the whole
abbrev pub invariant-loop-rest : goal.invariant-loop-rest
invariant-loop-rest l =
    l.fn.out.items ++ prefixed l.prefix false l.text ≡ l.out.items ++ prefixed l.prefix l.in_word l.rest

abbrev pub decreases-loop-rest : goal.decreases-loop-rest
decreases-loop-rest l = length l.rest
