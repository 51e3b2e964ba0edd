use Rattle.std.proofs.Common.{false, length, ◌≡◌}
use Rattle.tl_tree_safe.specs.Lists.{all_begin}
use Rattle.tl_tree_safe.proofs.own_names.all_begin.Given as goal

abbrev pub invariant-loop-rest : goal.invariant-loop-rest
invariant-loop-rest l = all_begin l.prefix false l.text ≡ all_begin l.prefix l.in_word l.rest

abbrev pub decreases-loop-rest : goal.decreases-loop-rest
decreases-loop-rest l = length l.rest
