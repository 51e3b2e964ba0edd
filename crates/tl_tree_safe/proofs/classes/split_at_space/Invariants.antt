use Rattle.std.proofs.Common.{All, false, take, ◌≡◌}
use Rattle.tl_tree_safe.specs.Characters.{is_space}
use Rattle.tl_tree_safe.proofs.classes.split_at_space.Given as goal

-- no white space so far
abbrev pub invariant-loop-at : goal.invariant-loop-at
invariant-loop-at l = All (λ x. is_space x ≡ false) (take l.at l.value)
