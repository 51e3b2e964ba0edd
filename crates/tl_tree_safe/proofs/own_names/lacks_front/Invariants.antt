use Rattle.std.proofs.Common.{drop, not, ◌≡◌}
use Rattle.std.specs.List.{list_all}
use Rattle.tl_tree_safe.specs.Characters.{is_space}
use Rattle.tl_tree_safe.proofs.own_names.lacks_front.Given as goal

-- no white space so far
abbrev pub invariant-loop-byte : goal.invariant-loop-byte
invariant-loop-byte l =
    list_all (λ b. not (is_space b)) l.text ≡ list_all (λ b. not (is_space b)) (drop l.byte-index l.text)
