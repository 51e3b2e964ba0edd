use Rattle.std.proofs.Common.{drop, ◌+◌, ◌≡◌}
use Rattle.std.specs.List.{prefix_len}
use Rattle.tl_tree_extract.specs.Flowing.{is_white}
use Rattle.tl_tree_extract.proofs.text.flow.white_len.Given as goal

abbrev pub invariant-loop-len : goal.invariant-loop-len
invariant-loop-len l =
    prefix_len is_white l.text ≡ l.len + prefix_len is_white (drop l.len l.text)
