use Rattle.std.proofs.Common.{drop, ◌+◌, ◌≡◌}
use Rattle.std.specs.List.{prefix_len}
use Rattle.tl_tree_extract.specs.Inner.Runs.{is_plain}
use Rattle.std.proofs.Common.{false}
use Rattle.tl_tree_extract.proofs.text.flow.word_len.Given as goal

abbrev pub invariant-loop-len : goal.invariant-loop-len
invariant-loop-len l =
    prefix_len (is_plain false) l.text ≡ l.len + prefix_len (is_plain false) (drop l.len l.text)
