use Rattle.std.proofs.Common.{drop, ◌+◌, ◌≡◌}
use Rattle.std.specs.Char.{is_ascii_whitespace}
use Rattle.std.specs.List.{prefix_len}
use Rattle.tl_tree.proofs.words.white_len.Given as goal

abbrev pub invariant-loop-len : goal.invariant-loop-len
invariant-loop-len l =
    prefix_len is_ascii_whitespace l.bytes ≡ l.len + prefix_len is_ascii_whitespace (drop l.len l.bytes)
