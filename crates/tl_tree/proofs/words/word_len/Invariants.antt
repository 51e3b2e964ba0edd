use Rattle.std.proofs.Common.{drop, not, ◌+◌, ◌≡◌}
use Rattle.std.specs.Char.{is_ascii_whitespace}
use Rattle.std.specs.List.{prefix_len}
use Rattle.tl_tree.proofs.words.word_len.Given as goal

abbrev pub invariant-loop-len : goal.invariant-loop-len
invariant-loop-len l =
    prefix_len (λ b. not (is_ascii_whitespace b)) l.bytes ≡ l.len + prefix_len (λ b. not (is_ascii_whitespace b)) (drop l.len l.bytes)
