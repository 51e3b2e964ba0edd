use Rattle.std.proofs.Common.{filter, take, ◌≡◌}
use Rattle.regex.specs.Bytes.{matcher_pattern, regex_pattern}
use Rattle.tl_answers.specs.Uncommented.{is_matched}
use Rattle.tl_tree.specs.TreeView.{rows_in}
use Rattle.tl_answers.proofs.uncommented.matched.Given as goal

-- those of the comments so far
abbrev pub invariant-loop-number : goal.invariant-loop-number
invariant-loop-number l = record {
  same : matcher_pattern l.matcher ≡ regex_pattern l.regex;
  found : l.left.items ≡ filter (is_matched l.regex (rows_in l.tree)) (take l.number-index l.numbers);
}
