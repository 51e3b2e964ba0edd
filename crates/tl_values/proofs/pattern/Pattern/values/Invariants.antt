use Rattle.std.proofs.Common.{◌≡◌, map, take}
use Rattle.regex.specs.Bytes.{matcher_pattern, regex_pattern}
use Rattle.tl_tree.specs.TreeView.{rows_in}
use Rattle.tl_values.specs.NewValues.{each_got, got, pattern_got}
use Rattle.tl_values.proofs.pattern.Pattern.values.Given as goal

-- the values are those of the nodes so far, and what searches is that of the pattern
abbrev pub invariant-loop-number : goal.invariant-loop-number
invariant-loop-number l = record {
  so_far : map got l.values.items ≡ each_got (pattern_got l.self l.key (rows_in l.tree)) (take l.number-index l.numbers);
  same : matcher_pattern l.matcher ≡ regex_pattern l.self.regex;
}
