use Rattle.std.proofs.Common.{IsTrue, length, take, ◌≤◌}
use Rattle.tl_html_spec.specs.Balanced.{words}
use Rattle.tl_tree.proofs.Skipped.{is_called}
use Rattle.tl_tree.specs.Inner.Limits.{none_from}
use Rattle.tl_tree.specs.Inner.NameLists.{list_of}
use Rattle.tl_tree.proofs.path.FramePath.names_limit.Given as goal

abbrev pub invariant-loop-name : goal.invariant-loop-name
invariant-loop-name l = record {
  bound : l.limit ≤ length l.self.frames.items;
  skips : IsTrue (none_from (is_called (take l.name-index (words (list_of l.fn.names)))) l.self l.limit);
}
