use Rattle.std.proofs.Common.{None, take, ◌≡◌}
use Rattle.std.specs.Prelude.{flat_map}
use Rattle.tl_tree.specs.Sources.{source_at}
use Rattle.tl_tree.specs.TreeView.{rows_in}
use Rattle.tl_tree_extract.specs.Inner.Sinks.{after}
use Rattle.tl_tree_extract.specs.Json.{object_tokens}
use Rattle.tl_tree_extract.proofs.json_array.put_each.Given as goal

abbrev pub invariant-loop-number : goal.invariant-loop-number
invariant-loop-number g l = record {
  adds : g.S.Sink.taken l.out ≡ after (flat_map (object_tokens l.form None (source_at l.tree) (rows_in l.tree)) (take l.number-index l.numbers)) (g.S.Sink.taken l.fn.out);
  keeps : g.S.Sink.kept l.out ≡ g.S.Sink.kept l.fn.out;
}
