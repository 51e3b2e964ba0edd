use Rattle.std.proofs.Common.{◌≡◌}
use Rattle.std.specs.Option.{option_copied}
use Rattle.tl_tree.specs.Sources.{source_at}
use Rattle.tl_tree.specs.TreeView.{rows_in}
use Rattle.tl_tree_extract.specs.Inner.Sinks.{after}
use Rattle.tl_tree_extract.specs.Json.{rows_tokens}
use Rattle.tl_tree_extract.proofs.node_json.write_rows.Given as goal

abbrev pub invariant-loop-count : goal.invariant-loop-count
invariant-loop-count g l = record {
  adds : g.S.Sink.taken l.out ≡ after (rows_tokens (option_copied l.file) (source_at l.tree) (rows_in l.tree) l.first l.count) (g.S.Sink.taken l.fn.out);
  keeps : g.S.Sink.kept l.out ≡ g.S.Sink.kept l.fn.out;
}
