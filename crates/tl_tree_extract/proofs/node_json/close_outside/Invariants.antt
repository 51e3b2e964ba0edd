use Rattle.std.proofs.Common.{◌≡◌}
use Rattle.tl_tree.specs.Asked.{ancestors_at}
use Rattle.tl_tree.specs.TreeView.{rows_in}
use Rattle.tl_tree_extract.specs.Inner.Sinks.{after}
use Rattle.tl_tree_extract.specs.Json.{closed_outside}
use Rattle.tl_tree_extract.proofs.node_json.close_outside.Given as goal

-- what is taken, and then what is left to close, is all
abbrev pub invariant-loop-outer : goal.invariant-loop-outer
invariant-loop-outer g l = record {
  adds :
      after (closed_outside (rows_in l.tree) l.first l.next l.outer-iterator) (g.S.Sink.taken l.out)
      ≡ after (closed_outside (rows_in l.tree) l.first l.next (ancestors_at (rows_in l.tree) l.number)) (g.S.Sink.taken l.fn.out);
  keeps : g.S.Sink.kept l.out ≡ g.S.Sink.kept l.fn.out;
}
