use Rattle.std.proofs.Common.{◌≡◌}
use Rattle.std.specs.Prelude.{flat_map}
use Rattle.tl_tree.specs.Asked.{attributes_at}
use Rattle.tl_tree.specs.TreeView.{rows_in}
use Rattle.tl_tree_extract.specs.Inner.Sinks.{after}
use Rattle.tl_tree_extract.specs.Json.{attribute_member}
use Rattle.tl_tree_extract.proofs.json_member.put_each.Given as goal

-- what is taken, and then the attributes that are left, is all
abbrev pub invariant-loop-attribute : goal.invariant-loop-attribute
invariant-loop-attribute g l = record {
  adds :
      after (flat_map attribute_member l.attribute-iterator) (g.S.Sink.taken l.out)
      ≡ after (flat_map attribute_member (attributes_at (rows_in l.tree) l.node)) (g.S.Sink.taken l.fn.out);
  keeps : g.S.Sink.kept l.out ≡ g.S.Sink.kept l.fn.out;
}
