use Rattle.std.proofs.Common.{get_or, refl}
use Rattle.tl_tree.proofs.Grown.{grows_trans}
use Rattle.tl_tree.proofs.HeadRows.{listed-more}
use Rattle.tl_tree.specs.Inner.Store.{nodes_of}
use Rattle.tl_tree.specs.declared.cell.Node.TheVariants.{Text}
use Rattle.tl_tree.proofs.head.add_all.Goals as goal

pub loop-node-preserved : goal.loop-node-preserved
loop-node-preserved c = record {
  stands =
      let s = c.args.store.now in
      let node = get_or c.args.nodes.now c.loop-node.node-index (Text (record { span = record { start = 0; len = 0 }; source = 0 })) in
      listed-more s c.loop-node.store c.loop-node.invariant.grows (nodes_of s c.args.row) c.args.nodes.now c.loop-node.node-index node (Text (record { span = record { start = 0; len = 0 }; source = 0 })) c.requires.nodes refl c.loop-node-test.true c.loop-node.end c.in_ok-end.end c.add.new.self c.loop-node.invariant.stands c.in_ok-end.ensures.stands;
  within = c.in_ok-end.ensures.within;
  grows = grows_trans c.args.store.now c.loop-node.store c.add.new.self c.loop-node.invariant.grows c.add.ensures.grows;
}
