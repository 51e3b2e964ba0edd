use Rattle.std.proofs.Common.{◌∙◌}
use Rattle.std.proofs.lemmas.List.{drop_more}
use Rattle.tl_tree_edit.proofs.Following.{text_met}
use Rattle.tl_tree_edit.specs.Inner.Walk.{left}
use Rattle.tl_tree_edit.proofs.events.Events.meets_bytes.Goals as goal

pub loop-byte-preserved : goal.loop-byte-preserved
loop-byte-preserved c =
    let own = c.in_ok-meets_byte.ensures in
    let met = rw c.if-not-branch.false at own.met in
    record {
      met = text_met c.args.bytes.now c.loop-byte.byte-index _ (left c.args.self.now) (left c.loop-byte.self) (left c.meets_byte.new.self) (drop_more c.args.bytes.now c.loop-byte.byte-index _ c.loop-byte-test.true) c.loop-byte.invariant.met met;
      tree = own.tree ∙ c.loop-byte.invariant.tree;
    }
