use Rattle.std.proofs.Common.{◌≡◌}
use Rattle.std.proofs.lemmas.List.{take_rest}
use Rattle.tl_diff.proofs.LineLists.{ended, if_none, stepped, within}
use Rattle.tl_diff.proofs.script.changes.Goals as goal

pub loop-change-preserved : goal.loop-change-preserved
loop-change-preserved c = record {
  in_old = within c.loop-change.from _ c.args.old.now _ (take_rest c.args.old.now c.loop-change.from) c.loop-change.invariant.in_old c.in-Some.ensures.left;
  in_new = within c.loop-change.to _ c.args.new.now _ (take_rest c.args.new.now c.loop-change.to) c.loop-change.invariant.in_new c.in-Some.ensures.right;
  so_far = stepped c.loop-change.changes.items c.push.new.self.items c.in-Some.change c.args.old.now c.args.new.now _ _ c.loop-change.from c.loop-change.to
      (take_rest c.args.old.now c.loop-change.from) (take_rest c.args.new.now c.loop-change.to) c.loop-change.invariant.so_far c.in_ok-push.ensures.items c.in-Some.ensures.same
      c.in-Some.ensures.left c.in-Some.ensures.right;
}

pub returns : goal.returns
returns c =
    ended c.loop-change.changes.items c.args.old.now c.args.new.now _ _ c.loop-change.from c.loop-change.to (take_rest c.args.old.now c.loop-change.from) (take_rest c.args.new.now c.loop-change.to)
    c.loop-change.invariant.so_far (if_none c.next_change.result _ c.in_default.not-Some c.next_change.ensures.none)
