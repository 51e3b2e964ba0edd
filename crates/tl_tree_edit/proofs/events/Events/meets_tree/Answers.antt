use Rattle.std.proofs.Common.{Some, false, subst, true, ◌∙◌}
use Rattle.tl_tree.specs.TreeView.{rows_in}
use Rattle.tl_tree_edit.proofs.Following.{follows_then}
use Rattle.tl_tree_edit.specs.Events.{events}
use Rattle.tl_tree_edit.specs.Inner.Walk.{IsNext, left}
use Rattle.tl_tree.specs.declared.tree.Tree.{Tree}
use Rattle.tl_tree_edit.proofs.events.Events.meets_tree.Goals as goal

pub returns-then-not-branch-clause-met : goal.returns-then-not-branch-clause-met
returns-then-not-branch-clause-met c =
    let i = c.loop-events.invariant in
    let next = subst (λ (tree : Tree). IsNext (rows_in tree) (left c.loop-events.events) (left c.next.new.self) (Some c.in-Some.event)) i.own (rw c.in-Some.is at c.in_ok-event.ensures.next) in
    let met = rw c.if-not-branch.true at (c.in_ok-meets.ensures.met (left c.loop-events.events) (left c.next.new.self) next) in
    follows_then (events (rows_in c.args.trees.now)) (left c.loop-events.events) (left c.next.new.self) (left c.args.self.now) (left c.loop-events.self) (left c.meets.new.self) false i.met met

pub loop-events-preserved : goal.loop-events-preserved
loop-events-preserved c =
    let i = c.loop-events.invariant in
    let next = subst (λ (tree : Tree). IsNext (rows_in tree) (left c.loop-events.events) (left c.next.new.self) (Some c.in-Some.event)) i.own (rw c.in-Some.is at c.in_ok-event.ensures.next) in
    let met = rw c.if-not-branch.false at (c.in_ok-meets.ensures.met (left c.loop-events.events) (left c.next.new.self) next) in
    record {
      met = follows_then (events (rows_in c.args.trees.now)) (left c.loop-events.events) (left c.next.new.self) (left c.args.self.now) (left c.loop-events.self) (left c.meets.new.self) true i.met met;
      tree = c.in_ok-meets.ensures.tree ∙ i.tree;
      own = c.in_ok-event.ensures.tree ∙ i.own;
    }
