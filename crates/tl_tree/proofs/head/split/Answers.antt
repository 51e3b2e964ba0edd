use Rattle.std.proofs.Common.{List, sym, ◌<◌, subst, ◌∙◌}
use Rattle.tl_tree.proofs.HeadRows.{last-within, no-nodes, split-head, split-none}
use Rattle.tl_tree.specs.Inner.Heads.{IsSplit, front_weight}
use Rattle.tl_tree.specs.declared.cell.Node.{Node}
use Rattle.tl_tree.specs.Inner.Store.{nodes_of}
use Rattle.tl_tree.proofs.head.split.Goals as goal

pub loop-node-init : goal.loop-node-init
loop-node-init c =
    split-none c.args.store.now c.args.row c.new-front.result.items c.push.new.self.items c.new-behind.result.items c.requires c.new-front.ensures.items c.in_ok-push.ensures.items c.new-behind.ensures.items

pub head_of-head-requires : goal.head_of-head-requires
head_of-head-requires c =
    let s = c.args.store.now in
    last-within s (nodes_of s c.args.row) c.loop-node.front.items c.pop.new.self.items c.loop-node.behind.items c.in-Some.node c.in-Some.ensures.items c.loop-node.invariant

pub returns-then-is_some : goal.returns-then-is_some
returns-then-is_some c =
    let s = c.args.store.now in
    split-head s (nodes_of s c.args.row) c.loop-node.front.items c.pop.new.self.items c.loop-node.behind.items c.in-Some.node c.head_of-head.result (sym c.is_some.ensures ∙ c.if-is_some.true) c.head_of-head.ensures.node c.head_of-head.ensures.is c.in-Some.ensures.items c.loop-node.invariant

pub turn-requires-clause-node : goal.turn-requires-clause-node
turn-requires-clause-node c =
    let s = c.args.store.now in
    last-within s (nodes_of s c.args.row) c.loop-node.front.items c.pop.new.self.items c.loop-node.behind.items c.in-Some.node c.in-Some.ensures.items c.loop-node.invariant

pub loop-node-smaller : goal.loop-node-smaller
loop-node-smaller c =
    let s = c.args.store.now in
    subst (λ (all : List Node). front_weight s c.turn.new.front.items < front_weight s all) (sym c.in-Some.ensures.items) c.in_ok-turn.ensures.less

pub loop-node-preserved : goal.loop-node-preserved
loop-node-preserved c =
    let s = c.args.store.now in
    c.in_ok-turn.ensures.split (nodes_of s c.args.row)
    (subst (λ (all : List Node). IsSplit s (nodes_of s c.args.row) all c.loop-node.behind.items) c.in-Some.ensures.items c.loop-node.invariant)

pub returns : goal.returns
returns c =
    let s = c.args.store.now in
    let none = no-nodes c.loop-node.front.items c.loop-node.front.len (sym c.loop-node.front.ok.0) c.in_default.ensures.cases.0 in
    subst (λ (all : List Node). IsSplit s (nodes_of s c.args.row) all c.loop-node.behind.items) none c.loop-node.invariant
