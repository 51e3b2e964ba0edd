use Rattle.std.proofs.Common.{refl, sym}
use Rattle.tl_spec.proofs.Tree.Writes.{adopted-written}
use Rattle.tl.specs.View.{node_view}
use Rattle.tl.specs.Builder.{state_of}
use Rattle.tl.proofs.Building.{held_written, innermost_within}
use Rattle.tl.proofs.parser.builder.TableBuilder.append_child.Goals as goal

pub returns-in_ok-push_child-in-Some-clause-ok : goal.returns-in_ok-push_child-in-Some-clause-ok
returns-in_ok-push_child-in-Some-clause-ok c =
    let b = c.args.self.now in
    let within = innermost_within _ b.open_tags.items c.in-Some.parent b.in_table c.in-Some.ensures in
    adopted-written node_view c.args.node c.in-Some.parent (state_of b) b.nodes.items c.index_mut.result.now c.push_child.new.self refl (sym c.in-Some.ensures) within c.index_mut.ensures.value c.in_ok-push_child-in-Some.ensures.ok

pub returns-in_ok-push_child-in-Some-clause-held : goal.returns-in_ok-push_child-in-Some-clause-held
returns-in_ok-push_child-in-Some-clause-held c held =
    let b = c.args.self.now in
    let within = innermost_within _ b.open_tags.items c.in-Some.parent b.in_table c.in-Some.ensures in
    held_written held b.nodes.items c.in-Some.parent c.index_mut.result.now c.push_child.new.self within c.index_mut.ensures.value (c.in_ok-push_child-in-Some.ensures.held held)
