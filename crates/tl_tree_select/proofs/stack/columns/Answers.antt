use Rattle.std.proofs.Common.{◌≡◌, [], arith, rules, ap, take}
use Rattle.tl_css.specs.Program.{waiting_after}
use Rattle.tl_tree_select.specs.Page.{seen}
use Rattle.tl_tree_select.specs.Inner.Columns.{columns_of}
use Rattle.tl_tree_select.proofs.Pushes.{columns_none, columns_next, columns_end}
use Rattle.tl_tree_select.proofs.stack.columns.Goals as goal

pub loop-step-init : goal.loop-step-init
loop-step-init c =
    let none : c.new-columns.result.items ≡ [] = search rules in
    columns_none (seen c.args.page.now) (columns_of c.new-columns.result.items) (ap columns_of none)

pub loop-step-preserved : goal.loop-step-preserved
loop-step-preserved c =
    let page = seen c.args.page.now in
    let steps = c.args.steps.now in
    let i = c.loop-step.step-index in
    columns_next page steps i c.step-item.result (columns_of c.in_ok-columns.columns.items) (omega arith) c.step-item.is
    (c.in_ok-columns.ensures (waiting_after (take i steps)) c.loop-step.invariant)

pub returns : goal.returns
returns c = columns_end (seen c.args.page.now) c.args.steps.now c.loop-step.step-index (columns_of c.loop-step.columns.items) (omega arith) c.loop-step.invariant
