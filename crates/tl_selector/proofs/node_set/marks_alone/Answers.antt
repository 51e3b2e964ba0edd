use Rattle.std.proofs.Common.{arith, map}
use Rattle.std.specs.Option.{option_copied}
use Rattle.std.proofs.lemmas.List.{length-map}
use Rattle.tl_selector.specs.View.{selector}
use Rattle.tl_selector.proofs.Marked.{marks_without}
use Rattle.tl_selector.proofs.node_set.marks_alone.Goals as goal

pub returns : goal.returns
returns g c none =
    let nodes = map g.N.Element.node c.args.nodes.now in
    let all = c.loop-number-test.false in
    let end = c.loop-number.auto in
    let same = length-map c.args.nodes.now g.N.Element.node in
    let w = c.loop-number.invariant.len in
    marks_without (option_copied c.args.among) (selector c.args.e.now) none nodes c.loop-number.marks.items (omega (arith, all, end, same, w)) (λ n h. c.loop-number.invariant.held n (omega (arith, all, same)))
