use Rattle.std.proofs.Common.{◌<◌, Ok, length, map, ap, ◌∙◌, arith}
use Rattle.std.proofs.lemmas.List.{length-map}
use Rattle.tl_table.proofs.Way.{boundaries-inside}
use Rattle.tl_table.proofs.range.range.Goals as goal

pub returns-then-from-to-clause-within : goal.returns-then-from-to-clause-within
returns-then-from-to-clause-within g c =
    let nodes = map g.N.Element.node c.args.nodes.now in
    let inside : c.in-Some.to < length nodes =
    boundaries-inside nodes c.in-Some.to c.args.first c.args.last c.in-Some.from (c.in_ok-from.ensures.boundaries ∙ ap Ok c.in-Some.is) in
    (omega (arith, c.if-from-to.true), omega (arith, inside, length-map c.args.nodes.now g.N.Element.node))
