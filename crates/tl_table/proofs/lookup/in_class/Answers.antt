use Rattle.std.proofs.Common.{map, length, arith}
use Rattle.std.proofs.lemmas.List.{length-map}
use Rattle.tl_spec.specs.Lookup.Scan.{is_in_class}
use Rattle.tl_table.proofs.Places.{places-below}
use Rattle.tl_table.proofs.lookup.in_class.Goals as goal

pub returns-clause-within : goal.returns-clause-within
returns-clause-within g c =
    let node = g.N.Element.node in
    let nodes = c.args.nodes.now in
    places-below (is_in_class c.args.class.now) 0 (length nodes) (map node nodes) (omega (arith, length-map nodes node))
