use Rattle.std.proofs.Common.{refl}
use Rattle.std.proofs.lemmas.Result.{on_ok_weaker}
use Rattle.tl_dom_spec.specs.Path.{with_nodes}
use Rattle.tl_tree.proofs.Numbered.{absent-number, found-within, number-changed}
use Rattle.tl_tree.specs.Inner.Store.{node_of}
use Rattle.tl_tree.proofs.path.FramePath.put_into.Goals as goal

pub put_inside-requires-clause-index : goal.put_inside-requires-clause-index
put_inside-requires-clause-index c =
    found-within c.args.self.now.frames.items c.in-Some.index c.args.number c.in-Some.ensures.some

pub returns-in-Some-clause-ok : goal.returns-in-Some-clause-ok
returns-in-Some-clause-ok c =
    let p = c.args.self.now in
    on_ok_weaker c.put_inside.result
    (number-changed p c.put_inside.new.self c.args.number c.in-Some.index (with_nodes (node_of p.store c.args.node)) c.put_inside.ensures.gaps c.in-Some.ensures.some)
    c.put_inside.ensures.ok

pub returns-in-None-clause-ok : goal.returns-in-None-clause-ok
returns-in-None-clause-ok c =
    let p = c.args.self.now in
    absent-number p c.args.number (with_nodes (node_of p.store c.args.node)) (c.in-None.ensures.none refl)
