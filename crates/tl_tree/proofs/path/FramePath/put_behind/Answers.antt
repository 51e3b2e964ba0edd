use Rattle.std.proofs.Common.{refl}
use Rattle.std.proofs.lemmas.Result.{on_ok_weaker}
use Rattle.tl_dom_spec.specs.Path.{with_waiting}
use Rattle.tl_tree.proofs.Numbered.{absent-number, found-within, number-changed}
use Rattle.tl_tree.specs.Inner.Store.{node_of}
use Rattle.tl_tree.proofs.path.FramePath.put_behind.Goals as goal

pub put_waiting-requires-clause-index : goal.put_waiting-requires-clause-index
put_waiting-requires-clause-index c =
    found-within c.args.self.now.frames.items c.in-Some.index c.args.number c.in-Some.ensures.some

pub returns-in-Some-clause-ok : goal.returns-in-Some-clause-ok
returns-in-Some-clause-ok c =
    let p = c.args.self.now in
    on_ok_weaker c.put_waiting.result
    (number-changed p c.put_waiting.new.self c.args.number c.in-Some.index (with_waiting (node_of p.store c.args.node)) c.put_waiting.ensures.gaps c.in-Some.ensures.some)
    c.put_waiting.ensures.ok

pub returns-in-None-clause-ok : goal.returns-in-None-clause-ok
returns-in-None-clause-ok c =
    let p = c.args.self.now in
    absent-number p c.args.number (with_waiting (node_of p.store c.args.node)) (c.in-None.ensures.none refl)
