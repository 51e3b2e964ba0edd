use Rattle.std.proofs.Common.{ap, sym, ◌∙◌}
use Rattle.std.proofs.lemmas.Result.{IfOk-weaker}
use Rattle.tl_dom_spec.specs.Path.{joined}
use Rattle.tl_tree.proofs.Grown.{node-joined, nodes-none}
use Rattle.tl_tree.specs.Inner.Store.{nodes_of}
use Rattle.tl_tree.proofs.store.Store.join.Goals as goal

pub returns-then-second-eq0-clause-stands : goal.returns-then-second-eq0-clause-stands
returns-then-second-eq0-clause-stands c =
    let s = c.args.self.now in
    let first = nodes_of s c.args.first in
    sym (ap (λ n. joined first (nodes_of s n)) c.if-second-eq0.true ∙ ap (joined first) (nodes-none s))

pub returns-clause-stands : goal.returns-clause-stands
returns-clause-stands c =
    let s = c.args.self.now in
    IfOk-weaker c.add.result _ _ (λ row h. h ∙ ap (joined (nodes_of s c.args.first)) (node-joined s c.args.second)) c.add.ensures.stands
