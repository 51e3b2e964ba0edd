use Rattle.tl_tree.proofs.Asks.{namespace-found}
use Rattle.tl_tree.proofs.tree.Tree.namespace.Goals as goal

pub returns : goal.returns
returns c =
    let found = c.in_ok-tag.ensures.lookup in
    namespace-found c.args.self.now c.args.number c.in-Element.tag c.deref.result.now c.in_ok-tag.field-0.now c.index.result.now
    c.deref.ensures.value found.0 found.1 c.in-Element.is c.index.ensures
