use Rattle.tl_tree.proofs.Asks.{end-read}
use Rattle.tl_tree.proofs.tree.Tree.end.Goals as goal

pub returns : goal.returns
returns c =
    let found = c.in_ok-get.ensures.lookup in
    end-read c.args.self.now c.args.number c.deref.result.now c.in_ok-get.field-0.now c.deref.ensures.value found.0 found.1
