use Rattle.tl_tree.proofs.Settles.{beside-bytes, beside-within}
use Rattle.tl_tree.proofs.settle.beside.Goals as goal

pub returns : goal.returns
returns c = (
  beside-within c.args.store.now c.args.first c.args.second c.requires.first c.requires.second c.if-first-start.false c.if-start-store.false,
  beside-bytes c.args.store.now c.args.first c.args.second c.if-first-start.false,
)
