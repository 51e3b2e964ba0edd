use Rattle.tl_tree.proofs.Asked.{bytes-page, bytes-side}
use Rattle.tl_tree.proofs.store.bytes_at.Goals as goal

pub returns-then-end-before : goal.returns-then-end-before
returns-then-end-before c = bytes-page c.args.page.now c.args.side.now c.args.span c.if-end-before.true

pub returns-else-end-before : goal.returns-else-end-before
returns-else-end-before c =
    bytes-side c.args.page.now c.args.side.now c.args.span c.requires.within c.if-end-before.false
