use Rattle.std.proofs.Common.{length}
use Rattle.std.proofs.lemmas.Bool.{ltb-true}
use Rattle.tl_tree.proofs.Asked.{doctype-read}
use Rattle.tl_tree.proofs.store.Store.doctype.Goals as goal

pub returns-clause-stands : goal.returns-clause-stands
returns-clause-stands c =
    let s = c.args.self.now in
    doctype-read s c.args.number c.index.result.now c.index.ensures (ltb-true c.args.number (length s.doctypes.items) c.requires)
