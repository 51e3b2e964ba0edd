use Rattle.std.proofs.Common.{length}
use Rattle.std.proofs.lemmas.Bool.{ltb-true}
use Rattle.tl_tree.proofs.Asked.{tag-read}
use Rattle.tl_tree.proofs.KnownNames.{known-read, number-at}
use Rattle.tl_tree.proofs.store.Store.tag.Goals as goal

pub returns-clause-stands : goal.returns-clause-stands
returns-clause-stands c =
    let s = c.args.self.now in
    tag-read s c.args.number c.index.result.now c.index.ensures (ltb-true c.args.number (length s.tags.items) c.requires)

pub returns-clause-known : goal.returns-clause-known
returns-clause-known c =
    let s = c.args.self.now in
    known-read s c.args.number c.index.result.now c.index.ensures (ltb-true c.args.number (length s.tags.items) c.requires)

pub returns-clause-number : goal.returns-clause-number
returns-clause-number c =
    let s = c.args.self.now in
    number-at s c.args.number c.index.result.now c.index.ensures (ltb-true c.args.number (length s.tags.items) c.requires)
