use Rattle.std.proofs.Common.{refl}
use Rattle.tl_tree.proofs.Asks.{nothing-said, piece-said, piece-within}
use Rattle.tl_tree.proofs.tree.Tree.text.Goals as goal

pub bytes-requires : goal.bytes-requires
bytes-requires c =
    let found = c.in_ok-piece.ensures.lookup in
    piece-within c.args.self.now c.args.number c.deref.result.now c.in_ok-piece.field-0.now c.in-Text.piece c.deref.ensures.value found.0 found.1 c.in-Text.is

pub returns-in_default : goal.returns-in_default
returns-in_default c =
    let found = c.in_ok-piece.ensures.lookup in
    nothing-said c.args.self.now c.args.number c.deref.result.now c.in_ok-piece.field-0.now c.in_ok-piece.field-0.now.held c.deref.ensures.value found.0 found.1 refl c.in_default.not-Text c.in_default.not-Comment

pub returns-in-Text : goal.returns-in-Text
returns-in-Text c =
    let found = c.in_ok-piece.ensures.lookup in
    piece-said c.args.self.now c.args.number c.deref.result.now c.in_ok-piece.field-0.now c.in-Text.piece c.bytes.result.now c.deref.ensures.value found.0 found.1 c.in-Text.is c.bytes.ensures
