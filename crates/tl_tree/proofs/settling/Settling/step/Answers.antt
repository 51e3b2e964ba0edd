use Rattle.std.proofs.Common.{IsTrue, ap, refl, subst, sym, ◌+◌}
use Rattle.std.proofs.lemmas.Result.{IfOk-weaker}
use Rattle.tl_dom_spec.specs.Marks.{marked}
use Rattle.tl_dom_spec.specs.Path.{joined}
use Rattle.tl_tree.proofs.Goings.{goes-as, goes-before, goes-joined}
use Rattle.tl_tree.proofs.Settles.{all-last}
use Rattle.tl_tree.specs.Inner.Gathering.{gathered, with_piece}
use Rattle.tl_tree.specs.Inner.Settling.{held_weight, opened_is_within, state_of, weight_of}
use Rattle.tl_tree.specs.Inner.Store.{bytes_of, is_node, node_of, nodes_of}
use Rattle.tl_tree.specs.declared.settling.Opened.TheVariants as opened
use Rattle.tl_tree.proofs.settling.Settling.step.Goals as goal

pub returns-in-Element : goal.returns-in-Element
unfolding node_of nodes_of
returns-in-Element c =
    let old = c.args.self.now in
    let s = old.store in
    IfOk-weaker c.open.result _ _ (λ next g. goes-as old c.open.new.self _ _ _ _ next
    (ap (λ v. joined (nodes_of s c.args.cell.before) (node_of s v)) (sym c.in-Element.is))
    (ap (λ v. 1 + weight_of s c.args.cell.before + held_weight s v) (sym c.in-Element.is)) g) c.open.ensures

pub returns-in-Joined : goal.returns-in-Joined
unfolding node_of nodes_of
returns-in-Joined c =
    let old = c.args.self.now in
    let s = old.store in
    let second = c.in-Joined.second in
    let before = c.args.cell.before in
    goes-as old _ _ _ _ _ second
    (ap (λ v. joined (nodes_of s before) (node_of s v)) (sym c.in-Joined.is))
    (ap (λ v. 1 + weight_of s before + held_weight s v) (sym c.in-Joined.is))
    (goes-joined old _ before second
    (record {
      short = c.requires.sound.short;
      few = c.requires.sound.few;
      rows = c.requires.sound.rows;
      pieces = c.requires.sound.pieces;
      stack = all-last (opened_is_within s) old.stack.items c.push.new.self.items (opened.Row before) c.in_ok-push-in-Joined.ensures.items c.requires.sound.stack c.requires.before;
    })
    (subst (λ v. IsTrue (is_node s v)) c.in-Joined.is c.requires.node)
    refl refl c.in_ok-push-in-Joined.ensures.items)

pub returns-in_ok-add_piece-in-Text : goal.returns-in_ok-add_piece-in-Text
unfolding node_of
returns-in_ok-add_piece-in-Text c =
    let old = c.args.self.now in
    let s = old.store in
    goes-before old _ c.args.cell.before c.args.cell.node (with_piece (marked c.in-Text.piece.source (bytes_of s c.in-Text.piece.span)) (state_of old)) c.requires.before c.in_ok-add_piece-in-Text.ensures
    (ap (λ v. gathered (node_of s v) (state_of old)) (sym c.in-Text.is))
    (ap (held_weight s) c.in-Text.is)

pub returns-in_ok-add-in-Comment : goal.returns-in_ok-add-in-Comment
unfolding node_of bytes_of
returns-in_ok-add-in-Comment c =
    let old = c.args.self.now in
    let s = old.store in
    goes-before old _ c.args.cell.before c.args.cell.node _ c.requires.before c.in_ok-add-in-Comment.ensures
    (ap (λ v. gathered (node_of s v) (state_of old)) (sym c.in-Comment.is))
    (ap (held_weight s) c.in-Comment.is)

pub returns-in_ok-add-in-Doctype : goal.returns-in_ok-add-in-Doctype
unfolding node_of
returns-in_ok-add-in-Doctype c =
    let old = c.args.self.now in
    let s = old.store in
    goes-before old _ c.args.cell.before c.args.cell.node _ c.requires.before c.in_ok-add-in-Doctype.ensures
    (ap (λ v. gathered (node_of s v) (state_of old)) (sym c.in-Doctype.is))
    (ap (held_weight s) c.in-Doctype.is)
