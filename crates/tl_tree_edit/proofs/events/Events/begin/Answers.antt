use Rattle.std.proofs.Common.{Some, ap, sym, ℕ, Option, ◌+◌, ◌∙◌}
use Rattle.std.specs.Option.{unwrap_or}
use Rattle.tl_tree.specs.TreeView.{rows_in}
use Rattle.tl_tree_edit.proofs.Reading.{known-within, node_begun, nothing_left}
use Rattle.tl_tree_edit.specs.Inner.Walk.{held, is_kind_with_end}
use Rattle.tl_tree_edit.proofs.events.Events.begin.Goals as goal

pub returns-in_default-clause-next : goal.returns-in_default-clause-next
returns-in_default-clause-next c =
    rw c.requires.text
    (nothing_left (rows_in c.args.self.now.tree.now) c.args.self.now.number c.args.self.now.ends.items (sym c.kind.ensures ∙ c.in_default.is) c.requires.left)

pub pass_row-requires : goal.pass_row-requires
pass_row-requires c =
    let h = c.in_ok-hold.ensures in
    rw (h.number, h.tree)
    (known-within (rows_in c.args.self.now.tree.now) c.args.self.now.number c.in-Some.kind (sym c.kind.ensures ∙ c.in-Some.is))

pub returns-clause-next : goal.returns-clause-next
returns-clause-next c =
    let h = c.in_ok-hold.ensures in
    let p = c.pass_row.ensures in
    let end = c.unwrap_or.ensures ∙ ap (λ (o : Option ℕ). unwrap_or o 0) c.end.ensures in
    rw (p.text, p.tree, h.text, h.tree, c.requires.text)
    (node_begun (rows_in c.args.self.now.tree.now) c.args.self.now.number c.pass_row.new.self.number c.args.self.now.ends.items c.pass_row.new.self.ends.items c.in-Some.kind
    (p.number ∙ ap (λ (n : ℕ). n + 1) h.number) c.requires.left (sym c.kind.ensures ∙ c.in-Some.is)
    (λ e. c.requires.kind (sym c.kind.ensures ∙ (c.in-Some.is ∙ ap Some e)))
    (ap (λ v. v.items) p.ends ∙ (h.ends ∙ ap (held (is_kind_with_end c.in-Some.kind) c.args.self.now.ends.items) end)))
