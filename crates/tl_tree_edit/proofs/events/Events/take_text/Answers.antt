use Rattle.std.proofs.Common.{[], ap, List, ◌∙◌, ℕ, Option}
use Rattle.std.specs.Option.{unwrap_or}
use Rattle.tl_tree.specs.TreeView.{rows_in}
use Rattle.tl_tree_edit.proofs.Reading.{bytes-or, known-within, text_taken}
use Rattle.tl_tree_edit.proofs.events.Events.take_text.Goals as goal

pub returns-clause-said : goal.returns-clause-said
returns-clause-said c =
    let e = c.pass_row.ensures in
    let text-is = ap (λ b. b.now) c.unwrap_or-self.ensures ∙ (bytes-or c.text.result _ ∙ ap (λ (o : Option (List ℕ)). unwrap_or o []) c.text.ensures) in
    rw (e.text, e.tree, e.ends, c.requires.text)
    (text_taken (rows_in c.args.self.now.tree.now) c.args.self.now.number c.pass_row.new.self.number c.args.self.now.ends.items c.unwrap_or-self.result.now e.number c.requires.left c.requires.kind text-is)

pub pass_row-requires : goal.pass_row-requires
pass_row-requires c =
    known-within (rows_in c.args.self.now.tree.now) c.args.self.now.number _ c.requires.kind
