use Rattle.std.proofs.Common.{◌∙◌}
use Rattle.tl_tree.proofs.Asks.{held-source}
use Rattle.tl_tree.specs.declared.row.Held.TheVariants.{Comment, Contents, Doctype, Element, Text}
use Rattle.tl_tree.proofs.tree.Tree.source.Goals as goal

pub returns-in-Element : goal.returns-in-Element
returns-in-Element c =
    let found = c.in_ok-tag.ensures.lookup in
    c.start_tag.ensures ∙ held-source c.args.self.now c.args.number c.deref.result.now c.in_ok-tag.field-0.now (Element c.in-Element.tag) c.deref.ensures.value found.0 found.1 c.in-Element.is

pub returns-in-Contents : goal.returns-in-Contents
returns-in-Contents c =
    let found = c.in_ok-tag.ensures.lookup in
    held-source c.args.self.now c.args.number c.deref.result.now c.in_ok-tag.field-0.now Contents c.deref.ensures.value found.0 found.1 c.in-Contents.is

pub returns-in-Text : goal.returns-in-Text
returns-in-Text c =
    let found = c.in_ok-tag.ensures.lookup in
    c.gap.ensures ∙ held-source c.args.self.now c.args.number c.deref.result.now c.in_ok-tag.field-0.now (Text c.in-Text.piece) c.deref.ensures.value found.0 found.1 c.in-Text.is

pub returns-in-Comment : goal.returns-in-Comment
returns-in-Comment c =
    let found = c.in_ok-tag.ensures.lookup in
    c.mark.ensures ∙ held-source c.args.self.now c.args.number c.deref.result.now c.in_ok-tag.field-0.now (Comment c.in-Comment.piece) c.deref.ensures.value found.0 found.1 c.in-Comment.is

pub returns-in-Doctype : goal.returns-in-Doctype
returns-in-Doctype c =
    let found = c.in_ok-tag.ensures.lookup in
    c.mark-in-Doctype.ensures ∙ held-source c.args.self.now c.args.number c.deref.result.now c.in_ok-tag.field-0.now (Doctype c.in-Doctype.doctype c.in-Doctype.source) c.deref.ensures.value found.0 found.1 c.in-Doctype.is
