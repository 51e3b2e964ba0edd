use Rattle.tl_tree.proofs.Asks.{kind-found}
use Rattle.tl_tree.specs.declared.row.Held.TheVariants.{Comment, Contents, Doctype, Element, Text}
use Rattle.tl_tree.proofs.tree.Tree.kind.Goals as goal

pub returns-in-Element : goal.returns-in-Element
returns-in-Element c =
    let found = c.in_ok-row.ensures.lookup in
    kind-found c.args.self.now c.args.number c.deref.result.now c.in_ok-row.row.now (Element c.in-Element.field-0) c.deref.ensures.value found.0 found.1 c.in-Element.is

pub returns-in-Contents : goal.returns-in-Contents
returns-in-Contents c =
    let found = c.in_ok-row.ensures.lookup in
    kind-found c.args.self.now c.args.number c.deref.result.now c.in_ok-row.row.now Contents c.deref.ensures.value found.0 found.1 c.in-Contents.is

pub returns-in-Text : goal.returns-in-Text
returns-in-Text c =
    let found = c.in_ok-row.ensures.lookup in
    kind-found c.args.self.now c.args.number c.deref.result.now c.in_ok-row.row.now (Text c.in-Text.field-0) c.deref.ensures.value found.0 found.1 c.in-Text.is

pub returns-in-Comment : goal.returns-in-Comment
returns-in-Comment c =
    let found = c.in_ok-row.ensures.lookup in
    kind-found c.args.self.now c.args.number c.deref.result.now c.in_ok-row.row.now (Comment c.in-Comment.field-0) c.deref.ensures.value found.0 found.1 c.in-Comment.is

pub returns-in-Doctype : goal.returns-in-Doctype
returns-in-Doctype c =
    let found = c.in_ok-row.ensures.lookup in
    kind-found c.args.self.now c.args.number c.deref.result.now c.in_ok-row.row.now (Doctype c.in-Doctype.doctype c.in-Doctype.source) c.deref.ensures.value found.0 found.1 c.in-Doctype.is
