use Rattle.std.proofs.Common.{IsTrue, List, subst, sym}
use Rattle.std.specs.List.{list_all}
use Rattle.tl_tree.proofs.Asks.{attributes-found}
use Rattle.tl_tree.proofs.AlikeTags.{entries-within}
use Rattle.tl_tree.specs.Inner.Store.{is_attribute}
use Rattle.tl_tree.specs.declared.entries.AttributeEntry.{AttributeEntry}
use Rattle.tl_tree.proofs.tree.Tree.entries.Goals as goal

pub returns-clause-said : goal.returns-clause-said
returns-clause-said c =
    let found = c.in-Some.ensures.lookup in
    attributes-found c.args.self.now c.args.number c.in-Element.tag c.deref.result.now c.in-Some.row.now c.tag.result c.attributes.result.now
    c.deref.ensures.value found.0 found.1 c.in-Element.is c.tag.ensures.stands c.attributes.ensures

pub returns-clause-within : goal.returns-clause-within
returns-clause-within c =
    let s = c.args.self.now.store in
    subst (λ (xs : List AttributeEntry). IsTrue (list_all (is_attribute s) xs)) (sym c.attributes.ensures) (entries-within s c.tag.result)
