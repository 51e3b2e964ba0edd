use Rattle.std.proofs.Common.{IsTrue, List, subst, sym}
use Rattle.std.specs.List.{list_all}
use Rattle.tl_tree.proofs.AlikeTags.{entries-within}
use Rattle.tl_tree.specs.Inner.Store.{is_attribute}
use Rattle.tl_tree.specs.declared.entries.AttributeEntry.{AttributeEntry}
use Rattle.tl_tree.proofs.more_attributes.is_missing.Goals as goal

pub has_key-requires-clause-entries : goal.has_key-requires-clause-entries
has_key-requires-clause-entries c =
    let s = c.args.store.now in
    subst (λ (xs : List AttributeEntry). IsTrue (list_all (is_attribute s) xs)) (sym c.attributes.ensures) (entries-within s c.args.own)
