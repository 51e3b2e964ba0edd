use Rattle.std.proofs.Common.{List, ap, map, sym, ◌∙◌}
use Rattle.std.specs.List.{list_any}
use Rattle.tl_dom_spec.specs.Formatting.{is_same_attribute}
use Rattle.tl_tree.proofs.AlikeTags.{any-found}
use Rattle.tl_tree.specs.Inner.Store.{attribute_of}
use Rattle.tl_tree.specs.declared.entries.AttributeEntry.{AttributeEntry}
use Rattle.tl_tree.proofs.alike.has_attribute_there.Goals as goal

pub returns-then-place-attributes : goal.returns-then-place-attributes
returns-then-place-attributes c found =
    let s = c.args.store.now in
    let test = is_same_attribute (attribute_of s c.args.own) in
    ap (λ (xs : List AttributeEntry). list_any test (map (attribute_of s) xs)) (sym c.attributes-attributes.ensures)
    ∙ any-found test (attribute_of s) c.attributes-attributes.result.now _ _ c.if-place-attributes.true (sym c.is_same_attribute.ensures ∙ found)
