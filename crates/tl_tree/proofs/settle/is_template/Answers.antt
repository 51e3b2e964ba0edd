use Rattle.std.proofs.Common.{ap, codes, refl, sym, ◌∙◌}
use Rattle.tl_dom_spec.specs.HtmlForest.{has_contents}
use Rattle.tl_names.specs.ElementNames.{element_names, name_of}
use Rattle.tl_tree.proofs.NumberedNames.{one-told}
use Rattle.tl_tree.proofs.Templates.{html-contents, other-contents}
use Rattle.tl_tree.specs.Inner.Store.{bytes_of}
use Rattle.tl_tree.specs.declared.entries.Namespace.TheVariants.{Html}
use Rattle.tl_tree.proofs.settle.is_template.Goals as goal

pub returns-in-Html : goal.returns-in-Html
unfolding element_names name_of
returns-in-Html c =
    let s = c.args.store.now in
    let own = c.tag-entry.result in
    c.eq.ensures
    ∙ (one-told (codes "template") own.known (bytes_of s own.name) refl c.tag-entry.ensures.known
    ∙ (sym (html-contents s own Html c.in-Html.is refl) ∙ ap has_contents c.tag-entry.ensures.stands))

pub returns-in_default : goal.returns-in_default
returns-in_default c =
    other-contents c.args.store.now c.tag-entry.result c.tag-entry.result.space refl c.in_default.not-Html
    ∙ ap has_contents c.tag-entry.ensures.stands
