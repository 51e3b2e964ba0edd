use Rattle.std.proofs.Common.{ap, codes, refl, sym, ◌∙◌}
use Rattle.std.proofs.Math.Bool.{or-false}
use Rattle.std.specs.Str.{bytes_eq}
use Rattle.tl_html_spec.specs.Balanced.{is_one_of}
use Rattle.tl_names.specs.ElementNames.{element_names, name_of}
use Rattle.tl_tree.proofs.AlikeTags.{name-at}
use Rattle.tl_tree.proofs.NumberedNames.{one-told}
use Rattle.tl_tree.specs.Inner.Store.{bytes_of}
use Rattle.tl_tree.proofs.breakout.is_font.Goals as goal

pub returns : goal.returns
unfolding element_names name_of
returns c =
    let own = c.tag-tag.result in
    let name = bytes_of c.args.store.now own.name in
    c.eq.ensures
    ∙ (one-told (codes "font") own.known name refl c.tag-tag.ensures.known
    ∙ (sym (or-false (bytes_eq name (codes "font")))
    ∙ ap (is_one_of (codes "font")) (name-at c.args.store.now c.args.number own c.tag-tag.ensures.stands)))
