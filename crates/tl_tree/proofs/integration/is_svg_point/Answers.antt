use Rattle.std.proofs.Common.{codes, false, refl, true, ◌∙◌}
use Rattle.tl_dom_spec.specs.Tags as dom
use Rattle.tl_html_spec.specs.Balanced.{is_one_of}
use Rattle.tl_names.specs.TagSets.{names_in}
use Rattle.tl_names.specs.declared.class.Class.TheVariants.{SvgMark}
use Rattle.tl_tree.proofs.NumberedNames.{class-told}
use Rattle.tl_tree.proofs.Pointed.{named-in, not-in}
use Rattle.tl_tree.specs.Inner.Store.{bytes_of, tag_at}
use Rattle.tl_tree.proofs.integration.is_svg_point.Goals as goal

pub returns-then-is_svg : goal.returns-then-is_svg
unfolding names_in
returns-then-is_svg c =
    let own = c.tag-tag.result in
    let name = bytes_of c.args.store.now own.name in
    c.is.ensures
    ∙ class-told SvgMark own.known name c.tag-tag.ensures.known
    ∙ named-in (λ (space : dom.Namespace). dom.by_space space false false true) (codes "foreignObject desc title") c.args.store.now c.args.number c.tag-tag.result c.tag-tag.ensures.stands c.is_svg.result c.is_svg.ensures c.if-is_svg.true name refl

pub returns-else-is_svg : goal.returns-else-is_svg
returns-else-is_svg c =
    not-in (λ (space : dom.Namespace). dom.by_space space false false true) (is_one_of (codes "foreignObject desc title") (tag_at c.args.store.now c.args.number).name) c.args.store.now c.args.number c.tag-tag.result c.tag-tag.ensures.stands c.is_svg.result c.is_svg.ensures c.if-is_svg.false
