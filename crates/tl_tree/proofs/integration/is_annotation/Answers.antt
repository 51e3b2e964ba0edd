use Rattle.std.proofs.Common.{codes, false, refl, sym, true, ◌∙◌}
use Rattle.std.proofs.Math.Bool.{or-false}
use Rattle.std.specs.Str.{bytes_eq}
use Rattle.tl_dom_spec.specs.Tags as dom
use Rattle.tl_html_spec.specs.Balanced.{is_one_of}
use Rattle.tl_names.specs.ElementNames.{element_names, name_of}
use Rattle.tl_tree.proofs.NumberedNames.{one-told}
use Rattle.tl_tree.proofs.Pointed.{named-in, not-in}
use Rattle.tl_tree.specs.Inner.Store.{bytes_of, tag_at}
use Rattle.tl_tree.proofs.integration.is_annotation.Goals as goal

pub returns-then-is_math : goal.returns-then-is_math
unfolding element_names name_of
returns-then-is_math c =
    let own = c.tag-tag.result in
    let name = bytes_of c.args.store.now own.name in
    c.eq.ensures
    ∙ (one-told (codes "annotation-xml") own.known name refl c.tag-tag.ensures.known
    ∙ sym (or-false (bytes_eq name (codes "annotation-xml"))))
    ∙ named-in (λ (space : dom.Namespace). dom.by_space space false true false) (codes "annotation-xml") c.args.store.now c.args.number c.tag-tag.result c.tag-tag.ensures.stands c.is_math.result c.is_math.ensures c.if-is_math.true name refl

pub returns-else-is_math : goal.returns-else-is_math
returns-else-is_math c =
    not-in (λ (space : dom.Namespace). dom.by_space space false true false) (is_one_of (codes "annotation-xml") (tag_at c.args.store.now c.args.number).name) c.args.store.now c.args.number c.tag-tag.result c.tag-tag.ensures.stands c.is_math.result c.is_math.ensures c.if-is_math.false
