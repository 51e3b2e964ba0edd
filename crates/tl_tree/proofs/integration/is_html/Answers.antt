use Rattle.std.proofs.Common.{ap, false, true, ◌∙◌}
use Rattle.tl_dom_spec.specs.Tags as dom
use Rattle.tl_tree.proofs.Pointed.{space-at}
use Rattle.tl_tree.proofs.integration.is_html.Goals as goal

pub returns : goal.returns
returns c =
    c.is_html.ensures
    ∙ ap (λ (space : dom.Namespace). dom.by_space space true false false) (space-at c.args.store.now c.args.number c.tag.result c.tag.ensures.stands)
