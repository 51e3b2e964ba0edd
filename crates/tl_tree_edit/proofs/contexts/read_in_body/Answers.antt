use Rattle.std.proofs.Common.{Bool, codes, subst}
use Rattle.tl_dom_spec.specs.Tags.{bare_tag}
use Rattle.tl_tree_edit.specs.Inner.Contexts.{IsReadIn, context_by}
use Rattle.tl_tree_edit.proofs.contexts.read_in_body.Goals as goal

pub returns : goal.returns
returns c =
    subst (λ (q : Bool). IsReadIn c.args.markup.now (context_by (bare_tag (codes "body")) c.args.is_in_form q) c.read_fragment.result) c.is_quirks.ensures c.read_fragment.ensures
