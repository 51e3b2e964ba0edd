use Rattle.std.proofs.Common.{ap, refl, ◌∙◌}
use Rattle.tl_html_spec.specs.HtmlTokenizer.{State, after_start}
use Rattle.tl_tree.specs.Inner.Builders.{builder_of, token_of}
use Rattle.tl_tree.proofs.builder.Builder.read_after_start.Goals as goal

pub returns-clause-ok : goal.returns-clause-ok
unfolding builder_of
returns-clause-ok c =
    let b = c.args.self.now in
    ap (λ (state : State). record (builder_of b) { reads = state }) (c.after_start-self.ensures ∙ ap after_start c.tag_name.ensures)

pub returns-clause-token : goal.returns-clause-token
unfolding token_of
returns-clause-token c = refl
