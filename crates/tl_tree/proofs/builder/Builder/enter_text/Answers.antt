use Rattle.std.proofs.Common.{ap, refl, ◌∙◌}
use Rattle.tl_dom_spec.specs.Builder.{state_inside, text_mode}
use Rattle.tl_html_spec.specs.HtmlTokenizer.{State}
use Rattle.tl_tree.specs.Inner.Builders.{builder_of, token_of}
use Rattle.tl_tree.proofs.builder.Builder.enter_text.Goals as goal

pub returns-clause-ok : goal.returns-clause-ok
unfolding builder_of
returns-clause-ok c =
    let d = builder_of c.args.self.now in
    ap (λ (state : State). record d { reads = state; original = d.mode; mode = text_mode }) (c.state_inside-self.ensures ∙ ap state_inside c.tag_name.ensures)

pub returns-clause-token : goal.returns-clause-token
unfolding token_of
returns-clause-token c = refl
