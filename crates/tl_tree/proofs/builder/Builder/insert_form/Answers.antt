use Rattle.std.proofs.Common.{ap, ◌∙◌}
use Rattle.std.proofs.lemmas.Result.{on_ok_weaker}
use Rattle.tl_dom_spec.specs.Builder.{insert_element}
use Rattle.tl_tree.specs.Inner.Builders.{Said, builder_of, token_of}
use Rattle.tl_tree.proofs.builder.Builder.insert_form.Goals as goal

pub returns-clause-ok : goal.returns-clause-ok
unfolding builder_of
returns-clause-ok c =
    on_ok_weaker c.insert_element.result
    (λ is. is
    ∙ (ap (λ (said : Said). insert_element said.tag (builder_of c.set_form.new.self)) c.set_form.ensures.token
    ∙ ap (insert_element (token_of c.args.self.now).tag) c.set_form.ensures.ok))
    c.insert_element.ensures.ok
