use Rattle.std.proofs.Common.{ap, sym, ◌∙◌}
use Rattle.tl_dom_spec.specs.Builder.{Done}
use Rattle.tl_dom_spec.specs.Head.{initial_step}
use Rattle.tl_tree.specs.Inner.Builders.{builder_of, token_of, token_view}
use Rattle.tl_tree.specs.declared.token.Token.{Token}
use Rattle.tl_tree.proofs.builder.Builder.initial.Goals as goal

pub returns-in_ok-initial_doctype-in-Doctype-clause-ok : goal.returns-in_ok-initial_doctype-in-Doctype-clause-ok
returns-in_ok-initial_doctype-in-Doctype-clause-ok c =
    let b = c.args.self.now in
    ap Done c.in_ok-initial_doctype-in-Doctype.ensures.ok
    ∙ ap (λ (token : Token). initial_step (builder_of b) (token_view token (token_of b))) (sym c.in-Doctype.is)
