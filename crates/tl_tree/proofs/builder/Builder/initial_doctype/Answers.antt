use Rattle.std.proofs.Common.{Bool, ap, ◌∙◌}
use Rattle.tl_dom_spec.specs.Builder.{Builder, before_html, switch_to}
use Rattle.tl_dom_spec.specs.Quirks.{is_quirky}
use Rattle.tl_tree.specs.Inner.Builders.{Said, builder_of, token_of}
use Rattle.tl_tree.proofs.OnErrors.{on-err}
use Rattle.tl_tree.proofs.builder.Builder.initial_doctype.Goals as goal

quirked : Bool → Builder → Builder
quirked is_quirks d = record d { is_quirks = is_quirks }

pub returns-clause-ok : goal.returns-clause-ok
unfolding quirked
returns-clause-ok c =
    let b = c.args.self.now in
    let inserted = builder_of c.doctype_inserted.new.self in
    c.switch_to.ensures.ok
    ∙ ap (switch_to before_html)
    (c.set_quirks.ensures.ok
    ∙ (ap (λ is. quirked is inserted)
    (c.is_doctype_quirky-is_quirky.ensures ∙ ap (λ (said : Said). is_quirky said.doctype) c.in_ok-doctype_inserted.ensures.token)
    ∙ ap (quirked (is_quirky (token_of b).doctype)) c.in_ok-doctype_inserted.ensures.ok))

pub returns-clause-token : goal.returns-clause-token
returns-clause-token c =
    c.switch_to.ensures.token ∙ (c.set_quirks.ensures.token ∙ c.doctype_inserted.ensures.token)

pub returns-in_err-doctype_inserted-clause-token : goal.returns-in_err-doctype_inserted-clause-token
returns-in_err-doctype_inserted-clause-token c = c.doctype_inserted.ensures.token

pub returns-in_err-doctype_inserted-clause-ok : goal.returns-in_err-doctype_inserted-clause-ok
returns-in_err-doctype_inserted-clause-ok c = on-err c.from_residual.result _ c.from_residual.ensures.0
