use Rattle.std.proofs.Common.{OnOk, ap, subst, ◌∙◌, ◌≡◌, ℕ}
use Rattle.tl_dom_spec.specs.Builder.{Builder, a_doctype}
use Rattle.tl_dom_spec.specs.Marks.{marked}
use Rattle.tl_html_spec.specs.Doctypes.{Doctype}
use Rattle.tl_tree.specs.Inner.Builders.{Said, builder_of, token_of}
use Rattle.tl_tree.specs.Inner.Taking.{token_taken}
use Rattle.tl_tree.proofs.builder.Builder.take_doctype.Goals as goal

pub returns-clause-ok : goal.returns-clause-ok
returns-clause-ok c =
    let b = builder_of c.args.self.now in
    let said = token_of c.set_source.new.self in
    let same = c.set_doctype.ensures.ok ∙ c.add_doctype_of.ensures.ok in
    subst (λ (after : Builder). OnOk c.take_token.result (builder_of c.take_token.new.self ≡ after))
    (ap (λ (own : Builder). token_taken own (a_doctype (marked said.source said.doctype))) (c.set_source.ensures.ok ∙ same)
    ∙ (ap (λ (source : ℕ). token_taken b (a_doctype (marked source said.doctype)))
    (ap (λ (own : Said). own.source) c.set_source.ensures.token ∙ ap (λ (own : Builder). own.marks) same)
    ∙ ap (λ (own : Doctype). token_taken b (a_doctype (marked b.marks own)))
    (ap (λ (own : Said). own.doctype) c.set_source.ensures.token ∙ (c.set_doctype.ensures.doctype ∙ c.in_ok-doctype.ensures.stands))))
    c.take_token.ensures.ok
