use Rattle.std.proofs.Common.{List, OnOk, ap, subst, ◌∙◌, ◌≡◌, ℕ}
use Rattle.tl_dom_spec.specs.Builder.{Builder, a_comment}
use Rattle.tl_dom_spec.specs.Marks.{marked}
use Rattle.tl_tree.specs.Inner.Builders.{Said, builder_of, token_of}
use Rattle.tl_tree.specs.Inner.Taking.{token_taken}
use Rattle.tl_tree.proofs.builder.Builder.take_comment.Goals as goal

pub returns-clause-ok : goal.returns-clause-ok
returns-clause-ok c =
    let b = builder_of c.args.self.now in
    let said = token_of c.set_source.new.self in
    let same = c.set_text.ensures.ok ∙ c.add_comment.ensures.ok in
    subst (λ (after : Builder). OnOk c.take_token.result (builder_of c.take_token.new.self ≡ after))
    (ap (λ (own : Builder). token_taken own (a_comment (marked said.source said.text))) (c.set_source.ensures.ok ∙ same)
    ∙ (ap (λ (source : ℕ). token_taken b (a_comment (marked source said.text)))
    (ap (λ (own : Said). own.source) c.set_source.ensures.token ∙ ap (λ (own : Builder). own.marks) same)
    ∙ ap (λ (own : List ℕ). token_taken b (a_comment (marked b.marks own)))
    (ap (λ (own : Said). own.text) c.set_source.ensures.token ∙ (c.set_text.ensures.text ∙ c.in_ok-text.ensures.stands))))
    c.take_token.ensures.ok
