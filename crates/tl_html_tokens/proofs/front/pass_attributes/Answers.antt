use Rattle.std.proofs.Common.{◌≡◌, ◌+◌, ◌-◌, ℕ, List, Some, drop, take, ap, ◌∙◌, arith}
use Rattle.std.proofs.lemmas.List.{take_rest}
use Rattle.tl_html_tokens.specs.Inner.Through.{through}
use Rattle.tl_html_tokens.specs.declared.stage.Stage.TheVariants.{BeforeKey}
use Rattle.tl_html_tokens.proofs.front.pass_attributes.Goals as goal

pub returns-clause-through : goal.returns-clause-through
returns-clause-through c =
    let at : ℕ = c.args.at in
    let len : ℕ = c.attributes_in_front-passage.result.len in
    let less : at + len - at ≡ len = omega arith in
    ap (λ k. through (BeforeKey c.args.tag) (take k (drop at c.args.page.now))) less
    ∙ (rw take_rest at c.attributes_in_front-passage.ensures.through)
