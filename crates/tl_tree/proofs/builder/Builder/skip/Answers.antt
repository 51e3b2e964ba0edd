use Rattle.std.proofs.Common.{◌-◌, arith, ◌∙◌}
use Rattle.tl_tree.proofs.RunTexts.{said-length, take-rest}
use Rattle.tl_tree.specs.Inner.Builders.{token_of}
use Rattle.tl_tree.proofs.builder.Builder.skip.Goals as goal

pub overflow_sub-len : goal.overflow_sub-len
overflow_sub-len c =
    let long = said-length c.args.self.now in
    omega (arith, c.requires)

pub text_part-rest-requires : goal.text_part-rest-requires
text_part-rest-requires c =
    let long = said-length c.args.self.now in
    omega (arith, c.requires)

pub returns-clause-left : goal.returns-clause-left
returns-clause-left c =
    let b = c.args.self.now in
    let long = said-length b in
    c.set_text.ensures.text ∙ c.text_part-rest.ensures.stands
    ∙ take-rest (token_of b).text c.args.count (b.text.len - c.args.count) (omega (arith, c.requires))
