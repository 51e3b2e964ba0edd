use Rattle.std.proofs.Common.{arith}
use Rattle.tl_tree.proofs.RunTexts.{said-bound, said-length, said-part, said-within}
use Rattle.tl_tree.proofs.builder.Builder.text_part.Goals as goal

pub overflow_add-result : goal.overflow_add-result
overflow_add-result c =
    let b = c.args.self.now in
    let long = said-length b in
    let bound = said-bound b in
    omega (arith, c.requires)

pub returns-clause-stands : goal.returns-clause-stands
returns-clause-stands c = said-part c.args.self.now c.args.from c.args.len c.requires

pub returns-clause-within : goal.returns-clause-within
returns-clause-within c = said-within c.args.self.now c.args.from c.args.len c.requires
