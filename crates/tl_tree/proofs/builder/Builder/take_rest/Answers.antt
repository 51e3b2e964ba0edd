use Rattle.std.proofs.Common.{ap, arith, ◌∙◌}
use Rattle.tl_dom_spec.specs.Runs.{run_taken}
use Rattle.tl_tree.proofs.RunTexts.{said-bound, said-length}
use Rattle.tl_tree.specs.Inner.Builders.{builder_of}
use Rattle.tl_tree.proofs.builder.Builder.take_rest.Goals as goal

pub overflow_add-count : goal.overflow_add-count
overflow_add-count c =
    let b = c.args.self.now in
    let long = said-length b in
    let bound = said-bound b in
    omega (arith, c.requires)

pub returns-clause-ok : goal.returns-clause-ok
returns-clause-ok c =
    c.skip.ensures.ok ∙ c.in_ok-run_taken.ensures.ok
    ∙ ap (λ xs. run_taken xs (builder_of c.args.self.now)) c.text_part-run.ensures.stands
