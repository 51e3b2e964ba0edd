use Rattle.std.proofs.Common.{arith, sym, ◌∙◌}
use Rattle.tl_tree.proofs.Reopened.{rest-none}
use Rattle.tl_tree.proofs.builder.Builder.reconstruct_formatting.Goals as goal

pub returns-clause-ok : goal.returns-clause-ok
returns-clause-ok c =
    let many = c.len-place-end.ensures in
    let within = c.first_closed-first.ensures.within in
    sym (rest-none c.loop-place.self c.loop-place.place (omega arith)) ∙ c.loop-place.invariant.rest
