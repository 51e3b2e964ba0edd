use Rattle.std.proofs.Common.{ap, arith, sym, ◌≡◌, ◌∙◌}
use Rattle.tl_tree.proofs.Resets.{mode-none}
use Rattle.tl_tree.specs.Inner.Resets.{mode_from}
use Rattle.tl_tree.proofs.builder.Builder.mode_of_stack.Goals as goal

pub returns : goal.returns
returns c =
    let b = c.args.self.now in
    let done : c.loop-index.index ≡ 0 = omega arith in
    sym (c.loop-index.invariant.rest ∙ (ap (mode_from b) done ∙ mode-none b))
