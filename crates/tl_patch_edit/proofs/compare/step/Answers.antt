use Rattle.tl_patch_edit.proofs.Steps.{no_quiet}
use Rattle.tl_patch_edit.proofs.compare.step.Goals as goal

pub first_step-requires-clause-loud : goal.first_step-requires-clause-loud
first_step-requires-clause-loud c = no_quiet c.args.parts.now c.quiet_len-count.result (c.are_some-are_some.ensures.none c.if-are_some.false) c.quiet_len-count.ensures.stops

pub first_step-requires-clause-others_loud : goal.first_step-requires-clause-others_loud
first_step-requires-clause-others_loud c =
    no_quiet c.args.others.now c.quiet_len-other_count.result (c.are_some-are_some.ensures.no_others c.if-are_some.false) c.quiet_len-other_count.ensures.stops
