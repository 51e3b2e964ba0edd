use Rattle.std.proofs.Common.{sym, ◌∙◌}
use Rattle.tl_patch_edit.proofs.Steps.{text_otherwise, text_step}
use Rattle.tl_patch_edit.proofs.compare.text_step.Goals as goal

pub returns-clause-step : goal.returns-clause-step
returns-clause-step c =
    text_step c.args.parts.now c.args.others.now c.args.count c.args.other_count c.requires.within c.requires.others_within c.requires.quiet c.requires.others_quiet c.requires.moves
    (sym c.in_ok-is_it.ensures ∙ c.if-not-is_it.false)

pub returns-then-not-is_it-clause-none : goal.returns-then-not-is_it-clause-none
returns-then-not-is_it-clause-none c =
    text_otherwise c.args.parts.now c.args.others.now c.args.count c.args.other_count c.requires.quiet c.requires.others_quiet c.requires.stops c.requires.others_stop
    (sym c.in_ok-is_it.ensures ∙ c.if-not-is_it.true)
