use Rattle.std.proofs.Common.{sym, ◌∙◌}
use Rattle.tl_patch_edit.proofs.Steps.{alike_step, first_otherwise, none_otherwise}
use Rattle.tl_patch_edit.proofs.compare.first_step.Goals as goal

pub returns-then-not-have_firsts-clause-none : goal.returns-then-not-have_firsts-clause-none
returns-then-not-have_firsts-clause-none c =
    none_otherwise c.args.parts.now c.args.others.now c.requires.left (c.have_firsts-have_firsts.ensures.not c.if-not-have_firsts.true) c.requires.loud c.requires.others_loud

pub returns-then-not-is_it-clause-none : goal.returns-then-not-is_it-clause-none
returns-then-not-is_it-clause-none c =
    first_otherwise c.args.parts.now c.args.others.now _ _ (c.have_firsts-have_firsts.ensures.one c.if-not-have_firsts.false) (c.have_firsts-have_firsts.ensures.other c.if-not-have_firsts.false)
    c.requires.loud c.requires.others_loud (sym c.in_ok-is_it.ensures ∙ c.if-not-is_it.true)

pub returns-clause-step : goal.returns-clause-step
returns-clause-step c =
    alike_step c.args.parts.now c.args.others.now _ _ (c.have_firsts-have_firsts.ensures.one c.if-not-have_firsts.false) (c.have_firsts-have_firsts.ensures.other c.if-not-have_firsts.false)
    (sym c.in_ok-is_it.ensures ∙ c.if-not-is_it.false)
