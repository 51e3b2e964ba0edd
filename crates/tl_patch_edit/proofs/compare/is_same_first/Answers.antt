use Rattle.tl_patch_edit.proofs.Steps.{same_step}
use Rattle.tl_patch_edit.proofs.compare.is_same_first.Goals as goal

pub returns : goal.returns
returns c = λ e.
    same_step c.args.parts.now c.args.others.now _ _ (c.have_firsts-have_firsts.ensures.one c.if-not-have_firsts.false) (c.have_firsts-have_firsts.ensures.other c.if-not-have_firsts.false) (c.is_same.ensures e)
