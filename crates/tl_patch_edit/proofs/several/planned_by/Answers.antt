use Rattle.tl_patch_edit.proofs.several.planned_by.Goals as goal

pub planned_for-requires-clause-extent : goal.planned_for-requires-clause-extent
planned_for-requires-clause-extent c = c.requires.extents c.args.one.start.number _ c.requires.within
