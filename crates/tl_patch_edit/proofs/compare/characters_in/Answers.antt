use Rattle.tl_patch_edit.proofs.Steps.{characters_more}
use Rattle.tl_patch_edit.proofs.compare.characters_in.Goals as goal

pub loop-at-preserved : goal.loop-at-preserved
loop-at-preserved c =
    characters_more c.args.parts.now c.loop-at.at _ _ _ c.loop-at-test.true c.loop-at.invariant c.in_ok-push_characters.ensures
