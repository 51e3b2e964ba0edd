use Rattle.tl_patch_edit.specs.View.{extent_view}
use Rattle.tl_patch_edit.proofs.Open.{pushed}
use Rattle.tl_patch_edit.proofs.several.push_all.Goals as goal

pub returns : goal.returns
returns c =
    pushed c.args.one c.args.at (extent_view c.args.extent) c.args.planned c.turn_of-turn.result c.args.left.now c.push_end_tags.new.left
    c.args.out.now.items c.push_asks.new.out.items c.push_end_tags.new.out.items
    c.turn_of-turn.ensures c.in_ok-push_asks.ensures c.in_ok-push_end_tags.ensures
