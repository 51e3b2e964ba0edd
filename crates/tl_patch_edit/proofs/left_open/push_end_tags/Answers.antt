use Rattle.tl_patch_edit.specs.View.{extent_view}
use Rattle.tl_patch_edit.proofs.Open.{put_in}
use Rattle.tl_patch_edit.proofs.left_open.push_end_tags.Goals as goal

pub returns : goal.returns
returns c =
    put_in c.args.one c.args.at (extent_view c.args.extent) c.args.left.now c.push_closing.new.left c.push_closing-2.new.left
    c.args.out.now.items c.push_closing.new.out.items c.push_closing-2.new.out.items c.closed_before-before.result c.closed_behind-behind.result
    c.closed_before-before.ensures c.closed_behind-behind.ensures c.in_ok-push_closing.ensures.asks c.in_ok-push_closing.ensures.left
    c.in_ok-push_closing-2.ensures.asks c.in_ok-push_closing-2.ensures.left
