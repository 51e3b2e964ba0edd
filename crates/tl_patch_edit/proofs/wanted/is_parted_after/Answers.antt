use Rattle.std.proofs.Common.{Bool, None, ap, not, option_map, sym, ◌&&◌, ◌∙◌}
use Rattle.tl_patch_edit.specs.Inner.Parts.{part_view, parts_view}
use Rattle.tl_patch_edit.specs.Inner.Seams.{part_seam}
use Rattle.tl_patch_edit.specs.Seams.{last_of}
use Rattle.tl_patch_edit.proofs.Edges.{empty_view}
use Rattle.tl_patch_edit.proofs.wanted.is_parted_after.Goals as goal

pub returns-then-is_empty : goal.returns-then-is_empty
returns-then-is_empty c =
    sym (ap (λ (v : Bool). not v && part_seam (last_of None (parts_view c.args.put.now)) (option_map part_view c.args.behind)) (empty_view c.args.put.now ∙ sym c.is_empty.ensures ∙ c.if-is_empty.true))

pub returns : goal.returns
returns c =
    c.is_seam.ensures ∙ ap (λ l. part_seam l (option_map part_view c.args.behind)) c.last_part.ensures
    ∙ sym (ap (λ (v : Bool). not v && part_seam (last_of None (parts_view c.args.put.now)) (option_map part_view c.args.behind)) (empty_view c.args.put.now ∙ sym c.is_empty.ensures ∙ c.if-is_empty.false))
