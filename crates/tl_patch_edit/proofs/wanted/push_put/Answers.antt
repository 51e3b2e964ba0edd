use Rattle.std.proofs.Common.{◌≡◌, List, None, Option, ap, ap₂, option_map, ◌∙◌}
use Rattle.tl_patch_edit.specs.Inner.Parts.{Part, part_view, parts_view}
use Rattle.tl_patch_edit.specs.Inner.Seams.{part_seam}
use Rattle.tl_patch_edit.specs.Seams.{first_of, last_of}
use Rattle.tl_patch_edit.proofs.Splicing.{put_parted}
use Rattle.tl_patch_edit.proofs.wanted.push_put.Goals as goal

pub returns : goal.returns
returns c =
    let put : List Part = parts_view c.args.put.now in
    let behind : Option Part = option_map part_view c.args.behind in
    let last : option_map part_view c.last_part.result ≡ last_of None (parts_view c.args.out.now.items) = c.last_part.ensures ∙ ap (λ xs. last_of None (parts_view xs)) c.as_slice.ensures.value in
    let before : c.is_seam-is_before.result ≡ part_seam (last_of None (parts_view c.args.out.now.items)) (first_of put behind) =
    c.is_seam-is_before.ensures ∙ ap₂ part_seam last c.first_part.ensures in
    put_parted (parts_view c.args.out.now.items) (parts_view c.push_separator_if.new.out.items) (parts_view c.copy.new.out.items) (parts_view c.push_separator_if-2.new.out.items) put behind
    c.is_seam-is_before.result c.is_parted_after-is_after.result c.in_ok-push_separator_if.ensures c.in_ok-copy.ensures c.in_ok-push_separator_if-2.ensures before c.is_parted_after-is_after.ensures
