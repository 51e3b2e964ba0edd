use Rattle.tl_patch_edit.proofs.EndTags.{tag_is}
use Rattle.tl_patch_edit.proofs.tag.end_tag.Goals as goal

pub returns-clause-tag : goal.returns-clause-tag
returns-clause-tag c =
    tag_is c.args.name.now _ _ _ _ c.new-tag.ensures.items c.in_ok-extend_from_slice.ensures.items c.in_ok-extend_from_slice-2.ensures.items c.in_ok-extend_from_slice-3.ensures.items c.requires
