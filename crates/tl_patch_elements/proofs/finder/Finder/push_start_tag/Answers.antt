use Rattle.tl_patch_elements.proofs.finder.Finder.push_start_tag.Goals as goal

pub returns : goal.returns
returns c = c.in_ok-push_kept_tag.ensures
