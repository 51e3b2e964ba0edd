use Rattle.tl_tree_safe.proofs.start_tag.write_mark.Goals as goal

pub returns : goal.returns
returns c = c.in_ok-extend_from_slice.ensures.items
