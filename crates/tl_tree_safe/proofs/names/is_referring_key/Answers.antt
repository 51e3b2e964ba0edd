use Rattle.tl_tree_safe.proofs.names.is_referring_key.Goals as goal

pub returns : goal.returns
returns c = c.is_among.ensures
