use Rattle.tl_tree_select.proofs.search.matches.Goals as goal

pub holds-requires : goal.holds-requires
holds-requires c = (c.args.selector.now, c.in_ok-finder.ensures)
