use Rattle.tl_tree_select.proofs.search.closest.Goals as goal

pub innermost-requires : goal.innermost-requires
innermost-requires c = (c.args.selector.now, c.in_ok-finder.ensures)

pub returns : goal.returns
returns c = c.in_ok-found.ensures c.args.selector.now c.in_ok-finder.ensures
