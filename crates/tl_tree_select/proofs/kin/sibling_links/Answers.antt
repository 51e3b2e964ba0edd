use Rattle.tl_tree_select.proofs.Siblings.{siblings_to_last}
use Rattle.tl_tree_select.proofs.kin.sibling_links.Goals as goal

pub returns : goal.returns
returns c needed page are =
    siblings_to_last page c.args.groups.now c.in_ok-links.links.items are c.in_ok-links.ensures.len c.in_ok-links.ensures.each
