use Rattle.std.proofs.Common.{◌≡◌, length, arith}
use Rattle.tl_tree_select.specs.Page.{seen}
use Rattle.tl_tree_select.proofs.Siblings.{parents_linked}
use Rattle.tl_tree_select.proofs.Trees.{tree_small, tree_up}
use Rattle.tl_tree_select.proofs.kin.parents.Goals as goal

pub returns : goal.returns
returns c =
    let page = seen c.args.page.now in
    let all : c.loop-number.number ≡ length page.rows = omega arith in
    let len = c.loop-number.invariant.len in
    parents_linked page (tree_up c.args.page.now.tree.now) (tree_small c.args.page.now.tree.now) c.loop-number.links.items (omega (arith, len, all))
    (λ m w. c.loop-number.invariant.each m (omega (arith, w, all)))
