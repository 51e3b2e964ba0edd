use Rattle.std.proofs.Common.{◌≡◌, ◌∙◌, Bool, ap, sym}
use Rattle.tl_page.specs.Outcome.{success}
use Rattle.tl_tree.specs.declared.tree.Tree.{Tree}
use Rattle.tl_tree_select.specs.Meaning.{Holds}
use Rattle.tl_tree_select.specs.Page.{page_from}
use Rattle.tl_c.specs.Queries.{one_if}
use Rattle.tl_c.proofs.Selectors.{one_answer}
use Rattle.tl_c.proofs.css.holds_at.Goals as goal

pub returns : goal.returns
returns c =
    let tree : Tree = c.in-Some.tree.now in
    let e = c.args.selector.now in
    let node = c.args.node in
    let found : Bool = c.in_ok-holds.holds in
    rw (sym c.in-Some.ensures) (λ holds tells.
    ap success (ap one_if (one_answer holds found (Holds (page_from tree node) e node) tells c.in_ok-holds.ensures) ∙ sym c.one_if.ensures))
