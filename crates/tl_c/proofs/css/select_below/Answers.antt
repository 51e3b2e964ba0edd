use Rattle.std.proofs.Common.{◌≡◌, ◌∙◌, List, ap, map, sym, ℕ}
use Rattle.tl_page.specs.Outcome.{success}
use Rattle.tl_tree.specs.declared.tree.Tree.{Tree}
use Rattle.tl_tree_select.specs.Page.{page_from}
use Rattle.tl_c.specs.Queries.{short}
use Rattle.tl_c.proofs.Founds.{below_once}
use Rattle.tl_c.proofs.Rows.{holds_within, shorts_same}
use Rattle.tl_c.proofs.css.select_below.Goals as goal

pub returns : goal.returns
returns c =
    let tree : Tree = c.in-Some.tree.now in
    let e = c.args.selector.now in
    let node = c.args.node in
    let ns : List ℕ = c.in_ok-numbers.numbers.items in
    let found = c.in_ok-numbers.ensures in
    let same : map short ns ≡ ns = shorts_same tree ns (λ n has. holds_within (page_from tree node) e n ((found.each n).0 has).0) in
    rw (sym c.in-Some.ensures) (λ ms are.
    ap success
    (below_once (page_from tree node) e node ms ns are found ∙ sym same ∙ ap (map short) (sym c.as_slice.ensures.value)
    ∙ sym c.in_ok-short_numbers.ensures))
