use Rattle.std.proofs.Common.{◌≡◌, ◌∙◌, List, ap, map, rules, subst, sym, ℕ}
use Rattle.tl_page.specs.Outcome.{success}
use Rattle.tl_tree.specs.declared.tree.Tree.{Tree}
use Rattle.tl_tree_select.proofs.Founds.{found_once}
use Rattle.tl_tree_select.specs.Meaning.{AreFound}
use Rattle.tl_tree_select.specs.Page.{page_of}
use Rattle.tl_c.specs.Queries.{short}
use Rattle.tl_c.proofs.Rows.{holds_within, shorts_same}
use Rattle.tl_c.proofs.css.select.Goals as goal

pub returns : goal.returns
returns c =
    let tree : Tree = c.in-Some.own.value.tree in
    let e = c.args.selector.now in
    let ns : List ℕ = c.in_ok-numbers.numbers.items in
    let own = c.deref.ensures in
    let lent : c.deref.result.now.tree ≡ tree = search rules in
    let found : AreFound (page_of tree) e ns = subst (λ (t : Tree). AreFound (page_of t) e ns) lent c.in_ok-numbers.ensures in
    let same : map short ns ≡ ns = shorts_same tree ns (λ n has. holds_within (page_of tree) e n ((found.each n).0 has).0) in
    rw c.in-Some.is (λ ms are.
    ap success (found_once (page_of tree) e ms ns are found ∙ sym same ∙ ap (map short) (sym c.as_slice.ensures.value) ∙ sym c.in_ok-short_numbers.ensures))
