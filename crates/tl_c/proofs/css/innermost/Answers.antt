use Rattle.std.proofs.Common.{◌≡◌, ◌∙◌, Option, Some, ap, subst, sym, ℕ}
use Rattle.std.specs.Option.{option_map}
use Rattle.tl_page.specs.Outcome.{Gives, success}
use Rattle.tl_tree.specs.declared.tree.Tree.{Tree}
use Rattle.tl_tree_select.proofs.Trees.{tree_up}
use Rattle.tl_tree_select.specs.Page.{page_from}
use Rattle.tl_c.specs.Queries.{outcome_of_some, short, tree_in}
use Rattle.tl_c.proofs.Founds.{closest_once, closest_short}
use Rattle.tl_c.proofs.css.innermost.Goals as goal

pub returns : goal.returns
returns c =
    let tree : Tree = c.in-Some.tree.now in
    let e = c.args.selector.now in
    let node = c.args.node in
    let found : Option ℕ = c.in_ok-found.found in
    rw (sym c.in-Some.ensures) (λ n closest.
    let same : option_map short found ≡ n = closest_short tree e node found c.in_ok-found.ensures ∙ closest_once (page_from tree node) (tree_up tree) e node found n c.in_ok-found.ensures closest in
    subst (λ (o : Option ℕ). Gives (λ number. number) (outcome_of_some success o) c.short_found.result) same c.short_found.ensures)
