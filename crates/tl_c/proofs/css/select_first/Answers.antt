use Rattle.std.proofs.Common.{◌≡◌, ◌∙◌, Option, rules, subst, ℕ}
use Rattle.std.specs.Option.{option_map}
use Rattle.tl_page.specs.Outcome.{Gives, success}
use Rattle.tl_tree.specs.declared.tree.Tree.{Tree}
use Rattle.tl_tree_select.specs.Page.{page_of}
use Rattle.tl_c.specs.Queries.{outcome_of_some, short}
use Rattle.tl_c.proofs.Founds.{First, first_once, first_short}
use Rattle.tl_c.proofs.css.select_first.Goals as goal

pub returns : goal.returns
returns c =
    let tree : Tree = c.in-Some.own.value.tree in
    let e = c.args.selector.now in
    let found : Option ℕ = c.in_ok-found.found in
    let own = c.deref.ensures in
    let lent : c.deref.result.now.tree ≡ tree = search rules in
    let seen : First (page_of tree) e found = subst (λ (t : Tree). First (page_of t) e found) lent c.in_ok-found.ensures in
    rw c.in-Some.is (λ n first.
    let same : option_map short found ≡ n = first_short tree e found seen ∙ first_once (page_of tree) e found n seen first in
    subst (λ (o : Option ℕ). Gives (λ number. number) (outcome_of_some success o) c.short_found.result) same c.short_found.ensures)
