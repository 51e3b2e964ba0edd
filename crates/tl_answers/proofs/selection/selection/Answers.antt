use Rattle.std.proofs.Common.{List, ap, rules, subst, ◌∙◌, ◌≡◌, ℕ}
use Rattle.std.specs.Prelude.{IfOk}
use Rattle.tl_answers.specs.Answers.{front, listing_of}
use Rattle.tl_answers.specs.Findings.{finding_of}
use Rattle.tl_tree.specs.Sources.{source_at}
use Rattle.tl_tree_select.proofs.Founds.{found_once}
use Rattle.tl_tree_select.specs.Page.{page_of}
use Rattle.tl_answers.proofs.selection.selection.Goals as goal

pub returns : goal.returns
returns c = λ trees m same asked.
    let query = c.args.query.now in
    let one : c.in_ok-numbers.numbers.items ≡ m.found = found_once (page_of c.args.tree.now) query.selector.now c.in_ok-numbers.numbers.items m.found c.in_ok-numbers.ensures asked.found in
    let lent : c.deref.result.now ≡ c.in_ok-numbers.numbers.items = search rules in
    let meant : c.front-meant.result.now ≡ front query.most m.found = c.front-meant.ensures ∙ ap (front query.most) (lent ∙ one) in
    subst (λ (numbers : List ℕ). IfOk c.list.result (λ output. finding_of output ≡ listing_of query.listing c.args.end.now trees (source_at c.args.tree.now) c.args.page.now numbers m.left_out)) meant (c.list.ensures trees m.left_out same asked.left_out)
