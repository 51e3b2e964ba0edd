use Rattle.std.proofs.Common.{List, subst, sym, ℕ, ◌≡◌}
use Rattle.tl_answers.specs.Answers.{AreSelected}
use Rattle.tl_answers.specs.Pages.{searched}
use Rattle.tl_answers.proofs.Answered.{answered, page_is, refused}
use Rattle.tl_dom_spec.specs.HtmlTree.{html_tree}
use Rattle.tl_tree.specs.Rows.{rows_of}
use Rattle.tl_tree.specs.TreeView.{rows_in}
use Rattle.tl_tree_select.specs.Page.{Page, page_of}
use Rattle.tl_answers.proofs.page.answer_of_page.Goals as goal

pub returns-clause-made : goal.returns-clause-made
returns-clause-made c = λ m selected.
    let page : List ℕ = c.args.page.now in
    let question = c.args.question.now in
    let tree = c.in_ok-tree.tree in
    let rows : rows_in tree ≡ rows_of (html_tree page).trees = c.in_ok-tree.ensures.tree in
    let same : page_of tree ≡ searched page = page_is page tree rows c.in_ok-tree.ensures.quirks in
    let asked : AreSelected question (page_of tree) m = subst (λ (p : Page). AreSelected question p m) (sym same) selected in
    answered page tree rows question m c.args.end.now c.answer.result c.in_ok-tree.ensures.in_proportion c.in_ok-tree.ensures.sources
    (c.answer.ensures.made (html_tree page).trees m rows asked) (c.answer.ensures.fits m asked)

pub returns-clause-told : goal.returns-clause-told
returns-clause-told c =
    refused c.args.page.now c.in_ok-tree.tree c.in_ok-tree.ensures.tree c.args.question.now c.answer.result c.in_ok-tree.ensures.quirks c.in_ok-tree.ensures.in_proportion
    c.in_ok-tree.ensures.sources c.answer.ensures.told
