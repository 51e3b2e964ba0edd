use Rattle.std.proofs.Common.{◌≡◌, ◌∙◌, Some, arith, false, inl, inr, refl, rules, sym}
use Rattle.std.proofs.lemmas.Bool.{false≢true}
use Rattle.tl_tree.specs.Asked.{end_at, node_at}
use Rattle.tl_tree.specs.Rows.{contents}
use Rattle.tl_tree_select.specs.Page.{seen}
use Rattle.tl_tree_select.proofs.Contents.{more_ends, same_ends}
use Rattle.tl_tree_select.proofs.passing.end_of_contents.Goals as goal

pub returns-then-not-is_contents_at : goal.returns-then-not-is_contents_at
returns-then-not-is_contents_at c start le ends =
    let none : c.is_contents_at.result ≡ false = search rules in
    same_ends (seen c.args.page.now) start c.args.number c.args.behind (λ here. false≢true (sym none ∙ c.is_contents_at.ensures.1 here)) ends

pub returns-in-Some : goal.returns-in-Some
returns-in-Some c start le ends =
    let page = seen c.args.page.now in
    let here : node_at page.rows c.args.number ≡ Some contents = c.is_contents_at.ensures.0 (search rules) in
    let at : end_at page.rows c.args.number ≡ Some c.in-Some.end = search rules in
    more_ends page start c.args.number c.args.behind c.in-Some.end c.in-Some.end le here at (omega arith) (omega arith) (inr refl) ends

pub returns-in_default : goal.returns-in_default
returns-in_default c start le ends =
    let page = seen c.args.page.now in
    let here : node_at page.rows c.args.number ≡ Some contents = c.is_contents_at.ensures.0 (search rules) in
    let at : end_at page.rows c.args.number ≡ Some c.in-Some.end = search rules in
    more_ends page start c.args.number c.args.behind c.in-Some.end c.args.behind le here at (omega arith) (omega arith) (inl refl) ends
