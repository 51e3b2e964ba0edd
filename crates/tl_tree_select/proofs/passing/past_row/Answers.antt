use Rattle.std.proofs.Common.{◌≡◌, ◌∙◌, false, rules, sym, true}
use Rattle.std.proofs.lemmas.Bool.{false≢true}
use Rattle.tl_tree.specs.Asked.{node_at}
use Rattle.tl_tree_select.specs.Inner.Kin.{is_element_at}
use Rattle.tl_tree_select.specs.Page.{seen}
use Rattle.tl_tree_select.proofs.Contents.{same_ends}
use Rattle.tl_tree_select.proofs.Looks.{element_isnt_contents, seen_element}
use Rattle.tl_tree_select.proofs.Siblings.{is_element_is}
use Rattle.tl_tree_select.proofs.passing.past_row.Goals as goal

pub returns-then-not-is_element_at-clause-none : goal.returns-then-not-is_element_at-clause-none
returns-then-not-is_element_at-clause-none c h =
    let page = seen c.args.page.now in
    let other : is_element_at page c.args.number ≡ false = search rules in
    false≢true (sym other ∙ (is_element_is page c.args.number).1 (seen_element page c.args.look c.args.number c.requires h))

pub returns-clause-past : goal.returns-clause-past
returns-clause-past c start le ends =
    let page = seen c.args.page.now in
    let is : is_element_at page c.args.number ≡ true = search rules in
    same_ends page start c.args.number c.args.behind (element_isnt_contents (node_at page.rows c.args.number) is) ends
