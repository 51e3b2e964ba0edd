use Rattle.std.proofs.Common.{◌≡◌, ◌↔◌, ℕ, Bool, true, subst}
use Rattle.tl_tree_select.specs.Page.{seen}
use Rattle.tl_tree_select.specs.Inner.Columns.{IsPassed}
use Rattle.tl_tree_select.specs.Inner.Links.{is_at}
use Rattle.tl_tree_select.proofs.Trees.{tree_up}
use Rattle.tl_tree_select.proofs.Siblings.{links_lower}
use Rattle.tl_tree_select.proofs.Relatives.{marks_related}
use Rattle.tl_tree_select.proofs.columns.relatives.Goals as goal

pub pass_marks-requires : goal.pass_marks-requires
pass_marks-requires c =
    links_lower (seen c.args.page.now) (tree_up c.args.page.now.tree.now) c.args.relation.1 c.args.links.now c.requires.links

pub returns : goal.returns
returns c e are =
    let page = seen c.args.page.now in
    let links = c.args.links.now in
    let marks = c.args.marks.now in
    let found = c.in_ok-found.found.items in
    marks_related page c.args.relation.1 links c.requires.links e marks are c.args.relation.0 c.args.relation.2 c.requires.kept found
    c.in_ok-found.ensures.len
    (subst (λ (often : Bool). (n : ℕ) → (is_at found n ≡ true) ↔ IsPassed links marks c.args.relation.0 often n) c.is_often.ensures c.in_ok-found.ensures.each)
