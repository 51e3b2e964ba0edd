use Rattle.std.proofs.Common.{subst, sym}
use Rattle.tl_css.specs.Selector.{Css}
use Rattle.tl_tree_select.specs.Inner.Finding.{Finds}
use Rattle.tl_tree_select.specs.Page.{seen}
use Rattle.tl_tree_select.proofs.finder.Finder.new.Goals as goal

pub returns-then-is_compound : goal.returns-then-is_compound
returns-then-is_compound c =
    let page = seen c.args.page.now in
    subst (λ (e : Css). Finds page e c.compound.result) (sym c.steps-steps.ensures) c.compound.ensures
