use Rattle.std.proofs.Common.{◌↔◌, subst, sym}
use Rattle.tl_css.specs.Selector.{Css}
use Rattle.tl_tree_select.specs.Inner.Compound.{HoldFrom}
use Rattle.tl_tree_select.specs.Inner.Finding.{Finds, IsAnswered}
use Rattle.tl_tree_select.specs.Meaning.{Holds}
use Rattle.tl_tree_select.specs.Page.{seen}
use Rattle.tl_tree_select.specs.declared.finder.Finder.{Finder}
use Rattle.tl_tree_select.proofs.Looks.{ok_like, rest_holds}
use Rattle.tl_tree_select.proofs.finder.Finder.holds_seen.Goals as goal

pub returns-in-Compound : goal.returns-in-Compound
returns-in-Compound c e finds answered =
    let page = seen c.args.page.now in
    let n = c.args.number in
    let own = subst (Finds page e) c.in-Compound.is finds in
    let below = subst (λ (f : Finder). IsAnswered page f n) c.in-Compound.is answered in
    let steps = c.in-Compound.steps.now in
    let from = c.in-Compound.asked in
    ok_like c.hold_from.result (HoldFrom page steps from n) (Holds page e n)
    (subst (λ (e : Css). HoldFrom page steps from n ↔ Holds page e n) (sym own.1) (rest_holds page n steps from own.0 below))
    c.hold_from.ensures
