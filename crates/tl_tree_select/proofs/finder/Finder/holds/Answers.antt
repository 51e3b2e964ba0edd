use Rattle.std.proofs.Common.{◌↔◌, arith, subst, sym}
use Rattle.tl_css.specs.Selector.{Css}
use Rattle.tl_tree_select.specs.Inner.Compound.{HoldFrom}
use Rattle.tl_tree_select.specs.Inner.Finding.{Finds}
use Rattle.tl_tree_select.specs.Meaning.{Holds}
use Rattle.tl_tree_select.specs.Page.{seen}
use Rattle.tl_tree_select.proofs.Looks.{ok_like, rest_holds}
use Rattle.tl_tree_select.proofs.finder.Finder.holds.Goals as goal

pub returns-in-Compound : goal.returns-in-Compound
returns-in-Compound c e finds =
    let page = seen c.args.page.now in
    let n = c.args.number in
    let own = subst (Finds page e) c.in-Compound.is finds in
    let steps = c.in-Compound.steps.now in
    ok_like c.hold_from.result (HoldFrom page steps 0 n) (Holds page e n)
    (subst (λ (e : Css). HoldFrom page steps 0 n ↔ Holds page e n) (sym own.1) (rest_holds page n steps 0 own.0 (λ k lt. absurd (omega (arith, lt)))))
    c.hold_from.ensures
