use Rattle.std.proofs.Common.{◌≡◌, ◌∙◌, Some, ap, refl, subst, sym, ℕ}
use Rattle.std.specs.Option.{option_copied}
use Rattle.tl_tree_select.specs.Inner.Compound.{HoldBelow, first_test}
use Rattle.tl_tree_select.specs.Page.{seen}
use Rattle.tl_tree_select.proofs.Looks.{asked_hold, first_holds, first_passes}
use Rattle.tl_tree_select.proofs.finder.compound.Goals as goal

pub returns : goal.returns
returns c =
    let page = seen c.args.page.now in
    let steps = c.args.steps.now in
    let test = c.in-Some.test.now in
    let is : Some test ≡ first_test steps = sym (ap option_copied c.in-Some.is) ∙ c.first_test.ensures in (
      c.requires,
      refl,
      λ n h. c.of-passes.ensures.seen n (first_holds page n steps test c.requires is h),
      λ n own. subst (λ (asked : ℕ). HoldBelow page steps n asked) (sym c.one_if.ensures)
          (asked_hold page n steps c.of-passes.result.1 (λ yes.
          let enough = c.of-passes.ensures.passes yes in
          first_passes page n steps test is (enough.holds n (own enough.exact)))),
    )
