use Rattle.std.proofs.Common.{◌∙◌, List, ℕ, subst, sym}
use Rattle.tl_tree_select.specs.Inner.Kin.{AreSiblingGroups}
use Rattle.tl_tree_select.specs.Page.{seen}
use Rattle.tl_tree_select.proofs.Kins.{kin_of}
use Rattle.tl_tree_select.proofs.kin.Kin.new.Goals as goal

pub returns : goal.returns
returns c =
    let page = seen c.args.page.now in
    kin_of page (record { parents = c.in_ok-parents.parents; siblings = c.in_ok-siblings.siblings; twins = c.in_ok-twins.twins }) c.args.steps.now
    (λ h. c.in_ok-parents.ensures (c.needs-needs_parents.ensures ∙ h))
    (λ h. c.in_ok-siblings.ensures (c.needs-needs_siblings.ensures ∙ h) page
    (subst (λ (groups : List ℕ). AreSiblingGroups page groups) (sym c.deref.ensures.value) c.in_ok-groups.ensures))
    (λ h. c.in_ok-twins.ensures (c.needs-needs_twins.ensures ∙ h))
