use Rattle.std.proofs.Common.{List, [], ap, subst, sym, ◌++◌, ◌∙◌, ◌≡◌, ℕ}
use Rattle.tl_patch_edit.specs.Several.{AreEdited}
use Rattle.tl_patch_edit.proofs.Misread.{none_kept}
use Rattle.tl_patch_edit.proofs.Refusals.{none_edited}
use Rattle.tl_patch_edit.proofs.patched.unchanged.Goals as goal

pub returns-clause-edited : goal.returns-clause-edited
returns-clause-edited c =
    let page : List ℕ = c.args.page.now in
    let is : c.extend_from_slice.new.self.items ≡ page = c.in_ok-extend_from_slice.ensures.items ∙ ap (λ (xs : List ℕ). xs ++ page) c.new-text.ensures.items in
    subst (λ (text : List ℕ). AreEdited [] page text) (sym is) (none_edited page)

pub returns-clause-kept : goal.returns-clause-kept
returns-clause-kept c = none_kept c.args.page.now
