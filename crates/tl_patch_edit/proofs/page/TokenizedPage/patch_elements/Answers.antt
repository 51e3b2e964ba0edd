use Rattle.std.proofs.Common.{◌≡◌, ℕ, List, ap, subst, ◌∙◌}
use Rattle.std.specs.Prelude.{IfOk}
use Rattle.tl_patch_spec.specs.Patches.{Patch}
use Rattle.tl_patch_spec.specs.Together.{at_each}
use Rattle.tl_patch_edit.specs.Errors.{CannotBeMeant, CannotBeRead, CannotBeWritten, LacksStartTag, MayBeMisread, StandAcross, StandsPastEnd}
use Rattle.tl_patch_edit.specs.Kept.{KeepRawTexts}
use Rattle.tl_patch_edit.specs.Several.{AreEdited, places_of}
use Rattle.tl_patch_edit.specs.View.{patch_view, patches_view}
use Rattle.tl_patch_edit.proofs.Together.{none_viewed}
use Rattle.tl_patch_edit.proofs.page.TokenizedPage.patch_elements.Goals as goal

pub returns-clause-edited : goal.returns-clause-edited
returns-clause-edited c =
    let same : patches_view c.as_slice.result.now ≡ at_each (patch_view c.args.patch) c.args.places.now = ap patches_view c.as_slice.ensures.value ∙ c.in_ok-patches.ensures in
    subst (λ (ps : List (ℕ × Patch)). IfOk c.patch_each.result (λ text. AreEdited ps c.args.self.page.now text.items)) same c.patch_each.ensures.edited

pub returns-clause-kept : goal.returns-clause-kept
returns-clause-kept c =
    let same : patches_view c.as_slice.result.now ≡ at_each (patch_view c.args.patch) c.args.places.now = ap patches_view c.as_slice.ensures.value ∙ c.in_ok-patches.ensures in
    subst (λ (ps : List (ℕ × Patch)). IfOk c.patch_each.result (λ _. KeepRawTexts ps c.args.self.page.now)) same c.patch_each.ensures.kept

pub returns-clause-unchanged : goal.returns-clause-unchanged
returns-clause-unchanged c = λ e.
    let same : patches_view c.as_slice.result.now ≡ at_each (patch_view c.args.patch) c.args.places.now = ap patches_view c.as_slice.ensures.value ∙ c.in_ok-patches.ensures in
    c.patch_each.ensures.unchanged (none_viewed c.as_slice.result.now (same ∙ ap (at_each (patch_view c.args.patch)) e))

pub returns-clause-no_start : goal.returns-clause-no_start
returns-clause-no_start c = λ p e.
    let same : patches_view c.as_slice.result.now ≡ at_each (patch_view c.args.patch) c.args.places.now = ap patches_view c.as_slice.ensures.value ∙ c.in_ok-patches.ensures in
    subst (λ (ps : List (ℕ × Patch)). LacksStartTag c.args.self.page.now (places_of ps) p) same (c.patch_each.ensures.no_start p e)

pub returns-clause-not_meant : goal.returns-clause-not_meant
returns-clause-not_meant c = λ p e.
    let same : patches_view c.as_slice.result.now ≡ at_each (patch_view c.args.patch) c.args.places.now = ap patches_view c.as_slice.ensures.value ∙ c.in_ok-patches.ensures in
    subst (λ (ps : List (ℕ × Patch)). CannotBeMeant c.args.self.page.now ps p) same (c.patch_each.ensures.not_meant p e)

pub returns-clause-across : goal.returns-clause-across
returns-clause-across c = λ p e.
    let same : patches_view c.as_slice.result.now ≡ at_each (patch_view c.args.patch) c.args.places.now = ap patches_view c.as_slice.ensures.value ∙ c.in_ok-patches.ensures in
    subst (λ (ps : List (ℕ × Patch)). StandAcross c.args.self.page.now ps p) same (c.patch_each.ensures.across p e)

pub returns-clause-past_end : goal.returns-clause-past_end
returns-clause-past_end c = λ p e.
    let same : patches_view c.as_slice.result.now ≡ at_each (patch_view c.args.patch) c.args.places.now = ap patches_view c.as_slice.ensures.value ∙ c.in_ok-patches.ensures in
    subst (λ (ps : List (ℕ × Patch)). StandsPastEnd c.args.self.page.now ps p) same (c.patch_each.ensures.past_end p e)

pub returns-clause-not_written : goal.returns-clause-not_written
returns-clause-not_written c = λ p e.
    let same : patches_view c.as_slice.result.now ≡ at_each (patch_view c.args.patch) c.args.places.now = ap patches_view c.as_slice.ensures.value ∙ c.in_ok-patches.ensures in
    subst (λ (ps : List (ℕ × Patch)). CannotBeWritten c.args.self.page.now ps p) same (c.patch_each.ensures.not_written p e)

pub returns-clause-read_otherwise : goal.returns-clause-read_otherwise
returns-clause-read_otherwise c = λ p e.
    let same : patches_view c.as_slice.result.now ≡ at_each (patch_view c.args.patch) c.args.places.now = ap patches_view c.as_slice.ensures.value ∙ c.in_ok-patches.ensures in
    subst (λ (ps : List (ℕ × Patch)). CannotBeRead c.args.self.page.now ps p) same (c.patch_each.ensures.read_otherwise p e)

pub returns-clause-misread : goal.returns-clause-misread
returns-clause-misread c = λ p by e.
    let same : patches_view c.as_slice.result.now ≡ at_each (patch_view c.args.patch) c.args.places.now = ap patches_view c.as_slice.ensures.value ∙ c.in_ok-patches.ensures in
    subst (λ (ps : List (ℕ × Patch)). MayBeMisread c.args.self.page.now ps p by) same (c.patch_each.ensures.misread p by e)
