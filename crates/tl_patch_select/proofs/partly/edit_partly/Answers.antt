use Rattle.std.proofs.Common.{rules, Err, List, ap, ap₂, length, map, reverse, subst, ℕ, ◌∙◌, ◌≡◌}
use Rattle.tl_patch_edit.specs.View.{patch_view}
use Rattle.tl_patch_select.proofs.Told.{rest_refused}
use Rattle.tl_patch_select.specs.NodeEdits.{AreEditsReason, AreNodesEdited, edit_of}
use Rattle.tl_patch_select.specs.Partly.{AreRefusedOf, crossed_places, others, patched_each, put_in_places, refused_places}
use Rattle.tl_patch_select.specs.Whole.{AreCrossed}
use Rattle.tl_patch_select.specs.declared.partly.LeftOut.{LeftOut}
use Rattle.tl_patch_select.specs.declared.whole.Crossed.{Crossed}
use Rattle.tl_patch_spec.specs.Patches.{Patch}
use Rattle.tl_patch_select.proofs.partly.edit_partly.Goals as goal

pub returns-clause-left_out : goal.returns-clause-left_out
returns-clause-left_out c =
    let tree = c.args.tree.now in
    let page : List ℕ = c.args.page.now in
    let numbers : List ℕ = c.args.numbers.now in
    let crossed : List Crossed = c.in_ok-crossed.crossed.items in
    let whole : c.in_ok-whole.whole.items ≡ others tree (crossed_places crossed) numbers =
    c.in_ok-whole.ensures ∙ ap (λ (ts : List ℕ). others tree ts numbers) (c.as_slice-4.ensures.value ∙ c.in_ok-told.ensures ∙ ap crossed_places c.as_slice-3.ensures.value) in
    record {
      put_in = c.in_ok-untagged.ensures ∙ ap (put_in_places tree (length page)) (c.as_slice.ensures.value ∙ c.in_ok-back.ensures);
      not_whole = subst (λ (ns : List ℕ). AreCrossed page tree ns crossed) (c.as_slice-2.ensures.value ∙ c.in_ok-back.ensures) c.in_ok-crossed.ensures;
      errors = subst (λ (ns : List ℕ). AreRefusedOf (patch_view c.args.patch) tree page ns c.in_ok-refused.refused.items) (c.as_slice-5.ensures.value ∙ whole) c.in_ok-refused.ensures;
    }

pub returns-clause-numbers : goal.returns-clause-numbers
returns-clause-numbers c =
    let tree = c.args.tree.now in
    let numbers : List ℕ = c.args.numbers.now in
    let crossed : List Crossed = c.in_ok-crossed.crossed.items in
    let whole : c.in_ok-whole.whole.items ≡ others tree (crossed_places crossed) numbers =
    c.in_ok-whole.ensures ∙ ap (λ (ts : List ℕ). others tree ts numbers) (c.as_slice-4.ensures.value ∙ c.in_ok-told.ensures ∙ ap crossed_places c.as_slice-3.ensures.value) in
    c.in_ok-numbers.ensures
    ∙ ap₂ (λ (ts ns : List ℕ). others tree ts ns) (c.as_slice-7.ensures.value ∙ c.in_ok-told-2.ensures ∙ ap refused_places c.as_slice-6.ensures.value) (c.as_slice-8.ensures.value ∙ whole)

pub returns-clause-edited : goal.returns-clause-edited
returns-clause-edited c =
    let patch : Patch = patch_view c.args.patch in
    let patched = c.in_ok-patched.patched in
    subst (λ (edits : List (ℕ × Patch)). AreNodesEdited edits c.args.tree.now c.args.page.now patched.bytes.items patched.places.items)
    (ap (map edit_of) c.as_slice-10.ensures.value ∙ (c.in_ok-edits.ensures ∙ ap (patched_each patch) c.as_slice-9.ensures.value)) c.in_ok-patched.ensures.edited

pub returns-in_err-patched-clause-refused : goal.returns-in_err-patched-clause-refused
returns-in_err-patched-clause-refused c =
    let tree = c.args.tree.now in
    let page : List ℕ = c.args.page.now in
    let numbers : List ℕ = c.args.numbers.now in
    let patch : Patch = patch_view c.args.patch in
    let crossed : List Crossed = c.in_ok-crossed.crossed.items in
    let why = c.in_err-patched.field-0.0 in
    let is : c.from_residual-in_err-patched.result ≡ Err why = search rules in
    let whole : c.in_ok-whole.whole.items ≡ others tree (crossed_places crossed) numbers =
    c.in_ok-whole.ensures ∙ ap (λ (ts : List ℕ). others tree ts numbers) (c.as_slice-4.ensures.value ∙ c.in_ok-told.ensures ∙ ap crossed_places c.as_slice-3.ensures.value) in
    let left : c.in_ok-numbers.numbers.items ≡ others tree (refused_places c.in_ok-refused.refused.items) (others tree (crossed_places crossed) numbers) =
    c.in_ok-numbers.ensures
    ∙ ap₂ (λ (ts ns : List ℕ). others tree ts ns) (c.as_slice-7.ensures.value ∙ c.in_ok-told-2.ensures ∙ ap refused_places c.as_slice-6.ensures.value) (c.as_slice-8.ensures.value ∙ whole) in
    let out : LeftOut = record { untagged = c.in_ok-untagged.untagged; crossed = c.in_ok-crossed.crossed; refused = c.in_ok-refused.refused } in
    rw is (rest_refused patch tree page numbers why (record {
      out = out;
      left_out = record {
        put_in = c.in_ok-untagged.ensures ∙ ap (put_in_places tree (length page)) (c.as_slice.ensures.value ∙ c.in_ok-back.ensures);
        not_whole = subst (λ (ns : List ℕ). AreCrossed page tree ns crossed) (c.as_slice-2.ensures.value ∙ c.in_ok-back.ensures) c.in_ok-crossed.ensures;
        errors = subst (λ (ns : List ℕ). AreRefusedOf patch tree page ns c.in_ok-refused.refused.items) (c.as_slice-5.ensures.value ∙ whole) c.in_ok-refused.ensures;
      };
      reason = subst (λ (edits : List (ℕ × Patch)). AreEditsReason edits tree page why)
          (ap (map edit_of) c.as_slice-10.ensures.value ∙ (c.in_ok-edits.ensures ∙ ap (patched_each patch) (c.as_slice-9.ensures.value ∙ left))) c.in_err-patched.ensures.refused;
    }))
