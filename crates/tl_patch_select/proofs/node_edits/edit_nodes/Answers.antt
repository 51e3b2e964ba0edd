use Rattle.std.proofs.Common.{rules, ◌≡◌, ◌∙◌, Err, List, [], None, ℕ, ap, length, map, subst, sym}
use Rattle.std.proofs.lemmas.Bool.{eqb-true}
use Rattle.tl_patch_edit.specs.Kept.{KeepRawTexts}
use Rattle.tl_patch_edit.specs.Several.{AreEdited}
use Rattle.tl_patch_edit.specs.View.{patches_view}
use Rattle.tl_patch_spec.specs.Patches.{Patch}
use Rattle.tl_patch_select.specs.Errors.{error_of_edit}
use Rattle.tl_patch_select.specs.NodeEdits.{AreEditsInOrder, edit_of, placed_edits}
use Rattle.tl_patch_select.specs.Selected.{ArePlacesOf, untagged_at}
use Rattle.tl_patch_select.proofs.Reasons.{SaysOfElements, edits_reason_of_edit, whole_selected}
use Rattle.tl_patch_select.specs.declared.node_edit.NodeEdit.{NodeEdit}
use Rattle.tl_patch_select.proofs.Unchanged.{no_items, nodes_unchanged}
use Rattle.tl_patch_select.proofs.node_edits.edit_nodes.Goals as goal

pub returns-clause-edited : goal.returns-clause-edited
returns-clause-edited c =
    let page : List ℕ = c.args.page.now in
    let text : List ℕ = c.in_ok-bytes.bytes.items in
    let numbers : List ℕ = c.in_ok-numbers.numbers.items in
    let sorted : List (ℕ × Patch) = patches_view c.in_ok-patches.patches.items in
    let own : List ℕ = c.in_ok-tokenized.tokenized.page.now in
    let same : own ≡ page = c.in_ok-tokenized.ensures in
    let made : AreEdited sorted own text = search rules in
    let kept : KeepRawTexts sorted own = search rules in
    let places : ArePlacesOf c.args.tree.now numbers c.in_ok-places.places.items = search rules in
    let none : untagged_at c.args.tree.now (length page) numbers ≡ None = search rules in
    record {
      numbers = numbers;
      are_numbers = c.in_ok-numbers.ensures;
      tagged = none;
      whole = whole_selected page own c.args.tree.now _ _ c.in_ok-found.found (search rules) (search rules) same c.in_ok-found.ensures.whole;
      are_places = places;
      sorted = sorted;
      in_order = c.in_ok-patches.ensures;
      edited = subst (λ (q : List ℕ). AreEdited sorted q text) same made;
      kept = subst (λ (q : List ℕ). KeepRawTexts sorted q) same kept;
    }

pub returns-in_err-bytes-clause-refused : goal.returns-in_err-bytes-clause-refused
returns-in_err-bytes-clause-refused c =
    let page : List ℕ = c.args.page.now in
    let sorted : List (ℕ × Patch) = patches_view c.in_ok-patches.patches.items in
    let own : List ℕ = c.in_ok-tokenized.tokenized.page.now in
    let says : SaysOfElements own sorted c.patch_each.result = record {
      no_start = λ p q. search (rules, q);
      not_meant = λ p q. search (rules, q);
      past_end = λ p q. search (rules, q);
      not_written = λ p q. search (rules, q);
      across = λ p q. search (rules, q);
      misread = λ p by q. search (rules, q);
      read_otherwise = λ p q. search (rules, q);
    } in
    let is : c.from_residual-in_err-bytes.result ≡ Err (error_of_edit c.in_err-bytes.field-0.0) = search rules in
    rw is (edits_reason_of_edit (map edit_of c.args.edits.now) c.args.tree.now page sorted c.patch_each.result c.in_err-bytes.field-0.0 c.in_ok-patches.ensures c.in_err-bytes.was
    (subst (λ (q : List ℕ). SaysOfElements q sorted c.patch_each.result) c.in_ok-tokenized.ensures says))

pub returns-then-is_empty-clause-edited : goal.returns-then-is_empty-clause-edited
returns-then-is_empty-clause-edited c =
    let edits : List NodeEdit = c.args.edits.now in
    let none : edits ≡ [] = no_items edits (eqb-true (length edits) 0 (sym c.is_empty.ensures ∙ c.if-is_empty.true)) in
    nodes_unchanged (map edit_of edits) c.args.tree.now c.args.page.now c.in_ok-patched.patched.bytes.items c.in_ok-patched.patched.places.items
    (ap (map edit_of) none) c.in_ok-patched.ensures.places c.in_ok-patched.ensures.edited c.in_ok-patched.ensures.kept
