use Rattle.std.proofs.Common.{rules, arith, ◌≡◌, ◌∙◌, Err, List, [], length, ℕ, subst, sym, vec_len}
use Rattle.std.proofs.lemmas.Bool.{eqb-true}
use Rattle.tl_patch_edit.specs.Kept.{KeepRawTexts}
use Rattle.tl_patch_edit.specs.Several.{AreEdited}
use Rattle.tl_patch_edit.specs.View.{patch_view}
use Rattle.tl_patch_spec.specs.Patches.{Patch}
use Rattle.tl_patch_spec.specs.Together.{at_each}
use Rattle.tl_patch_select.specs.Errors.{error_of_edit}
use Rattle.tl_patch_select.specs.Selected.{AreSelected}
use Rattle.tl_patch_select.proofs.Reasons.{SaysOfElements, element_reason_of_edit, whole_selected}
use Rattle.tl_patch_select.proofs.Unchanged.{no_items, unchanged_where}
use Rattle.tl_patch_select.proofs.edited.edit_selected.Goals as goal

pub returns-clause-edited : goal.returns-clause-edited
returns-clause-edited c =
    let page : List ℕ = c.args.page.now in
    let text : List ℕ = c.in_ok-bytes.bytes.items in
    let patch : Patch = patch_view c.args.patch in
    let own : List ℕ = c.in_ok-tokenized.tokenized.page.now in
    let same : own ≡ page = c.in_ok-tokenized.ensures in
    let made : AreEdited (at_each patch c.as_slice-2.result.now) own text = c.in_ok-bytes.ensures.edited in
    let kept : KeepRawTexts (at_each patch c.as_slice-2.result.now) own = c.in_ok-bytes.ensures.kept in
    record {
      selected = record {
        numbers = c.in_ok-selected.selected.numbers.items;
        found = c.in_ok-selected.ensures.found;
        are_places = c.in_ok-selected.ensures.places;
      };
      tagged = search rules;
      whole = whole_selected page own c.args.tree.now _ c.as_slice.result.now c.in_ok-found.found c.as_slice.ensures.value (search rules) same c.in_ok-found.ensures.whole;
      edited = subst (λ (q : List ℕ). AreEdited (at_each patch c.in_ok-selected.selected.places.items) q text) same (subst (λ (places : List ℕ). AreEdited (at_each patch places) own text) c.as_slice-2.ensures.value made);
      kept = subst (λ (q : List ℕ). KeepRawTexts (at_each patch c.in_ok-selected.selected.places.items) q) same (subst (λ (places : List ℕ). KeepRawTexts (at_each patch places) own) c.as_slice-2.ensures.value kept);
    }

pub returns-in_err-bytes-clause-refused : goal.returns-in_err-bytes-clause-refused
returns-in_err-bytes-clause-refused c =
    let page : List ℕ = c.args.page.now in
    let places : List ℕ = c.in_ok-selected.selected.places.items in
    let patch : Patch = patch_view c.args.patch in
    let own : List ℕ = c.in_ok-tokenized.tokenized.page.now in
    let says : SaysOfElements own (at_each patch c.as_slice-2.result.now) c.patch_elements.result = record {
      no_start = λ p q. search (rules, q);
      not_meant = λ p q. search (rules, q);
      past_end = λ p q. search (rules, q);
      not_written = λ p q. search (rules, q);
      across = λ p q. search (rules, q);
      misread = λ p by q. search (rules, q);
      read_otherwise = λ p q. search (rules, q);
    } in
    let selected : AreSelected c.args.selector.now c.args.tree.now places = record {
      numbers = c.in_ok-selected.selected.numbers.items;
      found = c.in_ok-selected.ensures.found;
      are_places = c.in_ok-selected.ensures.places;
    } in
    let is : c.from_residual-in_err-bytes.result ≡ Err (error_of_edit c.in_err-bytes.field-0.0) = search rules in
    rw is (element_reason_of_edit c.args.selector.now patch c.args.tree.now page places c.patch_elements.result c.in_err-bytes.field-0.0 selected c.in_err-bytes.was
    (subst (λ (q : List ℕ). SaysOfElements q (at_each patch places) c.patch_elements.result) c.in_ok-tokenized.ensures
    (subst (λ (ps : List ℕ). SaysOfElements own (at_each patch ps) c.patch_elements.result) c.as_slice-2.ensures.value says)))

pub returns-then-is_empty-clause-edited : goal.returns-then-is_empty-clause-edited
returns-then-is_empty-clause-edited c =
    let numbers : List ℕ = c.in_ok-selected.selected.numbers.items in
    let empty : vec_len c.in_ok-selected.selected.numbers ≡ 0 = eqb-true (vec_len c.in_ok-selected.selected.numbers) 0 (sym c.is_empty.ensures ∙ c.if-is_empty.true) in
    let zero : length numbers ≡ 0 = omega (arith, empty, c.in_ok-selected.selected.numbers.ok.0) in
    let none : numbers ≡ [] = no_items numbers zero in
    unchanged_where c.args.selector.now (patch_view c.args.patch) c.args.tree.now c.args.page.now c.in_ok-patched.patched.bytes.items numbers c.in_ok-patched.patched.places.items
    c.in_ok-selected.ensures.found none c.in_ok-patched.ensures.places c.in_ok-patched.ensures.edited c.in_ok-patched.ensures.kept
