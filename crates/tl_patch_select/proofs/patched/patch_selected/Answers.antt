use Rattle.std.proofs.Common.{rules, ◌≡◌, Err, List, ℕ, map, subst}
use Rattle.tl_patch.specs.Pages.{IsPatched}
use Rattle.tl_patch.specs.PatchView.{PlacedChange, change_view, patch_view}
use Rattle.tl_patch_spec.specs.TagChanges.{TagChange}
use Rattle.tl_patch_select.specs.Errors.{error_of_patch}
use Rattle.tl_patch_select.specs.Patched.{changes_at}
use Rattle.tl_patch_select.specs.Selected.{AreSelected}
use Rattle.tl_patch_select.proofs.Reasons.{SaysOfTags, tag_reason_of_patch}
use Rattle.tl_patch_select.proofs.patched.patch_selected.Goals as goal

pub returns-clause-patched : goal.returns-clause-patched
returns-clause-patched c =
    let page : List ℕ = c.args.page.now in
    let text : List ℕ = c.in_ok-bytes.bytes.items in
    let changes : map patch_view c.in_ok-patches.patches.items ≡ changes_at (change_view c.args.change) c.in_ok-selected.selected.places.items = search rules in
    let made : IsPatched (map patch_view c.in_ok-patches.patches.items) page text = search rules in
    record {
      selected = record {
        numbers = c.in_ok-selected.selected.numbers.items;
        found = c.in_ok-selected.ensures.found;
        are_places = c.in_ok-selected.ensures.places;
      };
      tagged = search rules;
      patched = subst (λ (changes : List PlacedChange). IsPatched changes page text) changes made;
    }

pub returns-in_err-bytes-clause-refused : goal.returns-in_err-bytes-clause-refused
returns-in_err-bytes-clause-refused c =
    let page : List ℕ = c.args.page.now in
    let places : List ℕ = c.in_ok-selected.selected.places.items in
    let change : TagChange = change_view c.args.change in
    let changes : map patch_view c.in_ok-patches.patches.items ≡ changes_at change places = search rules in
    let says : SaysOfTags page (map patch_view c.in_ok-patches.patches.items) c.patch.result = record {
      no_start_tag = λ p q. search (rules, q);
      not_written = λ p q. search (rules, q);
    } in
    let selected : AreSelected c.args.selector.now c.args.tree.now places = record {
      numbers = c.in_ok-selected.selected.numbers.items;
      found = c.in_ok-selected.ensures.found;
      are_places = c.in_ok-selected.ensures.places;
    } in
    let is : c.from_residual-in_err-bytes.result ≡ Err (error_of_patch c.in_err-bytes.field-0.0) = search rules in
    rw is (tag_reason_of_patch c.args.selector.now change c.args.tree.now page places c.patch.result c.in_err-bytes.field-0.0 selected c.in_err-bytes.was
    (subst (λ (changes : List PlacedChange). SaysOfTags page changes c.patch.result) changes says))
