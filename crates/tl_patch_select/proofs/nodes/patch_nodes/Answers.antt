use Rattle.std.proofs.Common.{rules, None, ◌≡◌, Err, List, ℕ, length, map, subst, ◌∙◌}
use Rattle.tl_patch.specs.Pages.{IsPatched}
use Rattle.tl_patch.specs.PatchView.{PlacedChange, patch_view}
use Rattle.tl_patch_select.specs.Errors.{error_of_patch}
use Rattle.tl_patch_select.specs.Nodes.{AreInOrder, ChangeOf, all_placed, change_of, lacking_at, number_of}
use Rattle.tl_patch_select.specs.Selected.{ArePlacesOf}
use Rattle.tl_patch_select.proofs.Reasons.{SaysOfTags, nodes_reason_of_patch}
use Rattle.tl_patch_select.proofs.nodes.patch_nodes.Goals as goal

pub returns-clause-patched : goal.returns-clause-patched
returns-clause-patched c =
    let page : List ℕ = c.args.page.now in
    let text : List ℕ = c.in_ok-bytes.bytes.items in
    let places : List ℕ = c.in_ok-places.places.items in
    let asked : List ChangeOf = map change_of c.args.changes.now in
    let sorted : List PlacedChange = map patch_view c.sort.new.patches.items in
    let placed : map patch_view c.in_ok-patches.patches.items ≡ all_placed c.args.tree.now asked = search rules in
    let order : AreInOrder (map patch_view c.in_ok-patches.patches.items) sorted = search rules in
    let made : IsPatched sorted page text = search rules in
    let numbers : c.in_ok-numbers.numbers.items ≡ map number_of asked = search rules in
    let own : ArePlacesOf c.args.tree.now c.in_ok-numbers.numbers.items places = search rules in
    let none : lacking_at c.args.tree.now (length page) asked ≡ None = search rules in
    record {
      sorted = sorted;
      in_order = subst (λ (changes : List PlacedChange). AreInOrder changes sorted) placed order;
      tagged = none;
      patched = made;
      are_places = subst (λ (ns : List ℕ). ArePlacesOf c.args.tree.now ns places) numbers own;
    }

pub returns-in_err-bytes-clause-refused : goal.returns-in_err-bytes-clause-refused
returns-in_err-bytes-clause-refused c =
    let page : List ℕ = c.args.page.now in
    let asked : List ChangeOf = map change_of c.args.changes.now in
    let sorted : List PlacedChange = map patch_view c.sort.new.patches.items in
    let placed : map patch_view c.in_ok-patches.patches.items ≡ all_placed c.args.tree.now asked = search rules in
    let order : AreInOrder (map patch_view c.in_ok-patches.patches.items) sorted = search rules in
    let says : SaysOfTags page sorted c.patch.result = record {
      no_start_tag = λ p q. search (rules, q);
      not_written = λ p q. search (rules, q);
    } in
    let is : c.from_residual-in_err-bytes.result ≡ Err (error_of_patch c.in_err-bytes.field-0.0) = search rules in
    rw is (nodes_reason_of_patch asked c.args.tree.now page sorted c.patch.result c.in_err-bytes.field-0.0 (subst (λ (changes : List PlacedChange). AreInOrder changes sorted) placed order) c.in_err-bytes.was says)
