use Rattle.std.proofs.Common.{List, ap, ◌∙◌, ℕ}
use Rattle.tl_patch_edit.specs.Apart.{refused_apart}
use Rattle.tl_patch_edit.specs.View.{patch_view}
use Rattle.tl_patch_spec.specs.Together.{at_each}
use Rattle.tl_patch_select.proofs.partly.refused.Goals as goal

pub returns : goal.returns
returns c = record {
  places = c.in_ok-places.places.items;
  are_places = c.in_ok-places.ensures;
  refused = c.in_ok-errors.ensures.exact ∙ ap (λ (ps : List ℕ). refused_apart c.args.page.now (at_each (patch_view c.args.patch) ps)) c.as_slice.ensures.value;
}
