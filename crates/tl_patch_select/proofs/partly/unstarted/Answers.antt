use Rattle.std.proofs.Common.{ap, ◌∙◌}
use Rattle.tl_patch_edit.specs.Apart.{unstarted_in}
use Rattle.tl_patch_select.proofs.partly.unstarted.Goals as goal

pub returns : goal.returns
returns c = record {
  places = c.in_ok-places.places.items;
  are_places = c.in_ok-places.ensures;
  lack = c.in_ok-unstarted.ensures.exact ∙ ap (unstarted_in c.args.page.now) c.as_slice.ensures.value;
}
