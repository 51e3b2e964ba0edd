use Rattle.std.proofs.Common.{List, subst}
use Rattle.std.specs.List.{Contains}
use Rattle.tl_patch_edit.specs.declared.reach.Stretch.{Stretch}
use Rattle.tl_patch_select.specs.Inner.Sources.{keyed_stretch, stretch_of_keyed}
use Rattle.tl_patch_select.specs.declared.ranges.Keyed.{Keyed}
use Rattle.tl_patch_select.proofs.Crossing.{AreThoseOf, all_crossed_of}
use Rattle.tl_patch_select.proofs.whole.find_all_crossed.Goals as goal

pub returns : goal.returns
returns c =
    all_crossed_of c.args.page.now c.args.tree.now c.in_ok-found.found.tail c.in_ok-sources.sources.tail c.args.numbers.now c.in_ok-elements.elements.items c.in_ok-found.found.elements.items
    c.in_ok-all.all.items c.in_ok-found.ensures.elements c.in_ok-found.ensures.tail c.in_ok-sources.ensures.tail
    (subst (λ (xs : List Stretch). (one : Keyed) → Contains c.in_ok-elements.elements.items one → Contains xs (stretch_of_keyed one)) c.as_slice.ensures.value c.in_ok-elements.ensures.each)
    (subst (λ (xs : List Stretch). (s : Stretch) → Contains xs s → Contains c.in_ok-elements.elements.items (keyed_stretch s)) c.as_slice.ensures.value c.in_ok-elements.ensures.all)
    (subst (λ (xs : List Keyed). AreThoseOf xs c.args.tree.now c.in_ok-sources.sources.tail c.args.numbers.now c.in_ok-all.all.items) c.as_slice-2.ensures.value c.in_ok-all.ensures)
