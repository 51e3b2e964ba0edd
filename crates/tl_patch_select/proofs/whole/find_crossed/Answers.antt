use Rattle.std.proofs.Common.{List, None, refl, subst, sym}
use Rattle.std.specs.List.{All, Contains}
use Rattle.std.specs.Prelude.{IfNone, IfSome}
use Rattle.tl_patch_edit.specs.declared.reach.Stretch.{Stretch}
use Rattle.tl_patch_select.specs.Inner.Ranges.{IsRising}
use Rattle.tl_patch_select.specs.Inner.Sources.{IsOneCrossedIn, IsWholeOf, keyed_stretch, stretch_of_keyed}
use Rattle.tl_patch_select.specs.declared.ranges.Keyed.{Keyed}
use Rattle.tl_patch_select.proofs.Crossing.{all_whole_of, one_crossed_of}
use Rattle.tl_patch_select.proofs.whole.find_crossed.Goals as goal

pub returns-clause-whole : goal.returns-clause-whole
returns-clause-whole c =
    all_whole_of c.args.page.now.page.now c.args.tree.now c.in_ok-found.found.tail c.in_ok-sources.sources.tail c.args.numbers.now c.in_ok-elements.elements.items c.in_ok-found.found.elements.items
    c.last_crossed.result c.in_ok-found.ensures.elements c.in_ok-found.ensures.tail c.in_ok-sources.ensures.tail
    (subst (λ (xs : List Stretch). (s : Stretch) → Contains xs s → Contains c.in_ok-elements.elements.items (keyed_stretch s)) c.as_slice.ensures.value c.in_ok-elements.ensures.all)
    (subst (λ (xs : List Keyed). IfNone c.last_crossed.result (All (IsWholeOf xs c.args.tree.now c.in_ok-sources.sources.tail) c.args.numbers.now)) c.as_slice-3.ensures.value c.last_crossed.ensures.whole)

pub returns-clause-crossed : goal.returns-clause-crossed
returns-clause-crossed c =
    one_crossed_of c.args.page.now.page.now c.args.tree.now c.in_ok-found.found.tail c.in_ok-sources.sources.tail c.args.numbers.now c.in_ok-elements.elements.items c.in_ok-found.found.elements.items
    c.last_crossed.result c.in_ok-found.ensures.elements c.in_ok-found.ensures.tail c.in_ok-sources.ensures.tail
    (subst (λ (xs : List Stretch). (one : Keyed) → Contains c.in_ok-elements.elements.items one → Contains xs (stretch_of_keyed one)) c.as_slice.ensures.value c.in_ok-elements.ensures.each)
    (subst (λ (xs : List Keyed). IfSome c.last_crossed.result (IsOneCrossedIn xs c.args.tree.now c.in_ok-sources.sources.tail c.args.numbers.now)) c.as_slice-3.ensures.value c.last_crossed.ensures.crossed)

pub returns-then-are_whole-clause-whole : goal.returns-then-are_whole-clause-whole
returns-then-are_whole-clause-whole c =
    all_whole_of c.args.page.now.page.now c.args.tree.now c.in_ok-found.found.tail c.in_ok-found.found.tail c.args.numbers.now c.in_ok-elements.elements.items c.in_ok-found.found.elements.items
    None c.in_ok-found.ensures.elements c.in_ok-found.ensures.tail refl
    (subst (λ (xs : List Stretch). (s : Stretch) → Contains xs s → Contains c.in_ok-elements.elements.items (keyed_stretch s)) c.as_slice.ensures.value c.in_ok-elements.ensures.all)
    (subst (λ (xs : List Keyed). All (IsWholeOf xs c.args.tree.now c.in_ok-found.found.tail) c.args.numbers.now) c.as_slice-2.ensures.value (c.are_whole-are_whole.ensures c.if-are_whole.true c.in_ok-found.found.tail))

pub are_whole-are_whole-requires : goal.are_whole-are_whole-requires
are_whole-are_whole-requires c = subst IsRising (sym c.as_slice-2.ensures.value) c.in_ok-elements.ensures.rising
