use Rattle.std.proofs.Common.{List, Some, false, refl, slice_get, subst, ◌≡◌, ◌≤◌}
use Rattle.tl_patch_select.specs.Inner.Ranges.{IsSpanBefore}
use Rattle.tl_patch_select.specs.declared.ranges.Keyed.{Keyed}
use Rattle.tl_patch_select.proofs.Bounded.{AreLess, AreNoLess, bounds_are, none_at, ready_with}
use Rattle.tl_patch_select.proofs.ranges.ByKey.bounds.Goals as goal

pub returns-then-not-is_there-clause-bounds : goal.returns-then-not-is_there-clause-bounds
returns-then-not-is_there-clause-bounds c =
    none_at c.args.self.now.all.items c.count_before-start.result c.args.keys c.is_before-is_there.result
    (subst (λ (xs : List Keyed). AreLess xs c.count_before-start.result c.args.keys.from) c.as_slice.ensures.value c.count_before-start.ensures.before) c.requires.rising
    (subst (λ (xs : List Keyed). c.is_before-is_there.result ≡ false → (x : Keyed) → slice_get xs c.count_before-start.result ≡ Some x → c.args.keys.past ≤ x.key) c.as_slice-2.ensures.value c.is_before-is_there.ensures.no)
    c.if-not-is_there.true

pub returns-clause-ready : goal.returns-clause-ready
returns-clause-ready c =
    let s : IsSpanBefore c.args.self.now.all.items c.count_before-start.result c.args.keys.past c.whole_span-span.result =
    subst (λ (xs : List Keyed). IsSpanBefore xs c.count_before-start.result c.args.keys.past c.whole_span-span.result) c.as_slice-3.ensures.value c.whole_span-span.ensures.span in
    ready_with c.args.self.now _ c.count_before-start.result c.whole_span-span.result c.requires s.is_span refl refl

pub returns-clause-bounds : goal.returns-clause-bounds
returns-clause-bounds c =
    bounds_are c.args.self.now.all.items c.count_before-start.result c.args.keys c.whole_span-span.result
    (subst (λ (xs : List Keyed). AreLess xs c.count_before-start.result c.args.keys.from) c.as_slice.ensures.value c.count_before-start.ensures.before)
    (subst (λ (xs : List Keyed). AreNoLess xs c.count_before-start.result c.args.keys.from) c.as_slice.ensures.value c.count_before-start.ensures.behind) c.requires.rising
    (subst (λ (xs : List Keyed). IsSpanBefore xs c.count_before-start.result c.args.keys.past c.whole_span-span.result) c.as_slice-3.ensures.value c.whole_span-span.ensures.span)
    (subst (λ (xs : List Keyed). (x : Keyed) → slice_get xs c.whole_span-span.result.end ≡ Some x → c.args.keys.past ≤ x.key) c.as_slice-3.ensures.value c.whole_span-span.ensures.last)
