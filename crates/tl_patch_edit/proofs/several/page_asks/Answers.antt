use Rattle.std.proofs.Common.{List, ap, arith, length, subst, sym, ◌∙◌, ◌≡◌}
use Rattle.tl_html_spec.specs.Pieces.{pieces, runs}
use Rattle.tl_patch_elements.specs.View.{elements_view}
use Rattle.tl_patch_spec.specs.Elements.{Element}
use Rattle.tl_patch_spec.specs.Tail.{elements_up_to_tail}
use Rattle.tl_patch_edit.specs.Several.{AreExtents}
use Rattle.tl_patch_edit.specs.declared.ask.Extent.{Extent as CodeExtent}
use Rattle.tl_patch_edit.proofs.several.page_asks.Goals as goal

pub sorted_asks-requires-clause-extents : goal.sorted_asks-requires-clause-extents
sorted_asks-requires-clause-extents c =
    let es : List Element = elements_up_to_tail (runs (pieces c.args.page.now)) in
    let same : elements_view c.as_slice.result.now ≡ es = ap elements_view c.as_slice.ensures.value ∙ c.requires.elements in
    subst (λ (xs : List CodeExtent). AreExtents es xs) (sym c.as_slice-3.ensures.value)
    (subst (λ (fs : List Element). AreExtents fs c.in_ok-extents.extents.items) same c.in_ok-extents.ensures.extents)

pub sorted_asks-requires-clause-within : goal.sorted_asks-requires-clause-within
sorted_asks-requires-clause-within c =
    let extents : length c.as_slice-3.result.now ≡ length c.in_ok-extents.extents.items = ap (λ (xs : List CodeExtent). length xs) c.as_slice-3.ensures.value in
    let len = c.in_ok-extents.ensures.len in
    let all = c.requires.len in
    omega arith

pub sorted_asks-requires-clause-left : goal.sorted_asks-requires-clause-left
sorted_asks-requires-clause-left c =
    c.in_ok-left.ensures (runs (pieces c.args.page.now)) (ap elements_view c.as_slice-2.ensures.value ∙ c.requires.elements) c.requires.len
