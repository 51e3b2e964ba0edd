use Rattle.std.proofs.Common.{◌≡◌, ◌∙◌, ◌<◌, ◌-◌, ◌+◌, ◌&&◌, true, false, None, Some, length, map, option_map, slice_get, refl, sym, ap, arith}
use Rattle.std.proofs.lemmas.Option.{slice_get-map, slice_get_read}
use Rattle.tl_spec.specs.Tree.Document.{Node}
use Rattle.tl_spec.specs.Select.Search.{holds_alone}
use Rattle.tl_selector.specs.Spine.{others_hold}
use Rattle.tl_selector.specs.View.{selector}
use Rattle.tl_selector.proofs.Chains.{first_by_parts}
use Rattle.tl_selector.proofs.Parts.{none_of_both, none_past, first_of_both, later_of_both}
use Rattle.tl_selector.proofs.matching.scan.first_alone.Goals as goal

pub returns-in_err-place-clause-first : goal.returns-in_err-place-clause-first
returns-in_err-place-clause-first g c =
    let node = g.N.Element.node in
    let nodes = c.args.nodes.now in
    let from = c.candidates.from in
    let e = selector c.args.e.now in
    let part = selector c.first_simple-part.result.now in
    let none = none_of_both node nodes (holds_alone part) (others_hold e) from c.candidates.invariant.none_before c.in_err-place.ensures.first in
    rw c.from_residual.ensures (first_by_parts e part (map node nodes) None c.first_simple-part.ensures none)

pub returns-then-others_hold-clause-first : goal.returns-then-others_hold-clause-first
returns-then-others_hold-clause-first g c =
    let node = g.N.Element.node in
    let nodes = c.args.nodes.now in
    let from = c.candidates.from in
    let place = c.in_ok-place.field-0 in
    let e = selector c.args.e.now in
    let part = selector c.first_simple-part.result.now in
    let inside : place < length nodes - from = omega (arith, c.in_ok-place.ensures.within) in
    let here : slice_get (map node nodes) (from + place) ≡ Some (node c.index-nodes-place.result) =
    slice_get-map node nodes (from + place) ∙ ap (option_map node) (slice_get_read nodes (length nodes) (from + place) c.index-nodes-place.result refl (omega arith) c.index-nodes-place.is) in
    let second : others_hold e (node c.index-nodes-place.result) ≡ true = sym c.others_hold.ensures ∙ c.if-others_hold.true in
    let some = first_of_both node nodes (holds_alone part) (others_hold e) from c.candidates.invariant.none_before place (node c.index-nodes-place.result) inside here c.in_ok-place.ensures.first second in
    first_by_parts e part (map node nodes) (Some (from + place)) c.first_simple-part.ensures some

pub candidates-preserved : goal.candidates-preserved
candidates-preserved g c =
    let node = g.N.Element.node in
    let nodes = c.args.nodes.now in
    let from = c.candidates.from in
    let place = c.in_ok-place.field-0 in
    let e = selector c.args.e.now in
    let part = selector c.first_simple-part.result.now in
    let inside : place < length nodes - from = omega (arith, c.in_ok-place.ensures.within) in
    let here : slice_get (map node nodes) (from + place) ≡ Some (node c.index-nodes-place.result) =
    slice_get-map node nodes (from + place) ∙ ap (option_map node) (slice_get_read nodes (length nodes) (from + place) c.index-nodes-place.result refl (omega arith) c.index-nodes-place.is) in
    let second : others_hold e (node c.index-nodes-place.result) ≡ false = sym c.others_hold.ensures ∙ c.if-others_hold.false in
    record { none_before = later_of_both node nodes (holds_alone part) (others_hold e) from c.candidates.invariant.none_before place (node c.index-nodes-place.result) here c.in_ok-place.ensures.first second }

pub returns-clause-first : goal.returns-clause-first
returns-clause-first g c =
    let node = g.N.Element.node in
    let nodes = c.args.nodes.now in
    let e = selector c.args.e.now in
    let part = selector c.first_simple-part.result.now in
    let both = λ (x : Node). holds_alone part x && others_hold e x in
    first_by_parts e part (map node nodes) None c.first_simple-part.ensures (none_past node nodes both c.candidates.from (omega (arith, c.candidates-test.false)) c.candidates.invariant.none_before)
