use Rattle.std.proofs.Common.{ap, arith, nat_eq, true, ◌+◌, ◌∙◌, ◌≡◌}
use Rattle.std.proofs.lemmas.Bool.{and_from, and_parts}
use Rattle.tl_dom_spec.specs.Path as dom
use Rattle.tl_dom_spec.specs.Tags.{is_special}
use Rattle.tl_tree.proofs.Ancestor.{if-some-weaker}
use Rattle.tl_tree.proofs.Begun.{furthest-absent, furthest-from, furthest-shut, number-at, other-element}
use Rattle.tl_tree.proofs.Furthest.{frame-there}
use Rattle.tl_tree.proofs.Numbered.{found-within}
use Rattle.tl_tree.proofs.Skipped.{none-at, number-absent, numbered-behind}
use Rattle.tl_tree.specs.Inner.Adopted.{frame_at, is_element_of}
use Rattle.tl_tree.proofs.path.FramePath.furthest_block.Goals as goal

pub returns-in_default-clause-stands : goal.returns-in_default-clause-stands
returns-in_default-clause-stands c =
    let p = c.args.self.now in
    let k = c.args.number in
    furthest-absent (is_special c.args.counts_search) k p
    (λ i below. other-element k (frame_at p i) (number-absent k i p (c.find.ensures.none c.in_default.is) below))

pub index-requires : goal.index-requires
index-requires c =
    let own = c.args.self.now.frames.ok.0 in
    let within = found-within c.args.self.now.frames.items c.in-Some.place c.args.number c.in-Some.ensures.some in
    omega arith

pub returns-then-not-index-clause-stands : goal.returns-then-not-index-clause-stands
returns-then-not-index-clause-stands c =
    let p = c.args.self.now in
    let f = c.index.result.now in
    let within = found-within c.args.self.now.frames.items c.in-Some.place c.args.number c.in-Some.ensures.some in
    let there = frame-there p c.in-Some.place f c.index.ensures within in
    furthest-shut (is_special c.args.counts_search) c.args.number c.in-Some.place p c.in-Some.ensures.some
    (ap (λ (own : dom.Frame). own.is_open) there ∙ c.if-not-index.true)

pub overflow_add-place : goal.overflow_add-place
overflow_add-place c =
    let p = c.args.self.now in
    let own = p.frames.ok.0 in
    let small = p.frames.small in
    let within = found-within c.args.self.now.frames.items c.in-Some.place c.args.number c.in-Some.ensures.some in
    omega arith

pub block_from-requires : goal.block_from-requires
block_from-requires c =
    let within = found-within c.args.self.now.frames.items c.in-Some.place c.args.number c.in-Some.ensures.some in
    omega arith

pub returns-clause-stands : goal.returns-clause-stands
returns-clause-stands c =
    let p = c.args.self.now in
    let k = c.args.number in
    let place = c.in-Some.place in
    let f = c.index.result.now in
    let within = found-within c.args.self.now.frames.items c.in-Some.place c.args.number c.in-Some.ensures.some in
    let there = frame-there p place f c.index.ensures within in
    let own : is_element_of k (frame_at p place) ≡ true =
    ap (is_element_of k) there
    ∙ and_from f.is_open (nat_eq f.number k) c.if-not-index.false (number-at k place p f c.in-Some.ensures.some c.index.ensures within) in
    furthest-from (is_special c.args.counts_search) k place p c.block_from.result within own
    (λ i least below. other-element k (frame_at p i) (none-at (dom.has_number k) p (place + 1) i (numbered-behind k place p c.in-Some.ensures.some) least below))
    c.block_from.ensures.within c.block_from.ensures.passes c.block_from.ensures.before

pub returns-clause-open : goal.returns-clause-open
returns-clause-open c =
    let p = c.args.self.now in
    let test = is_special c.args.counts_search in
    if-some-weaker _ _ c.block_from.result
    (λ index h. (and_parts (frame_at p index).is_open (test (frame_at p index).tag) h).0)
    c.block_from.ensures.passes
