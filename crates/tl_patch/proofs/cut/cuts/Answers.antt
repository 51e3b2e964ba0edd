use Rattle.std.proofs.Common.{◌≡◌, ◌∙◌, ◌-◌, ◌+◌, ◌<◌, ℕ, List, map, drop, ap, arith}
use Rattle.std.specs.Str.{bytes_eq}
use Rattle.tl_html_parts.specs.Parts.{name_of}
use Rattle.tl_patch.specs.View.{splice_view}
use Rattle.tl_patch.specs.Inner.Cuts.{cuts_of, last_before}
use Rattle.tl_patch.specs.declared.stage.Place.{Place}
use Rattle.tl_patch.proofs.Found.{cuts_step, view_reverse}
use Rattle.tl_patch.proofs.cut.cuts.Goals as goal

pub loop-number-preserved : goal.loop-number-preserved
loop-number-preserved c =
    let rest : List ℕ = c.args.rest.now in
    let key : List ℕ = c.args.key.now in
    let places : List Place = c.args.places.now in
    let m : ℕ = c.loop-number.number in
    let more : 0 < m = c.loop-number-test.true in
    let one : m ≡ (m - 1) + 1 = omega arith in
    let step =
    cuts_step rest key places m (m - 1) _ c.last_before-last.result c.in_ok-is_it.is_it (map splice_view c.loop-number.cuts.items) (map splice_view c.cut_if.new.cuts.items)
    c.loop-number.follow c.in_ok-follow.follow one c.loop-number.invariant.within c.last_before-last.ensures c.loop-number.invariant.cuts c.loop-number.invariant.follow
    (c.in_ok-is_it.ensures ∙ ap (λ xs. bytes_eq (name_of xs) key) c.part.ensures) c.in_ok-follow.ensures.cuts c.in_ok-follow.ensures.follow in
    record { within = omega arith; cuts = step.0; follow = step.1 }

pub returns : goal.returns
returns c =
    let places : List Place = c.args.places.now in
    let none : c.loop-number.number ≡ 0 = omega arith in
    ap (map splice_view) c.turned.ensures ∙ view_reverse c.loop-number.cuts.items ∙ c.loop-number.invariant.cuts
    ∙ ap (λ n. (cuts_of c.args.rest.now c.args.key.now (last_before places n) (drop n places)).splices) none
