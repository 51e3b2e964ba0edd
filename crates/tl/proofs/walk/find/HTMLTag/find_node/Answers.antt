use Rattle.std.proofs.Common.{Ok, Some, ◌≡◌, suc, ◌+◌, ◌∷◌, drop, drop-cons, add-one, refl, ap, sym, ◌∙◌, rules, of_calls, true, false, map}
use Rattle.std.specs.Fn.{CalledAt}
use Rattle.tl.specs.Find.{sight}
use Rattle.tl.proofs.Searching.{found, went_on}
use Rattle.tl.proofs.walk.find.HTMLTag.find_node.Goals as goal

pub returns-then-f : goal.returns-then-f
returns-then-f g c =
    let nodes = c.args.parser.now.nodes in
    let items = c.as_slice-child-items.result.now in
    let i = c.loop-child.child-index in
    let child = c.child-item.result in
    let cut : drop i items ≡ child ∷ drop (i + 1) items = rw add-one (drop-cons items i child c.loop-child-test.true ∙ ap (λ h. h ∷ drop (suc i) items) (sym c.child-item.is)) in
    let called : CalledAt g.F.FnMut c.loop-child.f c.in-Some.node.now true c.f.new.self = record { shown = _; shows = refl; called = c.if-f.ensures } in
    let list : items ≡ c.args.self.now.children.items = c.as_slice-child-items.ensures ∙ ap (λ v. v.items) c.child_handles.ensures in
    rw (← list) (c.loop-child.invariant.1 (Ok (Some child)) c.f.new.self (rw cut (found g.F.FnMut c.loop-child.f c.f.new.self nodes child c.in-Some.node.now (map (sight nodes) (drop (i + 1) items)) (sym c.in-Some.ensures) called)))

pub loop-child-preserved : goal.loop-child-preserved
loop-child-preserved g c =
    let nodes = c.args.parser.now.nodes in
    let items = c.as_slice-child-items.result.now in
    let i = c.loop-child.child-index in
    let child = c.child-item.result in
    let cut : drop i items ≡ child ∷ drop (i + 1) items = rw add-one (drop-cons items i child c.loop-child-test.true ∙ ap (λ h. h ∷ drop (suc i) items) (sym c.child-item.is)) in
    let called : CalledAt g.F.FnMut c.loop-child.f c.in-Some.node.now false c.f.new.self = record { shown = _; shows = refl; called = c.if-f.ensures } in
    (search (rules, of_calls), λ r q rest. c.loop-child.invariant.1 r q (rw cut (went_on g.F.FnMut c.loop-child.f c.f.new.self q nodes child c.in-Some.node.now (map (sight nodes) (drop (i + 1) items)) r (sym c.in-Some.ensures) called rest)))
