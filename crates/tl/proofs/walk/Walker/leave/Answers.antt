use Rattle.std.proofs.Common.{◌≡◌, ◌∷◌, [], ℕ, List, length, map, ap, sym, subst, ◌∙◌, arith}
use Rattle.tl.specs.Marks.{AreFresh, IsKept}
use Rattle.tl.specs.View.{node_view}
use Rattle.tl.specs.Walker.{enters, path_from, remaining_below}
use Rattle.tl.proofs.Marks.{kept_less}
use Rattle.tl.proofs.Frames.{path-push, left-popped, left-drained, empty_of_length}
use Rattle.tl.proofs.Remaining.{step-popped, step-drained}
use Rattle.tl.proofs.walk.Walker.leave.Goals as goal

pub returns-in_default-clause-takes : goal.returns-in_default-clause-takes
returns-in_default-clause-takes c =
    let w = c.args.self.now in
    left-drained (enters w.entered) (map node_view w.nodes.now) w.rest.now w.frames.items c.requires.done (empty_of_length w.frames.items (omega (arith, c.in_default.ensures.cases.0, w.frames.ok.0)))

pub returns-clause-marked : goal.returns-clause-marked
returns-clause-marked c =
    let w = c.args.self.now in
    let f = c.in-Some.frame in
    let n : ℕ = length w.nodes.now in
    let rest : List ℕ = path_from [] c.pop.new.self.items in
    let shorter : path_from [] w.frames.items ≡ f.handle ∷ rest = ap (path_from []) c.in-Some.ensures.items ∙ path-push [] c.pop.new.self.items f in
    let fresh : AreFresh n (f.handle ∷ rest) = subst (AreFresh n) shorter c.requires.marked.fresh in
    let kept : IsKept n (f.handle ∷ rest) w.marks.items = subst (λ p. IsKept n p w.marks.items) shorter c.requires.marked.kept in
    record { kept = rw c.put_mark.ensures (kept_less n rest f.handle w.marks.items fresh.0 fresh.1 kept); fresh = fresh.2 }

pub returns-clause-takes : goal.returns-clause-takes
returns-clause-takes c =
    let w = c.args.self.now in
    left-popped (enters w.entered) (map node_view w.nodes.now) w.rest.now w.frames.items c.pop.new.self.items c.in-Some.frame c.requires.done c.in-Some.ensures.items

pub returns-in_default-clause-takes_next : goal.returns-in_default-clause-takes_next
returns-in_default-clause-takes_next c =
    let w = c.args.self.now in
    let none = empty_of_length w.frames.items (omega (arith, c.in_default.ensures.cases.0, w.frames.ok.0)) in
    let still = empty_of_length c.pop.new.self.items (omega (arith, c.in_default.ensures.cases.1, c.pop.new.self.ok.0)) in (
      step-drained (map node_view w.nodes.now) w.rest.now w.frames.items c.requires.done none,
      ap (λ fs. remaining_below (map node_view w.nodes.now) fs w.rest.now) (still ∙ sym none),
    )

pub returns-clause-takes_next : goal.returns-clause-takes_next
returns-clause-takes_next c =
    let w = c.args.self.now in
    step-popped (map node_view w.nodes.now) w.rest.now w.frames.items c.pop.new.self.items c.in-Some.frame c.requires.done c.in-Some.ensures.items
