use Rattle.std.proofs.Common.{map, ◌≡◌, ◌+◌, List, [], ◌∷◌, ◌++◌, ℕ, Bool, length, subst, ap, ◌∙◌, arith, length-append, refl}
use Rattle.tl_selector.specs.NodeSet.{children_at}
use Rattle.tl_selector.proofs.Spreads.{unmarked, spreads}
use Rattle.tl_selector.proofs.Works.{Work, work_step, work_done}
use Rattle.tl_selector.proofs.node_set.descendants_of_set.Goals as goal

nil : (xs : List ℕ) → length xs ≡ 0 → xs ≡ []
nil [] h = refl
nil (x ∷ xs) h = absurd (omega arith)

pub work-preserved : goal.work-preserved
work-preserved t c =
    let g = map t.N.Element.node c.args.nodes.now in
    let h = c.args.holds.now in
    let w : Work g h c.work.marks.items (c.pop.new.self.items ++ c.in-Some.m ∷ []) = subst (Work g h c.work.marks.items) c.in-Some.ensures.items c.work.invariant in
    let e = c.in_ok-mark_children_at.ensures in
    work_step g h c.work.marks.items c.pop.new.self.items c.in-Some.m (c.mark_children_at.new.marks.items, c.mark_children_at.new.queue.items) w e

pub work-smaller : goal.work-smaller
work-smaller t c =
    let s = (spreads (children_at (map t.N.Element.node c.args.nodes.now) c.in-Some.m) (c.work.marks.items, c.pop.new.self.items)).count in
    let e = ap (λ (p : List Bool × List ℕ). unmarked p.0 + length p.1) c.in_ok-mark_children_at.ensures in
    let l = ap length c.in-Some.ensures.items ∙ length-append c.pop.new.self.items (c.in-Some.m ∷ []) in
    omega (arith, s, e, l)

pub returns-clause-complete : goal.returns-clause-complete
returns-clause-complete t c =
    let none = c.in_default.ensures.cases in
    let empty = nil c.work.queue.items (omega (arith, none.0)) in
    work_done (map t.N.Element.node c.args.nodes.now) c.args.holds.now c.work.marks.items (subst (Work (map t.N.Element.node c.args.nodes.now) c.args.holds.now c.work.marks.items) empty c.work.invariant)
