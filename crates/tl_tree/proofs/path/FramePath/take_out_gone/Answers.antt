use Rattle.std.proofs.Common.{Bool, IsTrue, List, length, map, refl, subst, sym, take, ◌<◌, ◌≡◌}
use Rattle.std.specs.List.{list_all}
use Rattle.tl_tree.proofs.Placed.{HereFrom}
use Rattle.tl_tree.proofs.There.{all-there, distinct-there, here-there, some-there}
use Rattle.tl_tree.specs.Inner.Entered.{entered, entered_of}
use Rattle.tl_tree.specs.Inner.Framed.{are_distinct, is_before}
use Rattle.tl_tree.specs.Inner.Frames.{is_frame}
use Rattle.tl_tree.specs.Inner.Gone.{are_shut}
use Rattle.tl_tree.specs.declared.frame.Frame.{Frame}
use Rattle.tl_tree.specs.declared.role.Entered.{Entered}
use Rattle.tl_tree.proofs.path.FramePath.take_out_gone.Goals as goal

pub invariant_of-self-clause-within : goal.invariant_of-self-clause-within
invariant_of-self-clause-within c =
    let p = c.args.self.now in
    subst (λ (xs : List Frame). IsTrue (list_all (is_frame p) xs)) (sym c.in_ok-kept.ensures) (all-there (is_frame p) p.gaps.marks.items p.frames.items p.within)

pub invariant_of-self-clause-distinct : goal.invariant_of-self-clause-distinct
invariant_of-self-clause-distinct c =
    let p = c.args.self.now in
    subst (λ (xs : List Frame). IsTrue (are_distinct xs)) (sym c.in_ok-kept.ensures) (distinct-there p.gaps.marks.items p.frames.items p.distinct)

pub invariant_of-self-clause-numbered : goal.invariant_of-self-clause-numbered
invariant_of-self-clause-numbered c =
    let p = c.args.self.now in
    subst (λ (xs : List Frame). IsTrue (list_all (is_before p.next) xs)) (sym c.in_ok-kept.ensures) (all-there (is_before p.next) p.gaps.marks.items p.frames.items p.numbered)

pub invariant_of-self-clause-some : goal.invariant_of-self-clause-some
invariant_of-self-clause-some c =
    let p = c.args.self.now in
    subst (λ (marks : List Bool). length marks < length c.in_ok-kept.kept.items) (sym c.clear.ensures)
    (subst (λ (xs : List Frame). 0 < length xs) (sym c.in_ok-kept.ensures) (some-there p))

pub invariant_of-self-clause-shut : goal.invariant_of-self-clause-shut
invariant_of-self-clause-shut c =
    subst (λ (marks : List Bool). IsTrue (are_shut marks c.in_ok-kept.kept.items)) (sym c.clear.ensures) refl

pub invariant_of-self-clause-known : goal.invariant_of-self-clause-known
invariant_of-self-clause-known c =
    let p = c.args.self.now in
    let all = map (entered_of p.store) c.in_ok-kept.kept.items in
    subst (λ (known : List Entered). known ≡ take (length known) all) (sym c.cut.ensures) refl

pub invariant_of-self-clause-near : goal.invariant_of-self-clause-near
invariant_of-self-clause-near c =
    let p = c.args.self.now in
    subst (λ (xs : List Frame). HereFrom p.placed xs) (sym c.in_ok-kept.ensures) (here-there p.gaps.marks.items p.frames.items p.placed p.near)
