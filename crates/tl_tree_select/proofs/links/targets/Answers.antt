use Rattle.std.proofs.Common.{◌≡◌, ◌+◌, ◌-◌, ℕ, Bool, List, length, arith, rules, subst, sym}
use Rattle.tl_tree_select.proofs.Targets.{Passed, none_passed, one_passed, all_passed}
use Rattle.tl_tree_select.proofs.links.targets.Goals as goal

pub down-init : goal.down-init
down-init c =
    let links = c.args.links.now in
    subst (λ (found : List Bool). Passed links c.args.marks.now c.args.often (length links) found) (sym (c.in_ok-found.ensures.items_if_clones_equal (λ y h. search rules)))
    (none_passed links c.args.marks.now c.args.often)

pub down-preserved : goal.down-preserved
down-preserved c =
    let links = c.args.links.now in
    let marks = c.args.marks.now in
    let next : c.down.number ≡ c.down.number - 1 + 1 = grind arith in
    subst (λ (found : List Bool). Passed links marks c.args.often (c.down.number - 1) found) (sym c.mark_target.ensures)
    (one_passed links marks c.args.often c.requires c.down.number (c.down.number - 1) next c.down.found.items c.down.invariant)

pub returns-clause-len : goal.returns-clause-len
returns-clause-len c = c.down.invariant.len

pub returns-clause-each : goal.returns-clause-each
returns-clause-each c =
    let links = c.args.links.now in
    let none : c.down.number ≡ 0 = omega arith in
    all_passed links c.args.marks.now c.args.often c.down.found.items c.requires
    (subst (λ (from : ℕ). Passed links c.args.marks.now c.args.often from c.down.found.items) none c.down.invariant)
