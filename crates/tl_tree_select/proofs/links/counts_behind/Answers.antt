use Rattle.std.proofs.Common.{◌≡◌, ◌+◌, ◌-◌, ℕ, List, arith, rules, subst, sym}
use Rattle.tl_tree_select.proofs.Backwards.{Gathered, none_gathered, one_gathered, all_gathered, fits}
use Rattle.tl_tree_select.proofs.links.counts_behind.Goals as goal

pub down-init : goal.down-init
down-init c =
    none_gathered c.args.links.now c.args.marks.now c.in_ok-counts.counts.items (search rules) (search rules)

pub add_count-requires : goal.add_count-requires
add_count-requires c =
    let next : c.down.number ≡ c.down.number - 1 + 1 = grind arith in
    let g = c.down.invariant in
    let w = g.within in
    let len = g.len in
    record {
      within = omega (arith, next, w, len);
      fits = fits c.args.links.now c.args.marks.now c.requires.lower c.down.number (c.down.number - 1) next c.down.counts.items g c.requires.numbered;
    }

pub down-preserved : goal.down-preserved
down-preserved c =
    let links = c.args.links.now in
    let marks = c.args.marks.now in
    let next : c.down.number ≡ c.down.number - 1 + 1 = grind arith in
    subst (λ (counts : List ℕ). Gathered links marks (c.down.number - 1) counts) (sym c.add_count.ensures)
    (one_gathered links marks c.requires.lower c.down.number (c.down.number - 1) next c.down.counts.items c.down.invariant)

pub returns-clause-len : goal.returns-clause-len
returns-clause-len c = c.down.invariant.len

pub returns-clause-each : goal.returns-clause-each
returns-clause-each c =
    let none : c.down.number ≡ 0 = omega arith in
    all_gathered c.args.links.now c.args.marks.now c.down.counts.items c.requires.lower
    (subst (λ (k : ℕ). Gathered c.args.links.now c.args.marks.now k c.down.counts.items) none c.down.invariant)
