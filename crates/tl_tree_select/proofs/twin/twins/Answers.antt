use Rattle.std.proofs.Common.{◌≡◌, ◌<◌, ◌+◌, ℕ, List, length, arith, rules, subst, sym}
use Rattle.tl_tree_select.specs.Page.{seen}
use Rattle.tl_tree_select.specs.Inner.Links.{no_link}
use Rattle.tl_tree_select.proofs.Trees.{tree_small}
use Rattle.tl_tree_select.proofs.Twins.{Twinned, none_twinned, one_twinned, all_twinned}
use Rattle.tl_tree_select.proofs.twin.twins.Goals as goal

pub loop-number-init : goal.loop-number-init
loop-number-init c =
    none_twinned (seen c.args.page.now) c.args.siblings.now c.in_ok-links.links.items c.new-latest.result (search rules) (search rules)

pub loop-number-preserved : goal.loop-number-preserved
loop-number-preserved c =
    let page = seen c.args.page.now in
    let n = c.loop-number.number in
    let numbered = (tree_small c.args.page.now.tree.now) in
    let small : n < no_link = omega (arith, numbered) in
    subst (λ (links : List ℕ). Twinned page c.args.siblings.now (n + 1) links c.replace_latest.new.latest) (sym c.in_ok-push.ensures.items)
    (one_twinned page c.args.siblings.now n small c.loop-number.links.items c.loop-number.latest c.replace_latest.new.latest c.loop-number.invariant
    c.twin_group-group.result c.twin_group-group.ensures c.in_ok-before.ensures.is c.in_ok-before.before c.in_ok-before.ensures.was)

pub returns : goal.returns
returns c =
    let page = seen c.args.page.now in
    let all : c.loop-number.number ≡ length page.rows = omega arith in
    all_twinned page c.args.siblings.now c.loop-number.links.items c.loop-number.latest c.requires
    (subst (λ (number : ℕ). Twinned page c.args.siblings.now number c.loop-number.links.items c.loop-number.latest) all c.loop-number.invariant)
