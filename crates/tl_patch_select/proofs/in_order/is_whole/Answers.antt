use Rattle.std.proofs.Common.{None, Some, refl, rules, sym, ◌≡◌}
use Rattle.tl_patch_select.specs.Selected.{place_of}
use Rattle.tl_patch_select.proofs.Crossing.{untagged_is_whole, whole_there}
use Rattle.tl_patch_select.proofs.in_order.is_whole.Goals as goal

pub returns-in-Some : goal.returns-in-Some
returns-in-Some c =
    let some : place_of c.args.tree.now c.args.number ≡ Some c.in-Some.place = search rules in
    λ e tail. whole_there c.args.elements.now c.args.tree.now tail c.args.number c.in-Some.place some (c.is_whole_at.ensures e tail)

pub returns-in-None : goal.returns-in-None
returns-in-None c =
    let none : place_of c.args.tree.now c.args.number ≡ None = search rules in
    λ _ tail. untagged_is_whole c.args.elements.now c.args.tree.now tail c.args.number None (sym none) refl
