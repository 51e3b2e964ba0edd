use Rattle.std.proofs.Common.{map, rules, ◌≡◌}
use Rattle.tl_patch_select.specs.Inner.Sources.{turned}
use Rattle.tl_patch_select.proofs.Sources.{sources_are}
use Rattle.tl_patch_select.proofs.whole.Sources.of.Goals as goal

pub returns-clause-ready : goal.returns-clause-ready
returns-clause-ready c =
    let is : c.in_ok-places.places.items ≡ map turned c.in_ok-rows.rows.items = search rules in
    sources_are c.args.tree.now _ c.in_ok-rows.rows.items c.in_ok-places.places.items c.in_ok-by_number.ensures.ready c.in_ok-by_place.ensures.ready c.in_ok-rows.ensures is
    c.in_ok-by_number.ensures.same c.in_ok-by_place.ensures.same
