use Rattle.std.proofs.Common.{◌≡◌}
use Rattle.tl_patch_select.proofs.Places.{known_on}
use Rattle.tl_patch_select.specs.Inner.Known.{known_from}
use Rattle.tl_patch_select.proofs.partly.push_put_in.Goals as goal

pub returns-in_ok-push-in-None-clause-known : goal.returns-in_ok-push-in-None-clause-known
returns-in_ok-push-in-None-clause-known c =
    let is : c.known_from.result ≡ known_from c.args.known c.args.number c.place_from-place.result = c.known_from.ensures in
    rw is (known_on c.args.tree.now c.args.page_len c.args.known c.args.number c.place_from-place.result c.requires c.place_from-place.ensures)
