use borrow.Follows.Closed.{read_of}
use Rattle.std.proofs.Common.{◌<◌, length}
use Rattle.std.specs.Prelude.{◌↔◌, IsSome}
use Rattle.std.specs.Option.{ghost_name_of}
use Rattle.tl_inline.specs.Inner.ItemStorage.{storage_view}
use Rattle.tl_inline.proofs.Lists.{view_with_item}
use Rattle.tl_inline.proofs.inline.vec.InlineVec.get_mut.Goals as goal

-- `variant` stands first, so that a call at another index is refused before the loans are compared
pub returns : goal.returns
returns g c =
    let h = c.self.inside.held in
    let e = c.get_mut.ensures in
    let variant : IsSome c.get_mut.result ↔ (c.args.index < length (storage_view h).items) = e.variant in
    rw (← c.self.view_is) (
      λ t. read_of (ghost_name_of c.get_mut.result) (λ (w : g.row.T.Denot). view_with_item h c.args.index w t) (storage_view h),
      record { writes_back = tt; variant = variant; value = e.value; item = e.item },
    )
