use Rattle.std.proofs.Common.{◌≡◌, rules, subst, Some}
use Rattle.tl_tracking.specs.Tracking.{TracksIds}
use Rattle.tl_tracking.proofs.Maps.{on_ok}
use Rattle.tl_tracking.proofs.Noted.{id-noted}
use Rattle.tl_tracking.proofs.tracking.TrackingOf.note_id.Goals as goal

pub returns-clause-noted : goal.returns-clause-noted
returns-clause-noted g c =
    let list = g.B.Piece.list in
    let eq = g.B.PartialEq.eq in
    let old = c.in-Some.ids.entries in
    let was : c.args.self.now.ids ≡ Some old = search rules in
    on_ok c.keep_first.result c.keep_first.ensures.ok
    (λ more nodes node here place tracked. id-noted list eq g.met.B.Piece.compares_lists old c.keep_first.new.ids.entries c.args.id c.args.number more nodes node here place (subst (λ ids. TracksIds list eq ids nodes) was tracked))
