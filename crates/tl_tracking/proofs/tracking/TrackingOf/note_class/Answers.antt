use Rattle.std.proofs.Common.{◌≡◌, rules, subst, Some}
use Rattle.tl_tracking.specs.Tracking.{TracksMembers}
use Rattle.tl_tracking.proofs.Maps.{on_ok}
use Rattle.tl_tracking.proofs.Noted.{member-noted}
use Rattle.tl_tracking.proofs.tracking.TrackingOf.note_class.Goals as goal

pub returns-clause-noted : goal.returns-clause-noted
returns-clause-noted g c =
    let list = g.B.Piece.list in
    let eq = g.B.PartialEq.eq in
    let old = c.in-Some.classes.entries in
    let was : c.args.self.now.classes ≡ Some old = search rules in
    on_ok c.add_member.result c.add_member.ensures.ok
    (λ more nodes noted place tracked. member-noted list eq g.met.B.Piece.compares_lists old c.add_member.new.classes.entries c.args.member c.args.number more nodes noted place (subst (λ classes. TracksMembers list eq classes nodes noted) was tracked))
