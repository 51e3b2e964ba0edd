use Rattle.std.proofs.Common.{Some, length, refl, slice_get, subst, ◌≡◌}
use Rattle.std.proofs.lemmas.Option.{slice_get_read}
use Rattle.tl_tree.proofs.KeptPlaces.{found-long, found-short}
use Rattle.tl_tree.proofs.places.Places.get.Goals as goal

pub returns-then-own : goal.returns-then-own
returns-then-own c =
    let p = c.args.self.now in
    let own = c.in_ok-own.field-0.now in
    let lookup = c.in_ok-own.ensures.lookup in
    let at = subst (λ xs. slice_get xs c.args.index ≡ Some own) c.deref.ensures.value (slice_get_read c.deref.result.now (length c.deref.result.now) c.args.index own refl lookup.3.0 lookup.1) in
    found-long p.long.items p.short.items c.args.index c.start-start.result own c.index.result.now p.within at c.if-own.true c.start-start.ensures c.index.ensures

pub returns : goal.returns
returns c =
    let p = c.args.self.now in
    let own = c.in_ok-own.field-0.now in
    let lookup = c.in_ok-own.ensures.lookup in
    let at = subst (λ xs. slice_get xs c.args.index ≡ Some own) c.deref.ensures.value (slice_get_read c.deref.result.now (length c.deref.result.now) c.args.index own refl lookup.3.0 lookup.1) in
    found-short p.long.items p.short.items c.args.index c.start-start.result own at c.if-own.false c.start-start.ensures
