use Rattle.std.proofs.Common.{ap, arith, length, subst, sym, ◌+◌, ◌<◌}
use Rattle.std.proofs.Math.ListN.{set}
use Rattle.std.proofs.lemmas.List.{length-map}
use Rattle.tl_tree.proofs.Skips.{AreSound, number-at, sound-of, sound-place}
use Rattle.tl_tree.proofs.Turning.{cut-turned, moved, turned-all, turned-entries, turned-sound}
use Rattle.tl_tree.specs.Inner.Entered.{entered}
use Rattle.tl_tree.specs.Inner.Scoped.{elements}
use Rattle.tl_tree.specs.declared.scopes.Entry.{Entry}
use Rattle.tl_tree.specs.declared.scopes.Limits.{Limits}
use Rattle.tl_tree.proofs.scopes.Scopes.turn.Goals as goal

pub returns-then-not-can_turn : goal.returns-then-not-can_turn
returns-then-not-can_turn c =
    cut-turned c.args.place c.args.new (entered c.args.self.now) (entered c.cut.new.self) c.cut.ensures

pub invariant_of-self : goal.invariant_of-self
unfolding entered
invariant_of-self c =
    let s = c.args.self.now in
    let sound = sound-place s.entries.items s.limits s.names.items s.places.items c.set_place.new.places.items c.args.new.number c.set_place.ensures.longer c.set_place.ensures.others c.requires.new (sound-of s) in
    record {
      named = sound.named;
      limited = sound.limited;
      sought = sound.sought;
      limits_kept = sound.limits_kept;
      names_kept = sound.names_kept;
      numbered = sound.placed.within;
      placed = sound.placed.here;
    }

pub returns-in_default : goal.returns-in_default
unfolding entered
returns-in_default c =
    cut-turned c.args.place c.args.new (entered c.args.self.now) (entered c.cut-in_default.new.self) c.cut-in_default.ensures

pub index_mut-requires-3 : goal.index_mut-requires-3
unfolding entered
index_mut-requires-3 c =
    let s = c.args.self.now in
    let place = c.args.place + 1 in
    let deep : place < length s.entries.items = omega (arith, c.requires.within, length-map s.entries.items (λ (entry : Entry). entry.own)) in
    let number = number-at s.entries.items place c.index-inside.result.now deep c.index-inside.ensures in
    let within = s.numbered place deep in
    let many = c.set_place.new.places.ok.0 in
    let longer = c.set_place.ensures.longer in
    omega arith

pub invariant_of-self-2 : goal.invariant_of-self-2
unfolding entered
invariant_of-self-2 c =
    let s = c.args.self.now in
    let entries = s.entries.items in
    let place = c.args.place in
    let new = c.args.new in
    let gone = c.index-gone.result.now in
    let inside = c.index-inside.result.now in
    let places = c.set_place.new.places.items in
    let can = c.if-not-can_turn.false in
    let deep : place + 1 < length entries = omega (arith, c.requires.within, length-map entries (λ (entry : Entry). entry.own)) in
    let placed = sound-place entries s.limits s.names.items s.places.items places new.number c.set_place.ensures.longer c.set_place.ensures.others c.requires.new (sound-of s) in
    let sound =
    subst (λ (limits : Limits). AreSound (turned-entries entries place (moved gone inside) (record { own = new; limits = limits; name = place + 1 })) s.limits (set s.names.items new.role.name (place + 2)) (set places inside.own.number place)) (sym c.raised.ensures)
    (turned-sound entries place gone inside new deep c.index-gone.ensures c.index-inside.ensures s.limits s.names.items places
    (c.can_turn.ensures.kinds can) (c.can_turn.ensures.name can) (c.can_turn.ensures.within can) c.in-Ok.ensures.within c.in-Ok.ensures.own c.requires.new placed) in
    record {
      named = sound.named;
      limited = sound.limited;
      sought = sound.sought;
      limits_kept = sound.limits_kept;
      names_kept = sound.names_kept;
      numbered = sound.placed.within;
      placed = sound.placed.here;
    }

pub returns : goal.returns
unfolding entered
returns c =
    let entries = c.args.self.now.entries.items in
    let place = c.args.place in
    let new = c.args.new in
    let gone = c.index-gone.result.now in
    let inside = c.index-inside.result.now in
    let deep : place + 1 < length entries = omega (arith, c.requires.within, length-map entries (λ (entry : Entry). entry.own)) in
    turned-all entries place gone inside new deep c.index-gone.ensures c.index-inside.ensures
    (elements (turned-entries entries place (moved gone inside) (record { own = new; limits = c.raised.result; name = place + 1 })))
    (ap (λ (limits : Limits). elements (turned-entries entries place (moved gone inside) (record { own = new; limits = limits; name = place + 1 }))) c.raised.ensures)
