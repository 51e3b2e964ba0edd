use Rattle.std.proofs.Common.{arith, length, subst, sym, ◌+◌, ◌<◌}
use Rattle.std.proofs.lemmas.List.{length-map}
use Rattle.tl_tree.proofs.Skips.{AreSound, sound-of, sound-place}
use Rattle.tl_tree.proofs.Standing.{cut-replaced, raised-over, standing, standing-all, standing-entries, standing-sound}
use Rattle.tl_tree.specs.Inner.Entered.{entered}
use Rattle.tl_tree.specs.Inner.Scoped.{elements}
use Rattle.tl_tree.specs.declared.scopes.Entry.{Entry}
use Rattle.tl_tree.specs.declared.scopes.Limits.{Limits}
use Rattle.std.proofs.Common.{ap}
use Rattle.tl_tree.proofs.scopes.Scopes.replace.Goals as goal

pub returns-then-place : goal.returns-then-place
returns-then-place c =
    cut-replaced c.args.place c.args.number (entered c.args.self.now) (entered c.cut.new.self) c.cut.ensures

pub invariant_of-self : goal.invariant_of-self
unfolding entered
invariant_of-self c =
    let s = c.args.self.now in
    let sound = sound-place s.entries.items s.limits s.names.items s.places.items c.set_place.new.places.items c.args.number c.set_place.ensures.longer c.set_place.ensures.others c.requires.new (sound-of s) in
    record {
      named = sound.named;
      limited = sound.limited;
      sought = sound.sought;
      limits_kept = sound.limits_kept;
      names_kept = sound.names_kept;
      numbered = sound.placed.within;
      placed = sound.placed.here;
    }

pub returns-in_default : goal.returns-in_default
unfolding entered
returns-in_default c =
    cut-replaced c.args.place c.args.number (entered c.args.self.now) (entered c.cut-in_default.new.self) c.cut-in_default.ensures

pub invariant_of-self-2 : goal.invariant_of-self-2
unfolding entered
invariant_of-self-2 c =
    let s = c.args.self.now in
    let entries = s.entries.items in
    let place = c.args.place in
    let number = c.args.number in
    let gone = c.index-gone.result.now in
    let inside = c.index-inside.result.now in
    let places = c.set_place.new.places.items in
    let deep : place + 1 < length entries = omega (arith, c.requires.within, length-map entries (λ (entry : Entry). entry.own)) in
    let placed = sound-place entries s.limits s.names.items s.places.items places number c.set_place.ensures.longer c.set_place.ensures.others c.requires.new (sound-of s) in
    let sound =
    subst (λ (limits : Limits). AreSound (standing-entries entries place (standing gone inside number) (record { own = inside.own; limits = limits; name = place + 1 })) s.limits s.names.items places) (sym c.raised.ensures)
    (standing-sound entries place gone inside number deep c.index-gone.ensures c.index-inside.ensures s.limits s.names.items places
    c.in-Ok.ensures.within c.in-Ok.ensures.own placed) in
    record {
      named = sound.named;
      limited = sound.limited;
      sought = sound.sought;
      limits_kept = sound.limits_kept;
      names_kept = sound.names_kept;
      numbered = sound.placed.within;
      placed = sound.placed.here;
    }

pub returns : goal.returns
unfolding entered
returns c =
    let entries = c.args.self.now.entries.items in
    let place = c.args.place in
    let number = c.args.number in
    let gone = c.index-gone.result.now in
    let inside = c.index-inside.result.now in
    let deep : place + 1 < length entries = omega (arith, c.requires.within, length-map entries (λ (entry : Entry). entry.own)) in
    standing-all entries place gone inside number deep c.index-gone.ensures c.index-inside.ensures
    (elements (standing-entries entries place (standing gone inside number) (record { own = inside.own; limits = c.raised.result; name = place + 1 })))
    (ap (λ (limits : Limits). elements (standing-entries entries place (standing gone inside number) (record { own = inside.own; limits = limits; name = place + 1 }))) c.raised.ensures)
