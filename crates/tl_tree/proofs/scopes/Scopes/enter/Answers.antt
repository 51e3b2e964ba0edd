use Rattle.std.proofs.Common.{List, ap, refl, subst, sym, ◌+◌, ◌∙◌}
use Rattle.std.proofs.Math.ListN.{set}
use Rattle.tl_tree.proofs.Skips.{AreSound, elements-push, read-number, sound-entered, sound-longer, sound-of, sound-place}
use Rattle.tl_tree.specs.Inner.Entered.{entered}
use Rattle.tl_tree.specs.Inner.Scoped.{elements}
use Rattle.tl_tree.specs.declared.scopes.Entry.{Entry}
use Rattle.tl_tree.specs.declared.scopes.Limits.{Limits}
use Rattle.tl_tree.proofs.scopes.Scopes.enter.Goals as goal

pub invariant_of-self-in-Break-1 : goal.invariant_of-self-in-Break-1
unfolding entered
invariant_of-self-in-Break-1 c =
    let s = c.args.self.now in
    let sound = sound-place s.entries.items s.limits s.names.items s.places.items c.set_place.new.places.items c.args.own.number c.set_place.ensures.longer c.set_place.ensures.others c.requires (sound-of s) in
    record {
      named = sound.named;
      limited = sound.limited;
      sought = sound.sought;
      limits_kept = sound.limits_kept;
      names_kept = sound.names_kept;
      numbered = sound.placed.within;
      placed = sound.placed.here;
    }

pub returns-in_err-set_place-clause-err : goal.returns-in_err-set_place-clause-err
unfolding entered
returns-in_err-set_place-clause-err c = λ _. refl

pub invariant_of-self-in-Break-branch-2 : goal.invariant_of-self-in-Break-branch-2
unfolding entered
invariant_of-self-in-Break-branch-2 c =
    let s = c.args.self.now in
    let places = c.set_place.new.places.items in
    let sound = sound-longer s.entries.items s.limits s.names.items c.lengthen.new.numbers.items places c.lengthen.ensures.longer c.lengthen.ensures.same
    (sound-place s.entries.items s.limits s.names.items s.places.items places c.args.own.number c.set_place.ensures.longer c.set_place.ensures.others c.requires (sound-of s)) in
    record {
      named = sound.named;
      limited = sound.limited;
      sought = sound.sought;
      limits_kept = sound.limits_kept;
      names_kept = sound.names_kept;
      numbered = sound.placed.within;
      placed = sound.placed.here;
    }

pub returns-in_err-lengthen-clause-err : goal.returns-in_err-lengthen-clause-err
unfolding entered
returns-in_err-lengthen-clause-err c = λ _. refl

pub invariant_of-self-in-Break-branch-3 : goal.invariant_of-self-in-Break-branch-3
unfolding entered
invariant_of-self-in-Break-branch-3 c =
    let s = c.args.self.now in
    let places = c.set_place.new.places.items in
    let names = c.lengthen.new.numbers.items in
    let sound = subst (λ (xs : List Entry). AreSound xs s.limits names places) (sym c.in_err-push.ensures.items)
    (sound-longer s.entries.items s.limits s.names.items names places c.lengthen.ensures.longer c.lengthen.ensures.same
    (sound-place s.entries.items s.limits s.names.items s.places.items places c.args.own.number c.set_place.ensures.longer c.set_place.ensures.others c.requires (sound-of s))) in
    record {
      named = sound.named;
      limited = sound.limited;
      sought = sound.sought;
      limits_kept = sound.limits_kept;
      names_kept = sound.names_kept;
      numbered = sound.placed.within;
      placed = sound.placed.here;
    }

pub returns-in_err-push-clause-err : goal.returns-in_err-push-clause-err
unfolding entered
returns-in_err-push-clause-err c = λ _. ap elements c.in_err-push.ensures.items

pub invariant_of-self-2 : goal.invariant_of-self-2
unfolding entered
invariant_of-self-2 c =
    let s = c.args.self.now in
    let own = c.args.own in
    let places = c.set_place.new.places.items in
    let names = c.lengthen.new.numbers.items in
    let placed = sound-longer s.entries.items s.limits s.names.items names places c.lengthen.ensures.longer c.lengthen.ensures.same
    (sound-place s.entries.items s.limits s.names.items s.places.items places own.number c.set_place.ensures.longer c.set_place.ensures.others c.requires (sound-of s)) in
    let deep = c.len-place.ensures ∙ s.entries.ok.0 in
    let e : Entry = record { own = own; limits = s.limits; name = c.index.result.now } in
    let new = sound-entered s.entries.items c.push.new.self.items e s.limits names places c.len-place.result c.in_ok-push.ensures.items refl
    (read-number names own.role.name c.index.result.now c.in_ok-lengthen.ensures.within c.index.ensures)
    c.in_ok-lengthen.ensures.within c.in_ok-set_place.ensures.within c.in_ok-set_place.ensures.own deep placed in
    let sound = subst (λ (limits : Limits). AreSound c.push.new.self.items limits (set names own.role.name (c.len-place.result + 1)) places) (sym c.raised-self.ensures) new in
    record {
      named = sound.named;
      limited = sound.limited;
      sought = sound.sought;
      limits_kept = sound.limits_kept;
      names_kept = sound.names_kept;
      numbered = sound.placed.within;
      placed = sound.placed.here;
    }

pub returns-clause-ok : goal.returns-clause-ok
unfolding entered
returns-clause-ok c =
    ap elements c.in_ok-push.ensures.items
    ∙ elements-push c.args.self.now.entries.items (record { own = c.args.own; limits = c.args.self.now.limits; name = c.index.result.now })
