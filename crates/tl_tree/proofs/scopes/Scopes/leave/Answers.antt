use Rattle.tl_tree.proofs.Skips.{elements-left, sound-left, sound-of}
use Rattle.tl_tree.specs.Inner.Entered.{entered}
use Rattle.tl_tree.proofs.scopes.Scopes.leave.Goals as goal

pub returns-in_default : goal.returns-in_default
unfolding entered
returns-in_default c =
    let s = c.args.self.now in
    elements-left c.pop.new.self.items s.entries.items s.entries.len c.pop.ensures.rest s.entries.ok.0

pub invariant_of-self-2 : goal.invariant_of-self-2
invariant_of-self-2 c =
    let s = c.args.self.now in
    let sound = sound-left c.pop.new.self.items s.entries.items c.in-Some.last s.limits s.names.items s.places.items c.in-Some.ensures.items (sound-of s) in
    record {
      named = sound.named;
      limited = sound.limited;
      sought = sound.sought;
      limits_kept = sound.limits_kept;
      names_kept = sound.names_kept;
      numbered = sound.placed.within;
      placed = sound.placed.here;
    }

pub returns : goal.returns
unfolding entered
returns c =
    let s = c.args.self.now in
    elements-left c.pop.new.self.items s.entries.items s.entries.len c.pop.ensures.rest s.entries.ok.0
