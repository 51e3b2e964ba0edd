use Rattle.std.proofs.Common.{is_ok, ◌∙◌}
use Rattle.tl_tree.proofs.KeptPlaces.{pushed-long, within-long}
use Rattle.tl_tree.proofs.places.Places.push_long.Goals as goal

pub invariant_of-self-2 : goal.invariant_of-self-2
invariant_of-self-2 c =
    let p = c.args.self.now in
    record { within = within-long p.long.items c.push.new.self.items p.short.items c.push-2.new.self.items c.new.result c.args.bounds (is_ok c.push-2.result) p.within c.in_ok-push.ensures.items c.push-2.ensures.items (c.new.ensures.start ∙ (c.len-number.ensures ∙ p.long.ok.0)) c.new.ensures.len }

pub returns : goal.returns
returns c =
    let p = c.args.self.now in
    pushed-long p.long.items c.push.new.self.items p.short.items c.push-2.new.self.items c.new.result c.args.bounds p.within c.in_ok-push.ensures.items c.in_ok-push-2.ensures.items (c.new.ensures.start ∙ (c.len-number.ensures ∙ p.long.ok.0)) c.new.ensures.len
