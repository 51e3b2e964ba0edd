use Rattle.std.proofs.Common.{[], inl, map, refl}
use Rattle.tl.specs.View.{node_view}
use Rattle.tl.proofs.Remaining.{remaining-over}
use Rattle.tl.proofs.walk.Walker.stop.Goals as goal

pub returns-clause-marked : goal.returns-clause-marked
returns-clause-marked c = record {
  kept = rw (c.clear.ensures.items, c.clear-2.ensures.items) (inl (refl, tt));
  fresh = rw c.clear.ensures.items tt;
}

pub returns-clause-remaining : goal.returns-clause-remaining
returns-clause-remaining c = remaining-over (map node_view c.args.self.now.nodes.now) c.clear.new.self.items [] c.clear.ensures.items refl
