use Rattle.std.proofs.Common.{map, ap}
use Rattle.tl.specs.View.{node_view}
use Rattle.tl.specs.Walker.{enters}
use Rattle.tl.proofs.Frames.{left-fresh}
use Rattle.tl.proofs.Remaining.{fresh_place}
use Rattle.tl.proofs.walk.Walker.new.Goals as goal

pub returns-clause-left : goal.returns-clause-left
returns-clause-left c = left-fresh (enters c.args.entered) (map node_view c.args.nodes.now) c.new.result.items c.args.handles.now c.new.ensures.items

pub returns-clause-place : goal.returns-clause-place
returns-clause-place c = ap (λ frames. fresh_place (map node_view c.args.nodes.now) c.args.handles.now frames) c.new.ensures.items
