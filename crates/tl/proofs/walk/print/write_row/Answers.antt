use Rattle.std.proofs.Common.{[], map, string_bytes, subst}
use Rattle.std.specs.List.{AllByRecursion}
use Rattle.std.proofs.lemmas.Result.{on_ok_weaker}
use Rattle.tl_spec.specs.Print.Clean.{MeetsOwnKeys}
use Rattle.tl_spec.specs.Walk.{prints_children, walk}
use Rattle.tl_spec.proofs.Walk.Events.{own-events}
use Rattle.tl.specs.View.{node_view}
use Rattle.tl.specs.Walker.{events_to_come}
use Rattle.tl.proofs.Printing.{writes-walk}
use Rattle.tl.proofs.walk.print.write_row.Goals as goal

pub returns-clause-writes : goal.returns-clause-writes
returns-clause-writes c = writes-walk (map node_view c.args.nodes.now) c.args.handles.now (events_to_come c.new.result) (string_bytes c.args.out.now) c.write_walk.result (string_bytes c.write_walk.new.out) c.new.ensures.left c.write_walk.ensures.writes

pub returns-clause-own : goal.returns-clause-own
returns-clause-own c =
    on_ok_weaker c.write_walk.result (λ own. own-events (walk prints_children (map node_view c.args.nodes.now) [] c.args.handles.now) (subst (AllByRecursion MeetsOwnKeys) c.new.ensures.left own)) c.write_walk.ensures.own
