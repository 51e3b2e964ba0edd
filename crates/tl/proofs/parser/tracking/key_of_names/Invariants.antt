use Rattle.std.proofs.Common.{map, take}
use Rattle.tl_tracking.specs.NameKey.{HasNames}
use Rattle.tl.specs.Inner.Names.{names_in}
use Rattle.tl.specs.View.{node_view}
use Rattle.tl.proofs.parser.tracking.key_of_names.Given as goal

abbrev pub invariant-loop-node : goal.invariant-loop-node
invariant-loop-node l = HasNames l.key (names_in l.options (map node_view (take l.node-index l.nodes)))
