use Rattle.std.proofs.Common.{◌≡◌, ◌++◌, flat_map, map, take, string_bytes}
use Rattle.tl.specs.View.{node_view}
use Rattle.tl.specs.Walker.{own_text}
use Rattle.tl.proofs.walk.text.write_texts_among.Given as goal

abbrev pub invariant-loop-node : goal.invariant-loop-node
invariant-loop-node l = string_bytes l.out ≡ string_bytes l.initial.out ++ flat_map own_text (map node_view (take l.node-index l.nodes))
