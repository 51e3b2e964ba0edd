use Rattle.std.proofs.Common.{IsTrue, take, ◌≡◌}
use Rattle.tl_tree.specs.Inner.Heads.{listed}
use Rattle.tl_tree.specs.Inner.Store.{Grows, is_row, nodes_of}
use Rattle.tl_tree.proofs.head.add_all.Given as goal

abbrev pub invariant-loop-node : goal.invariant-loop-node
invariant-loop-node l =
    record {
      stands : nodes_of l.store l.end ≡ listed l.fn.store (nodes_of l.fn.store l.row) (take l.node-index l.nodes);
      within : IsTrue (is_row l.store l.end);
      grows : Grows l.fn.store l.store;
    }
