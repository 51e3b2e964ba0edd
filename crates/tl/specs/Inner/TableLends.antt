-- What a table or a document ends as, where a part of it is lent.
use Rattle.std.specs.Prelude.{ℕ, List, Option, length, slice_set}
use Rattle.std.specs.List.{refill}
use Rattle.std.specs.Borrow.{Lends, LendsIf, Fml, RattleType, MutBor, Array}
use Rattle.tl_attributes.specs.declared.summary.SummaryOf.{Ghosts}
use Rattle.tl.specs.Table.{Table}
use Rattle.tl.specs.declared.parser.tag.node.NodeOf.{NodeOf}
use Rattle.tl_table.specs.contracts.handle.NodeHandle.{the_row as handle_row}
use Rattle.tl.specs.contracts.parser.tag.node.NodeOf.{the_row as node_row}
use Rattle.tl.specs.contracts.parser.base.ParserOf.{the_row as parser_row}
use Rattle.tl.specs.contracts.vdom.VDomOf.{the_row as document_row}
use Rattle.tl.specs.contracts.vdom.guard.VDomGuardOf.{the_row as guard_row}

module _ {A B O M : Type 0} where
  -- a table with this node at the number
  abbrev pub with_node : Table A B O M → ℕ → NodeOf A B O → Table A B O M
  with_node d i node = record d { nodes = slice_set d.nodes i node }

  -- a table after a write of its nodes as a slice, which keeps their number
  abbrev pub with_nodes : Table A B O M → List (NodeOf A B O) → Table A B O M
  with_nodes d nodes = record d { nodes = refill (length d.nodes) d.nodes nodes }

  -- a table with these handles of its top nodes, as many as it has
  abbrev pub with_top : Table A B O M → List ℕ → Table A B O M
  with_top d handles = record d { top = refill (length d.top) d.top handles }

module _ (A B O M : RattleType) (o : Ghosts O.Denot A.Denot)
    (d : MutBor (Table A.Denot B.Denot O.Denot M.Denot)) where
  -- once the borrow r ends, the number has the last node written through r, and at `None` the table
  -- stays as it is
  abbrev pub LendsNode : ℕ → Option (MutBor (NodeOf A.Denot B.Denot O.Denot)) → Fml
  LendsNode i r = LendsIf (parser_row A B O M o) (node_row A B O o) d r (with_node d.now i) d.now

  -- once the borrow r ends, the nodes are those that r shows last
  abbrev pub LendsTableNodes : MutBor (List (NodeOf A.Denot B.Denot O.Denot)) → Fml
  LendsTableNodes r =
      Lends (parser_row A B O M o) (Array (node_row A B O o) 0) d r (with_nodes d.now)

  -- once the borrow r ends, the handles of the top nodes are those last written through r
  abbrev pub LendsTableTop : MutBor (List ℕ) → Fml
  LendsTableTop r = Lends (parser_row A B O M o) (Array handle_row 0) d r (with_top d.now)

  -- once the borrow r ends, the document is the table that was last written through r
  abbrev pub LendsParser : MutBor (Table A.Denot B.Denot O.Denot M.Denot) → Fml
  LendsParser r = Lends (document_row A B O M o) (parser_row A B O M o) d r (λ w. w)

  -- once the borrow r ends, the nodes of the document are those that r shows last
  abbrev pub LendsNodes : MutBor (List (NodeOf A.Denot B.Denot O.Denot)) → Fml
  LendsNodes r = Lends (document_row A B O M o) (Array (node_row A B O o) 0) d r (with_nodes d.now)

  -- once the borrow r ends, the handles of its top nodes are those last written through r
  abbrev pub LendsTop : MutBor (List ℕ) → Fml
  LendsTop r = Lends (document_row A B O M o) (Array handle_row 0) d r (with_top d.now)

  -- once the borrow r ends, what is guarded is the document that was last written through r
  abbrev pub LendsDocument : MutBor (Table A.Denot B.Denot O.Denot M.Denot) → Fml
  LendsDocument r = Lends (guard_row A B O M o) (document_row A B O M o) d r (λ w. w)
