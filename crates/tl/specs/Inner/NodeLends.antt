-- What a node ends as, where what it holds is lent.
use Rattle.std.specs.Prelude.{Option}
use Rattle.std.specs.Borrow.{LendsIf, Fml, RattleType, MutBor}
use Rattle.tl_attributes.specs.declared.summary.SummaryOf.{Ghosts}
use Rattle.tl.specs.Tag.{Tag}
use Rattle.tl.specs.contracts.parser.tag.TagOf.{the_row as tag_row}
use Rattle.tl.specs.declared.parser.tag.node.NodeOf.{NodeOf}
use Rattle.tl.specs.declared.parser.tag.node.NodeOf.TheVariants.{Tag as TagNode, Raw, Comment}
use Rattle.tl.specs.contracts.parser.tag.node.NodeOf.{the_row}

module _ (A B O : RattleType) (o : Ghosts O.Denot A.Denot)
    (n : MutBor (NodeOf A.Denot B.Denot O.Denot)) where
  -- once the borrow r ends, the node is the tag that was last written through r, and at `None` it
  -- stays as it is
  abbrev pub LendsTag : Option (MutBor (Tag A.Denot B.Denot)) → Fml
  LendsTag r = LendsIf (the_row A B O o) (tag_row A B O o) n r TagNode n.now

  -- once the borrow r ends, the node is the text that was last written through r, and at `None` it
  -- stays as it is
  abbrev pub LendsRaw : Option (MutBor B.Denot) → Fml
  LendsRaw r = LendsIf (the_row A B O o) B n r Raw n.now

  -- once the borrow r ends, the node is the comment that was last written through r, and at `None`
  -- it stays as it is
  abbrev pub LendsComment : Option (MutBor B.Denot) → Fml
  LendsComment r = LendsIf (the_row A B O o) B n r Comment n.now
