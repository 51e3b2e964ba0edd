-- What a tag ends as, where a part of it is lent.
use Rattle.std.specs.Prelude.{ℕ}
use denote.Param.{number}
use Rattle.std.specs.Borrow.{Lends, Fml, RattleType, MutBor}
use Rattle.tl_spec.specs.Tree.Inline.{InlineVec}
use Rattle.tl_inline.specs.contracts.inline.vec.InlineVec.{the_row as inline_vec_row}
use Rattle.tl_attributes.specs.declared.summary.SummaryOf.{Ghosts}
use Rattle.tl.specs.Tag.{Tag}
use Rattle.tl_table.specs.contracts.handle.NodeHandle.{the_row as handle_row}
use Rattle.tl.specs.contracts.parser.tag.TagOf.{the_row}

module _ (A B O : RattleType) (o : Ghosts O.Denot A.Denot) (t : MutBor (Tag A.Denot B.Denot)) where
  -- once the borrow r ends, the name is the last one written through r
  abbrev pub LendsName : MutBor B.Denot → Fml
  LendsName r = Lends (the_row A B O o) B t r (λ w. record t.now { name = w })

  -- once the borrow r ends, the attributes are those last written through r
  abbrev pub LendsAttributes : MutBor A.Denot → Fml
  LendsAttributes r = Lends (the_row A B O o) A t r (λ w. record t.now { attributes = w })

  -- once the borrow r ends, the children are those last written through r
  abbrev pub LendsChildren : MutBor (InlineVec ℕ) → Fml
  LendsChildren r = Lends (the_row A B O o) (inline_vec_row handle_row (number 2)) t r
      (λ w. record t.now { children = w })
