-- What a tag whose children are held for writing ends as, where their list is lent.
use Rattle.std.specs.Prelude.{ℕ, []}
use Rattle.std.specs.Borrow.{Lends, Fml, RattleType, MutBor}
use base.Fml.{GName}
use mir.Syntax.{named}
use denote.Param.{number}
use Rattle.tl_spec.specs.Tree.Inline.{InlineVec}
use Rattle.tl_inline.specs.contracts.inline.vec.InlineVec.{the_row as inline_vec_row}
use Rattle.tl_attributes.specs.declared.summary.SummaryOf.{Ghosts}
use Rattle.tl.specs.Tag.{Tag}
use Rattle.tl.specs.declared.parser.tag.children_mut.ChildrenMutOf.{ChildrenMutOf}
use Rattle.tl_table.specs.contracts.handle.NodeHandle.{the_row as handle_row}
use Rattle.tl.specs.contracts.parser.tag.children_mut.ChildrenMutOf.{the_row}

module _ {A B O : Type 0} where
  -- the tag as it is now
  abbrev pub lent_tag : ChildrenMutOf A B O → Tag A B
  lent_tag c = c.tag.now

  -- which reference to the tag is held
  abbrev pub lent_name : ChildrenMutOf A B O → GName
  lent_name c = c.tag.ghost_name

  -- c where the handles of the tag's children are these
  abbrev pub with_lent_children : ChildrenMutOf A B O → InlineVec ℕ → ChildrenMutOf A B O
  with_lent_children c handles =
      record c { tag = record c.tag { now = record c.tag.now { children = handles } } }

-- once the borrow r ends, the handles are those that were last written through r
abbrev pub LendsTopHandles : (A B O : RattleType) → Ghosts O.Denot A.Denot →
    MutBor (ChildrenMutOf A.Denot B.Denot O.Denot) → MutBor (InlineVec ℕ) → Fml
LendsTopHandles A B O o c r = Lends (the_row (record { mir = named 1; lft = [] }) A B O o)
    (inline_vec_row handle_row (number 2)) c r (with_lent_children c.now)
