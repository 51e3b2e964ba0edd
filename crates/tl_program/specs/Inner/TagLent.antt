-- What a table ends as, where a tag of it is lent.
use Rattle.std.specs.Prelude.{ℕ, Result}
use Rattle.std.specs.Borrow.{LendsIfOk, Fml, RattleType, MutBor}
use Rattle.tl.specs.Table.{Table}
use Rattle.tl.specs.Tag.{Tag}
use Rattle.tl.specs.Inner.TableLends.{with_node}
use Rattle.tl_attributes.specs.declared.summary.SummaryOf.{Ghosts}
use Rattle.tl.specs.declared.parser.tag.node.NodeOf.TheVariants.{Tag as ATag}
use Rattle.tl.specs.contracts.parser.base.ParserOf.{the_row as parser_row}
use Rattle.tl.specs.contracts.parser.tag.TagOf.{the_row as tag_row}
use Rattle.tl_program.specs.declared.script.step.StepError.{StepError}

-- once the borrow r ends, the number has the tag that was last written through r, and at `Err` the
-- table stays as it is
abbrev pub LendsTagAt : (A B O M : RattleType) → Ghosts O.Denot A.Denot →
    MutBor (Table A.Denot B.Denot O.Denot M.Denot) → ℕ →
    Result (MutBor (Tag A.Denot B.Denot)) StepError → Fml
LendsTagAt A B O M o d n r = LendsIfOk (parser_row A B O M o) (tag_row A B O o) d r
    (λ tag. with_node d.now n (ATag tag)) d.now
