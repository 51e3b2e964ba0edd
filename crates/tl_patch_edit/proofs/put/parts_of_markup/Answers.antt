use Rattle.tl_patch_edit.specs.Inner.Parts.{parts_view}
use Rattle.tl_patch_edit.proofs.EndTags.{markup_edges, markup_gives}
use Rattle.tl_patch_edit.proofs.put.parts_of_markup.Goals as goal

pub returns-clause-gives : goal.returns-clause-gives
returns-clause-gives c = λ e. markup_gives c.args.markup.now (parts_view c.in_ok-parts.parts.items) e c.in_ok-parts.ensures

pub returns-clause-edges : goal.returns-clause-edges
returns-clause-edges c = λ e. markup_edges c.args.markup.now (parts_view c.in_ok-parts.parts.items) e c.in_ok-parts.ensures
