use Rattle.std.proofs.Common.{refl, sym, ◌∙◌}
use Rattle.tl_patch_edit.specs.Inner.Parts.{part_view, parts_view}
use Rattle.tl_patch_edit.proofs.Puts.{markup_put}
use Rattle.tl_patch_edit.proofs.put.markup_parts.Goals as goal

pub returns-clause-parts : goal.returns-clause-parts
returns-clause-parts c =
    markup_put c.args.markup.now (part_view c.args.place) (parts_view c.in_ok-put.put.items) (parts_view c.in_ok-put.put.items) (sym c.is_data-is_data.ensures ∙ c.if-not-is_data.false)
    (c.in_ok-put.ensures.gives (sym c.has_mark-has_mark.ensures ∙ c.if-has_mark.false)) (c.in_ok-put.ensures.edges (sym c.has_mark-has_mark.ensures ∙ c.if-has_mark.false)) refl
