use Rattle.std.proofs.Common.{◌++◌, ◌∷◌, [], ap, ◌∙◌}
use Rattle.tl_patch.proofs.Tags.{some_of}
use Rattle.tl_patch_edit.specs.Inner.Parts.{part_view, parts_view}
use Rattle.tl_patch_edit.proofs.Puts.{text_put}
use Rattle.tl_patch_edit.proofs.put.text_parts.Goals as goal

pub returns-clause-parts : goal.returns-clause-parts
returns-clause-parts c =
    text_put c.args.text.now (part_view c.args.place) (part_view c.in-Some.part) (parts_view c.push.new.out.items) (some_of _ _ _ c.in-Some.is c.in_ok-part.ensures.part)
    (c.in_ok-push.ensures ∙ ap (λ xs. parts_view xs ++ part_view c.in-Some.part ∷ []) c.new-parts.ensures.items)
