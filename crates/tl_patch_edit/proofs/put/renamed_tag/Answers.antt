use Rattle.std.proofs.Common.{◌++◌, ◌∷◌, [], ap, ◌∙◌}
use Rattle.tl_patch_edit.specs.Inner.Parts.{part_view, parts_view}
use Rattle.tl_patch_edit.proofs.Puts.{renamed_put}
use Rattle.tl_patch_edit.proofs.put.renamed_tag.Goals as goal

pub returns-clause-parts : goal.returns-clause-parts
returns-clause-parts c =
    renamed_put c.args.name.now (part_view c.args.place) c.args.tag.now (parts_view c.push.new.out.items) c.requires
    (c.in_ok-push.ensures ∙ ap (λ xs. parts_view xs ++ record { kind = c.args.place.kind; mode = c.args.place.mode; bytes = c.args.tag.now } ∷ []) c.new-parts.ensures.items)
