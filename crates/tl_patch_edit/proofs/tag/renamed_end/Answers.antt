use Rattle.tl_patch.specs.Places.{begins_end_tag}
use Rattle.tl_patch.proofs.Tags.{some_of}
use Rattle.tl_patch_spec.specs.Markup.{is_name}
use Rattle.tl_patch_edit.proofs.EndTags.{end_named, not_given, so_given}
use Rattle.tl_patch_edit.proofs.tag.renamed_end.Goals as goal

pub returns-clause-renamed : goal.returns-clause-renamed
returns-clause-renamed c =
    end_named c.args.tag.now c.args.name.now c.in-Some.new.items c.requires
    (so_given _ _ (is_name c.args.name.now) (begins_end_tag c.args.tag.now) c.in-Some.is c.in_ok-new.ensures.some) (some_of _ _ _ c.in-Some.is c.in_ok-new.ensures.renamed)

pub returns-in_default-clause-none : goal.returns-in_default-clause-none
returns-in_default-clause-none c = not_given _ (is_name c.args.name.now) (begins_end_tag c.args.tag.now) c.in_default.is c.requires c.in_ok-new.ensures.some
