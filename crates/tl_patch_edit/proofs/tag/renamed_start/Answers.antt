use Rattle.tl_patch_spec.specs.Markup.{is_name}
use Rattle.tl_patch.specs.StartTags.{is_start_tag}
use Rattle.tl_patch_edit.proofs.EndTags.{not_given}
use Rattle.tl_patch_edit.proofs.tag.renamed_start.Goals as goal

pub returns-in_default-clause-none : goal.returns-in_default-clause-none
returns-in_default-clause-none c = not_given _ (is_name c.args.name.now) (is_start_tag c.args.tag.now) c.in_default.is c.requires c.in_ok-new.ensures.some
