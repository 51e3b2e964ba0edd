use Rattle.std.proofs.Common.{ap, ◌∙◌}
use Rattle.tl_patch_spec.specs.Markup.{is_name}
use Rattle.tl_patch_edit.proofs.tag.lower_end_tag.Goals as goal

pub end_tag-requires : goal.end_tag-requires
end_tag-requires c = ap is_name (c.as_bytes.ensures ∙ c.in_ok-name.ensures) ∙ c.requires
