use Rattle.std.proofs.Common.{◌∙◌}
use Rattle.tl_names.specs.TagSets.{names_in}
use Rattle.tl_names.specs.declared.class.Class.TheVariants.{Decisive}
use Rattle.tl_tree.proofs.NumberedNames.{class-told, in-space}
use Rattle.tl_tree.proofs.test.is_decisive.Goals as goal

pub returns-then-is_html : goal.returns-then-is_html
unfolding names_in
returns-then-is_html c n e =
    in-space c.is_html.result _ c.is.result _ c.is_html.ensures c.if-is_html.true (c.is.ensures ∙ class-told Decisive c.args.name n e)
