use Rattle.std.proofs.Common.{◌∙◌}
use Rattle.tl_names.specs.TagSets.{names_in}
use Rattle.tl_names.specs.declared.class.Class.TheVariants.{MathMark, Scope, SvgMark}
use Rattle.tl_tree.proofs.NumberedNames.{class-told}
use Rattle.tl_tree.proofs.test.is_scope.Goals as goal

pub returns-in-Html : goal.returns-in-Html
unfolding names_in
returns-in-Html c n e = rw c.in-Html.is (c.is.ensures ∙ class-told Scope c.args.name n e)

pub returns-in-Math : goal.returns-in-Math
unfolding names_in
returns-in-Math c n e = rw c.in-Math.is (c.is-in-Math.ensures ∙ class-told MathMark c.args.name n e)

pub returns-in-Svg : goal.returns-in-Svg
unfolding names_in
returns-in-Svg c n e = rw c.in-Svg.is (c.is-in-Svg.ensures ∙ class-told SvgMark c.args.name n e)
