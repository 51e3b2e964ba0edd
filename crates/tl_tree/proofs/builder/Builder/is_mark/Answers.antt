use Rattle.std.proofs.Common.{ap, ◌∙◌}
use Rattle.std.specs.Prelude.{codes}
use Rattle.tl_dom_spec.specs.Tags.{Tag}
use Rattle.tl_html_spec.specs.Balanced.{is_one_of}
use Rattle.tl_names.specs.TagSets.{names_in}
use Rattle.tl_names.specs.declared.class.Class.TheVariants.{MathGlyph}
use Rattle.tl_tree.proofs.NumberedNames.{class-told}
use Rattle.tl_tree.specs.Inner.Builders.{token_of}
use Rattle.tl_tree.specs.Inner.Store.{bytes_of, tag_of}
use Rattle.tl_tree.proofs.builder.Builder.is_mark.Goals as goal

pub returns : goal.returns
unfolding names_in token_of tag_of
returns c =
    let own = c.tag-own.result in
    c.is.ensures
    ∙ (class-told MathGlyph own.known (bytes_of c.args.self.now.path.store own.name) c.tag-own.ensures.known
    ∙ ap (is_one_of (codes "mglyph malignmark")) (ap (λ (t : Tag). t.name) c.tag-own.ensures.stands))
