-- What a builder holds before the first token of a fragment, made from what it holds before that of
-- a page.
use Rattle.std.specs.Prelude.{Some, codes, if◌then◌else◌, ◌∷◌}
use Rattle.tl_dom_spec.specs.Builder.{Builder, in_template, insert_element}
use Rattle.tl_dom_spec.specs.HtmlTree.{Context, context_form}
use Rattle.tl_dom_spec.specs.Reset.{reset_insertion_mode}
use Rattle.tl_dom_spec.specs.Tags.{bare_tag, is_template}

abbrev pub rooted : Builder → Builder
rooted b = insert_element (bare_tag (codes "html")) b

abbrev pub templated : Context → Builder → Builder
templated context b = record b {
  templates = if is_template context.tag then in_template ∷ b.templates else b.templates;
}

unfoldable pub standing_in : Context → Builder → Builder
standing_in context b =
    let inside : Builder = record (rooted b) { context = Some context.tag } in
    let formed : Builder = record (templated context inside) { form = context_form context } in
    reset_insertion_mode (record formed { is_quirks = context.is_quirks })
