-- An HTML `template` alone has contents.
use Rattle.std.proofs.Common.{ap, codes, refl, sym, true, true≢false, ◌∙◌, ◌≡◌, ◌↔◌}
use Rattle.std.proofs.lemmas.Bool.{and_parts}
use Rattle.tl_html_spec.specs.Balanced.{is_one_of, words}
use Rattle.tl_dom_spec.specs.Tags.{Namespace, Tag, html_space, is_html, is_template, math_space, svg_space}
use Rattle.tl_dom_spec.specs.HtmlForest.{has_contents}
use Rattle.tl_dom_spec.proofs.Words.{any_word}

space_of : (t : Tag) (space : Namespace) → t.space ≡ space → is_html t ≡ true → t.space ≡ html_space
space_of t html_space e h = e
space_of t math_space e h = absurd (true≢false (sym h ∙ ap (λ x. is_html (record t { space = x })) e))
space_of t svg_space e h = absurd (true≢false (sym h ∙ ap (λ x. is_html (record t { space = x })) e))

pub template_alone : (tag : Tag) → (has_contents tag ≡ true) ↔ ((tag.space ≡ html_space) × (tag.name ≡ codes "template"))
template_alone tag = (
  λ h. let parts = and_parts (is_html tag) (is_one_of (codes "template") tag.name) h in
      (space_of tag tag.space refl parts.0, any_word (λ name. name ≡ codes "template") (words (codes "template")) tag.name (refl, tt) parts.1),
  λ e. ap (λ x. has_contents (record tag { space = x })) e.0 ∙ ap (λ x. is_template (record tag { space = html_space; name = x })) e.1,
)
