-- A tag that is taken by its parts is the tag that its bytes say.
use Rattle.std.proofs.Common.{Bool, List, [], ◌∷◌, ◌∙◌, ◌≡◌, ap, ap₂, false, sym, ℕ}
use Rattle.tl_dom_spec.specs.Builder.{Builder, Token, a_start, an_end}
use Rattle.tl_dom_spec.specs.Dispatcher.{token_done}
use Rattle.tl_dom_spec.specs.Driver.{builder, emitted_token}
use Rattle.tl_dom_spec.specs.Groups.{group}
use Rattle.tl_dom_spec.specs.Tags.{html_tag}
use Rattle.tl_html_parts.specs.Fronts.{IsTagSaid}
use Rattle.tl_html_parts.specs.declared.place.AttributePlace.{AttributePlace}
use Rattle.tl_html_parts.specs.declared.tag_front.TagFront.{TagFront}
use Rattle.tl_html_spec.specs.Driven.{Emission, plain, taken}
use Rattle.tl_html_spec.specs.HtmlTokenizer.{EndTag, HtmlToken, StartTag}
use Rattle.tl_html_tokens.specs.Emits.{IsEndSaid, IsStartSaid}
use Rattle.tl_html_tokens.specs.declared.mode.Mode.{Mode}
use Rattle.tl_tree.proofs.Taken.{one-taken}
use Rattle.tl_tree.specs.Inner.Parted.{end_said, start_said}
use Rattle.tl_tree.specs.Inner.Said.{piece_at}

first-plain : List HtmlToken → Token
first-plain [] = an_end (group []) []
first-plain (token ∷ tokens) = emitted_token (plain token)

module _ (page : List ℕ) (start : ℕ) (mode : Mode) (places : List AttributePlace) (tag : TagFront) (said : IsTagSaid page start mode places tag) (b b' : Builder) (emits : List Emission) where
  pub start-taken : b' ≡ token_done b (start_said page places tag) → IsStartSaid mode (piece_at page start tag.end) emits → b' ≡ taken builder b emits
  unfolding first-plain
  start-taken e own =
      let same = said.start_told (StartTag own.name own.attributes own.closes ∷ []) own.whole tt in
      one-taken b b' emits (plain (StartTag own.name own.attributes own.closes))
      (e ∙ ap (token_done b) (sym (ap first-plain same))) own.emits_are

  pub end-taken : b' ≡ token_done b (end_said page tag.name) → IsEndSaid mode (piece_at page start tag.end) emits → b' ≡ taken builder b emits
  unfolding first-plain
  end-taken e own =
      let same = said.end_told (EndTag own.name ∷ []) own.whole tt in
      one-taken b b' emits (plain (EndTag own.name)) (e ∙ ap (token_done b) (sym (ap first-plain same))) own.emits_are
