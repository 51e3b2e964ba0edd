use Rattle.std.proofs.Common.{List, ap, subst, sym, ◌∙◌}
use Rattle.std.proofs.lemmas.Result.{on_ok_weaker}
use Rattle.tl_dom_spec.specs.Dispatcher.{token_done}
use Rattle.tl_html_parts.specs.Fronts.{IsTagSaid}
use Rattle.tl_html_parts.specs.Places.{AreParts}
use Rattle.tl_html_parts.specs.declared.place.AttributePlace.{AttributePlace}
use Rattle.tl_html_parts.specs.declared.tag_front.TagFront.{TagFront}
use Rattle.tl_html_tokens.specs.Characters.{characters_of}
use Rattle.tl_html_tokens.specs.Emits.{AreEmits, IsEndSaid, IsStartSaid}
use Rattle.tl_html_tokens.specs.declared.stage.TokenKind.{TokenKind}
use Rattle.tl_tree.proofs.TagsTaken.{end-taken, start-taken}
use Rattle.tl_tree.proofs.Taken.{characters-taken}
use Rattle.tl_tree.specs.Inner.Builders.{builder_of}
use Rattle.tl_tree.specs.Inner.Parted.{start_said}
use Rattle.tl_tree.specs.Inner.Said.{piece_at}
use Rattle.tl_tree.proofs.builder.Builder.take_front.Goals as goal

pub returns-in-Text-clause-ok : goal.returns-in-Text-clause-ok
returns-in-Text-clause-ok c =
    let b = c.args.self.now in
    let bytes = piece_at b.path.store.page.now c.args.start c.args.front.end in
    on_ok_weaker c.take_text.result
    (λ e emits h.
    characters-taken (builder_of b) (builder_of c.take_text.new.self) emits (characters_of c.args.mode bytes) e
    (subst (λ (kind : TokenKind). AreEmits c.args.mode bytes kind emits) c.in-Text.is h))
    c.take_text.ensures.ok

pub returns-in_ok-tag-in-StartTag-clause-ok : goal.returns-in_ok-tag-in-StartTag-clause-ok
returns-in_ok-tag-in-StartTag-clause-ok c =
    let b = c.args.self.now in
    let page = b.path.store.page.now in
    let tag : TagFront = c.in_ok-tag-in-StartTag.tag in
    let places : List AttributePlace = c.front_parts.new.attributes.items in
    let said : IsTagSaid page c.args.start c.args.mode places tag = c.in_ok-tag-in-StartTag.ensures.said c.args.mode c.requires.order c.requires.within in
    let slice = c.as_slice.ensures.value in
    on_ok_weaker c.take_start_tag.result
    (λ e emits h.
    start-taken page c.args.start c.args.mode places tag said (builder_of b) (builder_of c.take_start_tag.new.self) emits
    (e ∙ ap (λ xs. token_done (builder_of b) (start_said page xs tag)) slice)
    (subst (λ end. IsStartSaid c.args.mode (piece_at page c.args.start end) emits) (sym c.in_ok-tag-in-StartTag.ensures.end)
    (subst (λ (kind : TokenKind). AreEmits c.args.mode (piece_at page c.args.start c.args.front.end) kind emits) c.in-StartTag.is h)))
    c.take_start_tag.ensures.ok

pub returns-in_ok-tag-in-EndTag-clause-ok : goal.returns-in_ok-tag-in-EndTag-clause-ok
returns-in_ok-tag-in-EndTag-clause-ok c =
    let b = c.args.self.now in
    let page = b.path.store.page.now in
    let tag : TagFront = c.in_ok-tag-in-EndTag.tag in
    let places : List AttributePlace = c.front_parts-in-EndTag.new.attributes.items in
    let said : IsTagSaid page c.args.start c.args.mode places tag = c.in_ok-tag-in-EndTag.ensures.said c.args.mode c.requires.order c.requires.within in
    on_ok_weaker c.take_end_tag.result
    (λ e emits h.
    end-taken page c.args.start c.args.mode places tag said (builder_of b) (builder_of c.take_end_tag.new.self) emits e
    (subst (λ end. IsEndSaid c.args.mode (piece_at page c.args.start end) emits) (sym c.in_ok-tag-in-EndTag.ensures.end)
    (subst (λ (kind : TokenKind). AreEmits c.args.mode (piece_at page c.args.start c.args.front.end) kind emits) c.in-EndTag.is h)))
    c.take_end_tag.ensures.ok

pub take_start_tag-requires-clause-name : goal.take_start_tag-requires-clause-name
take_start_tag-requires-clause-name c =
    let said : IsTagSaid c.args.self.now.path.store.page.now c.args.start c.args.mode c.front_parts.new.attributes.items c.in_ok-tag-in-StartTag.tag = c.in_ok-tag-in-StartTag.ensures.said c.args.mode c.requires.order c.requires.within in
    said.name

pub take_start_tag-requires-clause-attributes : goal.take_start_tag-requires-clause-attributes
take_start_tag-requires-clause-attributes c =
    let said : IsTagSaid c.args.self.now.path.store.page.now c.args.start c.args.mode c.front_parts.new.attributes.items c.in_ok-tag-in-StartTag.tag = c.in_ok-tag-in-StartTag.ensures.said c.args.mode c.requires.order c.requires.within in
    subst (λ (places : List AttributePlace). AreParts c.args.self.now.path.store.page.now places) (sym c.as_slice.ensures.value) said.attributes

pub take_end_tag-requires : goal.take_end_tag-requires
take_end_tag-requires c =
    let said : IsTagSaid c.args.self.now.path.store.page.now c.args.start c.args.mode c.front_parts-in-EndTag.new.attributes.items c.in_ok-tag-in-EndTag.tag = c.in_ok-tag-in-EndTag.ensures.said c.args.mode c.requires.order c.requires.within in
    said.name
