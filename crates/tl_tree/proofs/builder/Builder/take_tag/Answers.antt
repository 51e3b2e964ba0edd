use Rattle.std.proofs.Common.{List, [], refl, subst, ℕ, ◌≡◌, ◌≢◌}
use Rattle.std.proofs.lemmas.Result.{on_ok_weaker}
use Rattle.tl_html_parts.specs.Fronts.{IsTagKind}
use Rattle.tl_html_spec.specs.Driven.{Emission}
use Rattle.tl_html_tokens.specs.Emits.{AreEmits}
use Rattle.tl_html_tokens.specs.declared.mode.Mode.TheVariants.{Data}
use Rattle.tl_html_tokens.specs.declared.stage.TokenKind.{TokenKind}
use Rattle.tl_html_tokens.specs.declared.stage.TokenKind.TheVariants as kinds
use Rattle.tl_tree.proofs.Taken.{none-taken}
use Rattle.tl_tree.proofs.TagsTaken.{end-taken, start-taken}
use Rattle.tl_tree.specs.Inner.Builders.{builder_of}
use Rattle.tl_tree.specs.Inner.Said.{piece_at}
use Rattle.tl_tree.proofs.builder.Builder.take_tag.Goals as goal

pub returns-in-StartTag-clause-ok : goal.returns-in-StartTag-clause-ok
returns-in-StartTag-clause-ok c =
    let b = c.args.self.now in
    let page = b.path.store.page.now in
    on_ok_weaker c.take_start_tag.result
    (λ e emits h.
    start-taken page c.args.start Data c.args.attributes.now c.args.tag c.requires.said (builder_of b) (builder_of c.take_start_tag.new.self) emits e
    (subst (λ (kind : TokenKind). AreEmits Data (piece_at page c.args.start c.args.tag.end) kind emits) c.in-StartTag.is h))
    c.take_start_tag.ensures.ok

pub returns-in-EndTag-clause-ok : goal.returns-in-EndTag-clause-ok
returns-in-EndTag-clause-ok c =
    let b = c.args.self.now in
    let page = b.path.store.page.now in
    on_ok_weaker c.take_end_tag.result
    (λ e emits h.
    end-taken page c.args.start Data c.args.attributes.now c.args.tag c.requires.said (builder_of b) (builder_of c.take_end_tag.new.self) emits e
    (subst (λ (kind : TokenKind). AreEmits Data (piece_at page c.args.start c.args.tag.end) kind emits) c.in-EndTag.is h))
    c.take_end_tag.ensures.ok

-- of what is neither nothing is emitted
nothing : (bytes : List ℕ) (kind : TokenKind) (emits : List Emission) → IsTagKind kind → kind ≢ kinds.StartTag → kind ≢ kinds.EndTag → AreEmits Data bytes kind emits → emits ≡ []
nothing bytes kinds.Nothing emits h start end told = told
nothing bytes kinds.StartTag emits h start end told = absurd (start refl)
nothing bytes kinds.EndTag emits h start end told = absurd (end refl)
nothing bytes kinds.Text emits h start end told = absurd h
nothing bytes kinds.Comment emits h start end told = absurd h
nothing bytes kinds.Doctype emits h start end told = absurd h

pub returns-in_default-clause-ok : goal.returns-in_default-clause-ok
returns-in_default-clause-ok c emits h =
    let b = c.args.self.now in
    none-taken (builder_of b) (builder_of b) emits refl
    (nothing (piece_at b.path.store.page.now c.args.start c.args.tag.end) c.args.tag.kind emits c.requires.front.tag c.in_default.not-StartTag c.in_default.not-EndTag h)
