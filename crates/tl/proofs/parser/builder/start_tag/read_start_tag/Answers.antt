use Rattle.std.proofs.Common.{◌≡◌, ℕ, ◌-◌, List, [], take, drop, subst, ap, ◌∙◌}
use Rattle.tl_spec.specs.Lex.Attribute.{Pair}
use Rattle.tl_spec.specs.Lex.Token.{Token, token_after_attributes}
use Rattle.tl_spec.specs.Tree.Document.{Handles, held_items}
use Rattle.tl_bytes.specs.Held.{Kept}
use Rattle.tl_lexer.specs.Span.{bytes_at}
use Rattle.tl_lexer.specs.TokenMeaning.{ended}
use Rattle.tl_attributes.specs.AttributesView.{attributes_view}
use Rattle.tl.specs.View.{HTMLTag, tag_view}
use Rattle.tl.proofs.StartTags.{tag-made, tag-ends}
use Rattle.tl.proofs.parser.builder.start_tag.read_start_tag.Goals as goal

pub returns-clause-tag : goal.returns-clause-tag
returns-clause-tag g c =
    let t = g.S.Source.text c.args.source.now in
    let start = c.args.start in
    let end = c.tag_end-kind.result.1 in
    let now = c.read_into.new.tag in
    let kept = c.read_into.ensures.kept in
    let made = c.in_ok-tag.ensures in
    let name : now.name.list ≡ bytes_at t c.args.name = ap (λ (x : HTMLTag). x.name.list) kept ∙ ap (λ (x : HTMLTag). x.name.list) made ∙ ap (λ (b : Kept). b.list) c.in_ok-name.ensures.ok in
    let children : ◌≡◌ {A = Handles} now.children (held_items []) = ap (λ (x : HTMLTag). x.children) kept ∙ ap (λ (x : HTMLTag). x.children) made in
    let begun : now.start ≡ start = ap (λ (x : HTMLTag). x.start) kept ∙ ap (λ (x : HTMLTag). x.start) made in
    let raw : c.in_ok-raw.raw.list ≡ take (end - start) (drop start t) = ap (λ (b : Kept). b.list) c.in_ok-raw.ensures.ok in
    tag-made t (bytes_at t c.args.name) c.args.at c.in_ok-after.after (attributes_view now.attributes) c.in_ok-after.ensures.read start end (tag_view c.set_raw.new.self)
    (ap tag_view c.set_raw.ensures ∙ (λ i. record { name = name i; attributes = attributes_view now.attributes; children = children i; raw = raw i; start = begun i }))

pub returns-clause-end : goal.returns-clause-end
returns-clause-end g c =
    let t = g.S.Source.text c.args.source.now in
    let kind = c.tag_end-kind.result.0 in
    let end = c.tag_end-kind.result.1 in
    let after = c.in_ok-after.after in
    let ends : (name : List ℕ) (pairs : List Pair) → ◌≡◌ {A = Token × List ℕ} (ended name pairs kind, drop end t) (token_after_attributes name pairs (drop after t)) =
    subst (λ (T : List ℕ). (name : List ℕ) (pairs : List Pair) → ◌≡◌ {A = Token × List ℕ} (ended name pairs kind, drop end T) (token_after_attributes name pairs (drop after T))) c.as_bytes.ensures c.tag_end-kind.ensures.read in
    tag-ends t (bytes_at t c.args.name) c.args.at after (attributes_view c.read_into.new.tag.attributes) c.in_ok-after.ensures.read kind end ends
