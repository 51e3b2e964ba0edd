use Rattle.std.proofs.Common.{◌∙◌, Bool, List, ℕ, drop, subst, sym}
use Rattle.tl_html_tokens.specs.declared.front.Front.{Front}
use Rattle.tl_html_tokens.proofs.TagTokens.{tag_tokens}
use Rattle.tl_html_parts.specs.Fronts.{IsMarkupFront}
use Rattle.tl_html_parts.specs.Inner.Named.{IsEnding, IsNamed}
use Rattle.tl_html_parts.specs.Places.{pairs_in, part_in}
use Rattle.tl_html_parts.specs.Rest.{HasRest}
use Rattle.tl_html_parts.proofs.Tags.{end_in_front, start_in_front}
use Rattle.tl_html_parts.proofs.tag_front.next_tag.Goals as goal

pub returns : goal.returns
returns c =
    let page : List ℕ = c.args.page.now in
    let start : ℕ = c.args.start in
    let name = c.in-Some.named.name in
    let named : IsNamed page start c.in-Some.named = c.in-Some.ensures in
    let pairs : List (List ℕ × List ℕ) = pairs_in page c.read_attributes.new.attributes.items in
    let closes : Bool = c.is_at.result in
    let end : IsEnding page name.end c.in_ok-at.at = c.in_ok-at.ensures.end in
    let rest : HasRest (drop name.end page) pairs closes = subst (HasRest (drop name.end page) pairs) (sym c.is_at.ensures) c.in_ok-at.ensures.rest in
    let front : IsMarkupFront page start c.end_at-found.result.kind c.end_at-found.result.end =
    c.end_at-found.ensures start (end.goes_on start c.in-Some.named.is_end named.in_tag) in
    let own : Front = record { kind = c.end_at-found.result.kind; end = c.end_at-found.result.end; mode = front.mode } in
    record {
      front = front;
      said = record {
        name = named.part;
        attributes = c.in_ok-at.ensures.parts;
        start_told = λ tokens whole start_tag.
            let x = tag_tokens page start own tokens front.front whole in
            start_in_front named.tag (part_in page name) (drop name.end page) pairs closes tokens x.0 named.none named.name_is (sym x.1 ∙ named.told) (rest named.tag) start_tag;
        end_told = λ tokens whole end_tag.
            let x = tag_tokens page start own tokens front.front whole in
            end_in_front named.tag (part_in page name) (drop name.end page) pairs closes tokens x.0 named.none named.name_is (sym x.1 ∙ named.told) (rest named.tag) end_tag;
      };
    }
