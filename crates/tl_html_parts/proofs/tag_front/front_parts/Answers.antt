use Rattle.std.proofs.Common.{◌≡◌, ◌-◌, ◌∷◌, ◌∙◌, Bool, List, [], ℕ, ap, ap₂, arith, drop, subst, sym, take}
use Rattle.tl_html_spec.specs.HtmlTokenizer.{EndTag, HtmlToken, StartTag}
use Rattle.tl_html_tokens.specs.Whole.{IsWhole}
use Rattle.tl_html_parts.specs.Parts.{attributes_of, name_of}
use Rattle.tl_html_parts.specs.Places.{IsNameAt, pairs_in, part_in}
use Rattle.tl_html_parts.specs.Rest.{HasRest}
use Rattle.tl_html_parts.specs.declared.place.AttributePlace.{AttributePlace}
use Rattle.tl_html_parts.proofs.Carried.{pairs-before, part-before, part-on, parts-on, whole-from}
use Rattle.tl_html_parts.proofs.tag_front.front_parts.Goals as goal

pub returns-clause-said : goal.returns-clause-said
returns-clause-said c mode order within =
    let page : List ℕ = c.args.page.now in
    let start : ℕ = c.args.start in
    let n : ℕ = c.min.result in
    let least = c.min.ensures in
    let same : c.args.front.end ≡ n = omega (arith, least, within) in
    let text : List ℕ = take n page in
    let name = c.tag_name-name.result in
    let named : IsNameAt text start name = c.tag_name-name.ensures in
    let items : List AttributePlace = c.read_attributes.new.attributes.items in
    let closes : Bool = c.is_at.result in
    let rest : HasRest (drop name.end text) (pairs_in text items) closes = subst (HasRest (drop name.end text) (pairs_in text items)) (sym c.is_at.ensures) c.in_ok-at.ensures.rest in
    let called : name_of (part_in text name) ≡ name_of (part_in page name) = ap name_of (part-before page n name_of name named.part) in
    let pairs : pairs_in text items ≡ pairs_in page items = pairs-before page n items c.in_ok-at.ensures.parts in
    let alone : (tokens : List HtmlToken) → IsWhole mode (take (c.args.front.end - start) (drop start page)) tokens → IsWhole mode (drop start text) tokens =
    λ tokens whole. whole-from page start n mode tokens (omega (arith, order, same)) (subst (λ k. IsWhole mode (take (k - start) (drop start page)) tokens) same whole) in
    record {
      name = part-on page n name_of name named.part;
      attributes = parts-on page n items c.in_ok-at.ensures.parts;
      start_told = λ tokens whole start_tag.
          named.start_told (pairs_in text items) closes rest mode tokens (alone tokens whole) start_tag
          ∙ ap₂ (λ n xs. StartTag n (attributes_of xs) closes ∷ []) called pairs;
      end_told = λ tokens whole end_tag.
          named.end_told mode tokens (alone tokens whole) end_tag ∙ ap (λ n. EndTag n ∷ []) called;
    }
