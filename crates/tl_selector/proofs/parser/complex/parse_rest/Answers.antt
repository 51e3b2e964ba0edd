use Rattle.std.proofs.Common.{◌≡◌, ap, sym, ◌∙◌, subst, option_map}
use Rattle.tl_selector.specs.View.{selector}
use Rattle.tl_selector.specs.Inner.ParserViews.{separator}
use Rattle.tl_spec.specs.Select.Reading.{nest, list_after, complex_after}
use Rattle.tl_spec.specs.Select.Reading.{parts_at, next_at, End, Bad, Part}
use Rattle.tl_spec.proofs.Select.Text.{rest_part, next_lt}
use Rattle.tl_selector.proofs.TextParts.{kept_chain}
use Rattle.tl_selector.specs.declared.parser.complex.Separator.{Separator}
use Rattle.tl_selector.proofs.parser.complex.parse_rest.Goals as goal

pub parts-preserved-in-Comma : goal.parts-preserved-in-Comma
parts-preserved-in-Comma c =
    let before = option_map selector c.parts.before in
    let chain = selector c.parts.chain in
    let part = selector c.in-Part.part in
    let step = rest_part before chain c.parts.rest.now (separator c.in-Part.link) part c.in-Part.text.now (sym c.in-Part.ensures) in
    let here = subst (λ (l : Separator). option_map (nest before chain) (parts_at c.parts.rest.now) ≡ option_map (nest (list_after (separator l) before chain) (complex_after (separator l) chain part)) (parts_at c.in-Part.text.now)) c.in-Comma.is step in
    record {
      nests = rw c.in_ok-push_complex-in-Comma.ensures.closed (sym here ∙ c.parts.invariant.nests);
      alone = λ e. let a = c.parts.invariant.alone e in let k = sym c.in-Part.ensures in let w = ap next_at a.0 in let z : Part (separator c.in-Part.link) part c.in-Part.text.now ≡ End = sym k ∙ (w ∙ e) in cc;
      bad = λ e. let k = sym c.in-Part.ensures in let z : Part (separator c.in-Part.link) part c.in-Part.text.now ≡ Bad = sym k ∙ (ap next_at (c.parts.invariant.bad e) ∙ e) in cc;
    }

pub parts-preserved : goal.parts-preserved
parts-preserved c =
    let before = option_map selector c.parts.before in
    let chain = selector c.parts.chain in
    let part = selector c.in-Part.part in
    let step = rest_part before chain c.parts.rest.now (separator c.in-Part.link) part c.in-Part.text.now (sym c.in-Part.ensures) in
    let kept = kept_chain c.in-Part.link before chain part c.in_default.not-Comma in
    record {
      nests = rw (c.in_ok-chain-in_default.ensures, ← kept.0, ← kept.1) (sym step ∙ c.parts.invariant.nests);
      alone = λ e. let a = c.parts.invariant.alone e in let k = sym c.in-Part.ensures in let w = ap next_at a.0 in let z : Part (separator c.in-Part.link) part c.in-Part.text.now ≡ End = sym k ∙ (w ∙ e) in cc;
      bad = λ e. let k = sym c.in-Part.ensures in let z : Part (separator c.in-Part.link) part c.in-Part.text.now ≡ Bad = sym k ∙ (ap next_at (c.parts.invariant.bad e) ∙ e) in cc;
    }

pub parts-smaller-in-Comma : goal.parts-smaller-in-Comma
parts-smaller-in-Comma c = next_lt c.parts.rest.now (separator c.in-Part.link) (selector c.in-Part.part) c.in-Part.text.now (sym c.in-Part.ensures)

pub parts-smaller : goal.parts-smaller
parts-smaller c = next_lt c.parts.rest.now (separator c.in-Part.link) (selector c.in-Part.part) c.in-Part.text.now (sym c.in-Part.ensures)
