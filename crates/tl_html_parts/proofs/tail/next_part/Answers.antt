use Rattle.std.proofs.Common.{◌≡◌, ◌∙◌, ◌∷◌, ℕ, List, [], ap, arith, drop, subst, sym}
use Rattle.std.proofs.lemmas.List.{drop_min}
use Rattle.tl_html_parts.specs.Inner.TagParts.{IsAttributeNext}
use Rattle.tl_html_parts.specs.Places.{part_in}
use Rattle.tl_html_parts.specs.Rest.{HasRest, IsTail, tail_tokens}
use Rattle.tl_html_parts.proofs.Attributes.{tail-is}
use Rattle.tl_html_parts.proofs.tail.next_part.Goals as goal

pub returns-in-Attribute : goal.returns-in-Attribute
returns-in-Attribute c =
    let t : List ℕ = c.args.text.now in
    let from : ℕ = c.args.from in
    let same : drop c.min.result t ≡ drop from t = ap (λ n. drop n t) c.min.ensures ∙ drop_min from t in
    let own : IsAttributeNext t c.min.result c.in-Attribute.found = c.in-Attribute.ensures in
    let is = c.min.ensures in
    let order = own.attribute.order in
    let within = own.attribute.within in
    record {
      key = own.attribute.key;
      value = own.attribute.value;
      order = omega arith;
      within = within;
      rest = λ more closes has. subst (λ (s : List ℕ). HasRest s ((part_in t c.in-Attribute.found.key, part_in t c.in-Attribute.found.value) ∷ more) closes) same (own.attribute.rest more closes has);
    }

pub returns-in-End : goal.returns-in-End
returns-in-End c = λ tag.
    let t : List ℕ = c.args.text.now in
    let at : ℕ = c.in-End.at in
    let own = c.in-End.ensures in
    subst (IsTail tag (drop c.args.from t) []) (sym c.is_at.ensures)
    (tail-is tag (drop c.args.from t) (drop at t) []
    (ap (tail_tokens tag) (sym (ap (λ n. drop n t) c.min.ensures ∙ drop_min c.args.from t)) ∙ own.tokens tag)
    own.no_key own.no_blank)
