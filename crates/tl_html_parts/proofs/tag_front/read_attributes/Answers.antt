use Rattle.std.proofs.Common.{◌≡◌, ◌∙◌, ◌++◌, ◌∷◌, Bool, List, [], ℕ, ap, append-nil, append_assoc, drop, subst, sym}
use Rattle.std.proofs.lemmas.List.{map-append}
use Rattle.std.proofs.lemmas.List.Elements.{All-nil, All-push}
use Rattle.tl_html_parts.specs.Inner.TagParts.{IsAttributeNext, IsEndAt}
use Rattle.tl_html_parts.specs.Inner.Tail.{begins_with}
use Rattle.tl_html_parts.specs.Parts.{name_of, value_of}
use Rattle.tl_html_parts.specs.Places.{AreParts, IsPart, pair_in, pairs_in}
use Rattle.tl_html_parts.specs.Rest.{HasRest}
use Rattle.tl_html_parts.specs.declared.place.AttributePlace.{AttributePlace}
use Rattle.tl_html_parts.proofs.Attributes.{tail-is}
use Rattle.tl_html_parts.proofs.tag_front.read_attributes.Goals as goal

abbrev Pairs : Type 0
Pairs = List (List ℕ × List ℕ)

abbrev Stands : List ℕ → AttributePlace → Type 0
Stands text a = IsPart name_of text a.key × IsPart value_of text a.value

pub loop-found-init : goal.loop-found-init
loop-found-init c =
    let t : List ℕ = c.args.text.now in
    let none : c.clear.new.self.items ≡ [] = c.clear.ensures.items in
    record {
      rest = λ more closes has. subst (λ (xs : List AttributePlace). HasRest (drop c.args.from t) (pairs_in t xs ++ more) closes) (sym none) has;
      parts = subst (AreParts t) (sym none) (All-nil (Stands t));
      goes_on = λ start e h. h;
      within = c.requires;
    }

pub loop-found-preserved : goal.loop-found-preserved
loop-found-preserved c =
    let t : List ℕ = c.args.text.now in
    let found = c.in-Attribute.found in
    let own : List AttributePlace = c.loop-found.attributes.items in
    let inv = c.loop-found.invariant in
    let next : IsAttributeNext t c.loop-found.at found = c.in-Attribute.ensures in
    let pushed : c.push.new.self.items ≡ own ++ found ∷ [] = c.in_ok-push-in-Attribute.ensures.items in
    let all : pairs_in t c.push.new.self.items ≡ pairs_in t own ++ pair_in t found ∷ [] = ap (pairs_in t) pushed ∙ map-append (pair_in t) own (found ∷ []) in
    record {
      rest = λ more closes has.
          subst (λ (xs : Pairs). HasRest (drop c.args.from t) xs closes)
          (sym (append_assoc (pairs_in t own) (pair_in t found ∷ []) more) ∙ ap (λ (xs : Pairs). xs ++ more) (sym all))
          (inv.rest (pair_in t found ∷ more) closes (next.attribute.rest more closes has));
      parts = subst (AreParts t) (sym pushed) (All-push (Stands t) own found inv.parts (next.attribute.key, next.attribute.value));
      goes_on = λ start e h. next.goes_on start e (inv.goes_on start e h);
      within = next.attribute.within;
    }

pub returns-in-End-clause-rest : goal.returns-in-End-clause-rest
returns-in-End-clause-rest c =
    let t : List ℕ = c.args.text.now in
    let own : Pairs = pairs_in t c.loop-found.attributes.items in
    let at : ℕ = c.in-End.place in
    let end : IsEndAt t c.loop-found.at at = c.in-End.ensures in
    let closes : Bool = begins_with 47 (drop at t) in
    let last : HasRest (drop c.loop-found.at t) [] closes = λ tag. tail-is tag (drop c.loop-found.at t) (drop at t) [] (end.tokens tag) end.no_key end.no_blank in
    subst (λ (xs : Pairs). HasRest (drop c.args.from t) xs closes) (append-nil own) (c.loop-found.invariant.rest [] closes last)
