-- Parts of a tag that ends in a page are those of the page.
use Rattle.std.proofs.Common.{◌≡◌, ◌≤◌, ◌+◌, ◌-◌, ◌∷◌, ◌∙◌, ℕ, List, [], ap, ap₂, arith, drop, length-take, refl, subst, sym, take}
use Rattle.std.proofs.lemmas.List.{drop-take, take-take}
use Rattle.std.proofs.lemmas.List.Elements.{All-head, All-tail, All-weaker}
use Rattle.tl_html_spec.specs.HtmlTokenizer.{HtmlToken}
use Rattle.tl_html_tokens.specs.Whole.{IsWhole}
use Rattle.tl_html_tokens.specs.declared.mode.Mode.{Mode}
use Rattle.tl_html_parts.specs.Parts.{name_of, value_of}
use Rattle.tl_html_parts.specs.Places.{AreParts, IsPart, pairs_in, part_in}
use Rattle.tl_html_parts.specs.declared.place.AttributePlace.{AttributePlace}
use Rattle.tl_html_parts.specs.declared.place.PartPlace.{PartPlace}

pub piece-from : (page : List ℕ) (start end : ℕ) → start ≤ end → drop start (take end page) ≡ take (end - start) (drop start page)
piece-from page start end order =
    let all : end ≡ start + (end - start) = omega arith in
    ap (λ n. drop start (take n page)) all ∙ drop-take start (end - start) page

pub part-before : (page : List ℕ) (end : ℕ) (said : List ℕ → List ℕ) (p : PartPlace) → IsPart said (take end page) p → part_in (take end page) p ≡ part_in page p
part-before page end said p own =
    let many = length-take end page in
    let within = own.within in
    let order = own.order in
    ap (take (p.end - p.start)) (piece-from page p.start end (omega arith)) ∙ take-take (p.end - p.start) (end - p.start) (drop p.start page) (omega arith)

pub part-on : (page : List ℕ) (end : ℕ) (said : List ℕ → List ℕ) (p : PartPlace) → IsPart said (take end page) p → IsPart said page p
part-on page end said p own =
    let many = length-take end page in
    let within = own.within in
    let same = part-before page end said p own in
    record {
      order = own.order;
      within = omega arith;
      plain = λ kept. ap said (sym same) ∙ (own.plain kept ∙ same);
    }

abbrev Stands : List ℕ → AttributePlace → Type 0
Stands text a = IsPart name_of text a.key × IsPart value_of text a.value

pub parts-on : (page : List ℕ) (end : ℕ) (xs : List AttributePlace) → AreParts (take end page) xs → AreParts page xs
parts-on page end xs own =
    All-weaker (Stands (take end page)) (Stands page) (λ a h. (part-on page end name_of a.key h.0, part-on page end value_of a.value h.1)) xs own

pub pairs-before : (page : List ℕ) (end : ℕ) (xs : List AttributePlace) → AreParts (take end page) xs → pairs_in (take end page) xs ≡ pairs_in page xs
pairs-before page end [] own = refl
pairs-before page end (a ∷ xs) own =
    let h = All-head (Stands (take end page)) a xs own in
    ap₂ (λ p ps. p ∷ ps) (ap₂ (λ k v. (k, v)) (part-before page end name_of a.key h.0) (part-before page end value_of a.value h.1)) (pairs-before page end xs (All-tail (Stands (take end page)) a xs own))

pub whole-from : (page : List ℕ) (start end : ℕ) (mode : Mode) (tokens : List HtmlToken) → start ≤ end → IsWhole mode (take (end - start) (drop start page)) tokens → IsWhole mode (drop start (take end page)) tokens
whole-from page start end mode tokens order whole = subst (λ (bytes : List ℕ). IsWhole mode bytes tokens) (sym (piece-from page start end order)) whole
