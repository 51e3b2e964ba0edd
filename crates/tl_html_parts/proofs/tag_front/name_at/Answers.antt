use Rattle.std.proofs.Common.{◌≡◌, ◌≤◌, ◌<◌, ◌+◌, ◌-◌, ◌∙◌, ℕ, true, false, List, length, drop, get_or, take, sym, subst, arith, refl}
use Rattle.std.specs.Char.{is_ascii_alphabetic}
use Rattle.tl_spec.specs.Lex.Grammar.{IsRun}
use Rattle.tl_html_spec.specs.HtmlTokenizer.{new_tag}
use Rattle.tl_html_parts.specs.Bytes.{is_name_byte}
use Rattle.tl_html_parts.specs.Inner.Named.{IsNamed}
use Rattle.tl_html_parts.specs.Inner.Tail.{begins_with}
use Rattle.tl_html_parts.specs.Parts.{name_of}
use Rattle.tl_html_parts.specs.Places.{IsPart, part_in}
use Rattle.tl_html_parts.specs.declared.place.PartPlace.{PartPlace}
use Rattle.tl_html_parts.proofs.Kept.{name_kept}
use Rattle.tl_html_parts.proofs.Naming.{end_in, end_told, start_in, start_told}
use Rattle.tl_html_parts.proofs.Runs.{named}
use Rattle.tl_html_parts.proofs.Tags.{named_told}
use Rattle.tl_html_parts.proofs.tag_front.name_at.Goals as goal
use Rattle.tl_html_parts.proofs.tag_front.name_at.Goals.{else-is_end, then-is_end}

module _ (t : List ℕ) (start : ℕ) (p : PartPlace) (less : begins_with 60 (drop start t) ≡ true) (part : IsPart name_of t p) where
  as_start : p.start ≡ start + 1 → start + 1 < length t → is_ascii_alphabetic (get_or t (start + 1) 0) ≡ true → IsRun is_name_byte (drop (start + 1) t) (part_in t p) (drop p.end t) → IsNamed t start (record { is_end = false; name = p })
  as_start at l letter run =
      let order : p.start ≤ p.end = part.order in
      let own : IsRun is_name_byte (drop (start + 1) t) (take (p.end - (start + 1)) (drop (start + 1) t)) (drop p.end t) = subst (λ k. IsRun is_name_byte (drop (start + 1) t) (take (p.end - k) (drop k t)) (drop p.end t)) at run in
      record {
        part = part;
        in_tag = start_in t start p.end less l (omega (arith, order, at)) part.within letter own;
        tag = named (new_tag false) (part_in t p);
        ends = refl;
        name_is = refl;
        none = refl;
        told = start_told t start p.end less l letter ∙ named_told false (drop (start + 1) t) (part_in t p) (drop p.end t) run;
      }

  as_end : begins_with 47 (drop (start + 1) t) ≡ true → p.start ≡ start + 2 → start + 2 < length t → is_ascii_alphabetic (get_or t (start + 2) 0) ≡ true → IsRun is_name_byte (drop (start + 2) t) (part_in t p) (drop p.end t) → IsNamed t start (record { is_end = true; name = p })
  as_end slash at l letter run =
      let order : p.start ≤ p.end = part.order in
      let own : IsRun is_name_byte (drop (start + 2) t) (take (p.end - (start + 2)) (drop (start + 2) t)) (drop p.end t) = subst (λ k. IsRun is_name_byte (drop (start + 2) t) (take (p.end - k) (drop k t)) (drop p.end t)) at run in
      record {
        part = part;
        in_tag = end_in t start p.end less slash l (omega (arith, order, at)) part.within letter own;
        tag = named (new_tag true) (part_in t p);
        ends = refl;
        name_is = refl;
        none = refl;
        told = end_told t start p.end less slash l letter ∙ named_told true (drop (start + 2) t) (part_in t p) (drop p.end t) run;
      }

pub returns : goal.returns
returns c =
    let t : List ℕ = c.args.page.now in
    let start : ℕ = c.args.start in
    let p : PartPlace = c.word_at.result in
    let word = c.word_at.ensures in
    let order = word.order in
    let at = word.start in
    let less : begins_with 60 (drop start t) ≡ true = sym c.is_at.ensures ∙ c.if-not-is_at.false in
    let part : IsPart name_of t p = record { order = omega arith; within = word.within; plain = λ kept. name_kept (part_in t p) (word.plain kept) } in
    let letter : is_ascii_alphabetic (get_or t c.if-is_end.first 0) ≡ true = sym c.is_ascii_alphabetic.ensures.value ∙ c.if-not-is_ascii_alphabetic.false in
    let inside = c.if-first-page.false in
    elim c.if-is_end.branch [
      | then-is_end w ↦
          let e : c.is_at-is_end.result ≡ true = w.if-is_end.true in
          let first : c.if-is_end.first ≡ start + 2 = w.first-is in
          subst (λ v. IsNamed t start (record { is_end = v; name = p })) (sym e)
          (as_end t start p less part (sym c.is_at-is_end.ensures ∙ e) (at ∙ first) (omega arith)
          (subst (λ k. is_ascii_alphabetic (get_or t k 0) ≡ true) first letter)
          (subst (λ k. IsRun is_name_byte (drop k t) (part_in t p) (drop p.end t)) first word.run))
      | else-is_end w ↦
          let e : c.is_at-is_end.result ≡ false = w.if-is_end.false in
          let first : c.if-is_end.first ≡ start + 1 = w.first-is in
          subst (λ v. IsNamed t start (record { is_end = v; name = p })) (sym e)
          (as_start t start p less part (at ∙ first) (omega arith)
          (subst (λ k. is_ascii_alphabetic (get_or t k 0) ≡ true) first letter)
          (subst (λ k. IsRun is_name_byte (drop k t) (part_in t p) (drop p.end t)) first word.run))
    ]
