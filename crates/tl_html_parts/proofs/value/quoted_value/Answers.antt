use Rattle.std.proofs.Common.{◌≡◌, ◌∙◌, ◌+◌, ◌-◌, ◌≤◌, ◌<◌, ◌∷◌, ℕ, List, true, ap, arith, drop, drop-drop, get_or, inl, inr, length, length-drop, subst, suc, sym, take, refl}
use Rattle.std.proofs.lemmas.Bool.{eqb-true, not-false}
use Rattle.tl_spec.specs.Lex.Grammar.{Stops}
use Rattle.tl_spec.proofs.Lex.Bytes.{all-run, drop_while-stops}
use Rattle.std.proofs.lemmas.List.{drop_more, take_rest}
use Rattle.std.specs.List.{list_all, prefix_len}
use Rattle.tl_html_parts.specs.Bytes.{is_kept_in_value}
use Rattle.tl_html_parts.specs.Parts.{value_of}
use Rattle.tl_html_parts.specs.Places.{IsPart}
use Rattle.tl_html_parts.specs.Inner.Tail.{is_other}
use Rattle.tl_html_parts.specs.declared.place.PartPlace.{PartPlace}
use Rattle.tl_html_parts.proofs.Kept.{value-kept}
use Rattle.tl_html_parts.proofs.value.quoted_value.Goals as goal

part : (t : List ℕ) (from len : ℕ) (p : PartPlace) → p.start ≡ from → p.end ≡ from + len → from ≤ length t → len ≤ length (take (length t - from) (drop from t)) →
    (p.is_plain ≡ true → list_all is_kept_in_value (take len (take (length t - from) (drop from t))) ≡ true) → IsPart value_of t p
part t from len p start end inside within plain =
    let fits : len ≤ length (drop from t) = subst (λ (s : List ℕ). len ≤ length s) (take_rest t from) within in
    let left = length-drop from t in
    let many : p.end - p.start ≡ len = omega arith in
    let own : take (p.end - p.start) (drop p.start t) ≡ take len (take (length t - from) (drop from t)) =
    ap (λ n. take n (drop p.start t)) many ∙ ap (λ n. take len (drop n t)) start ∙ ap (take len) (sym (take_rest t from)) in
    record {
      order = omega arith;
      within = omega arith;
      plain = λ kept. ap value_of own ∙ value-kept (take len (take (length t - from) (drop from t))) (plain kept) ∙ sym own;
    }

pub returns-then-end-text-clause-part : goal.returns-then-end-text-clause-part
returns-then-end-text-clause-part c =
    part c.args.text.now c.args.from c.quoted-found.result.len _ refl refl c.requires c.quoted-found.ensures.within c.quoted-found.ensures.plain

pub returns-clause-part : goal.returns-clause-part
returns-clause-part c =
    part c.args.text.now c.args.from c.quoted-found.result.len _ refl refl c.requires c.quoted-found.ensures.within c.quoted-found.ensures.plain

pub returns-clause-rest : goal.returns-clause-rest
returns-clause-rest c =
    let t : List ℕ = c.args.text.now in
    let from : ℕ = c.args.from in
    let len : ℕ = c.quoted-found.result.len in
    let run : len ≡ prefix_len (is_other c.args.quote) (drop from t) = c.quoted-found.ensures.run ∙ ap (prefix_len (is_other c.args.quote)) (take_rest t from) in
    let end : from + len + 1 ≡ from + suc len = omega arith in
    ap (λ n. drop n t) end ∙ sym (drop-drop (suc len) from t) ∙ ap (λ n. drop (suc n) (drop from t)) run

-- up to where the run ends
run_is : (quote : ℕ) (t : List ℕ) (from len : ℕ) → from ≤ length t → len ≡ prefix_len (is_other quote) (drop from t) →
    list_all (is_other quote) (take (from + len - from) (drop from t)) ≡ true
run_is quote t from len l e =
    let many : from + len - from ≡ len = omega arith in
    ap (λ n. list_all (is_other quote) (take n (drop from t))) (many ∙ e) ∙ all-run (is_other quote) (drop from t)

quote_is : (quote : ℕ) (t : List ℕ) (from len : ℕ) → from + len < length t → len ≡ prefix_len (is_other quote) (drop from t) → get_or t (from + len) 0 ≡ quote
quote_is quote t from len l e =
    let stops : Stops (is_other quote) (drop len (drop from t)) = subst (λ n. Stops (is_other quote) (drop n (drop from t))) (sym e) (drop_while-stops (is_other quote) (drop from t)) in
    let there : Stops (is_other quote) (get_or t (from + len) 0 ∷ drop (from + len + 1) t) = subst (Stops (is_other quote)) (drop-drop len from t ∙ drop_more t (from + len) 0 l) stops in
    eqb-true (get_or t (from + len) 0) quote (not-false _ there)

pub returns-then-end-text-clause-ends : goal.returns-then-end-text-clause-ends
returns-then-end-text-clause-ends c =
    let t : List ℕ = c.args.text.now in
    let from : ℕ = c.args.from in
    let run = c.quoted-found.ensures.run ∙ ap (prefix_len (is_other c.args.quote)) (take_rest t from) in
    record {
      order = omega arith;
      inside = run_is c.args.quote t from c.quoted-found.result.len c.requires run;
      ends = inr (c.if-end-text.true, refl);
    }

pub returns-clause-ends : goal.returns-clause-ends
returns-clause-ends c =
    let t : List ℕ = c.args.text.now in
    let from : ℕ = c.args.from in
    let len : ℕ = c.quoted-found.result.len in
    let run = c.quoted-found.ensures.run ∙ ap (prefix_len (is_other c.args.quote)) (take_rest t from) in
    let fits : len ≤ length (drop from t) = subst (λ (s : List ℕ). len ≤ length s) (take_rest t from) c.quoted-found.ensures.within in
    let left = length-drop from t in
    let other = c.if-end-text.false in
    let inside : from + len < length t = omega arith in
    record {
      order = omega arith;
      inside = run_is c.args.quote t from len c.requires run;
      ends = inl (inside, quote_is c.args.quote t from len inside run, refl);
    }
