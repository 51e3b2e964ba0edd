use Rattle.std.proofs.Common.{◌≡◌, ◌<◌, ◌+◌, ◌==◌, ◌||◌, ◌∙◌, ◌∷◌, ℕ, Bool, true, false, List, length, length-drop, drop, get_or, ap, sym, subst, arith, inl, inr, true≢false, refl}
use Rattle.std.proofs.lemmas.Bool.{cond_both, eqb-true, false_from_ne_true, not-false, or_cases, or_parts}
use Rattle.std.proofs.lemmas.List.{drop_more}
use Rattle.tl_html_spec.specs.HtmlTokenizer.{is_white_space}
use Rattle.tl_html_spec.specs.Reader.{feed}
use Rattle.tl_html_tokens.specs.Driving.{is_start}
use Rattle.tl_html_tokens.specs.Inner.InTag.{IsInTag}
use Rattle.tl_html_tokens.specs.Inner.Machine as M
use Rattle.tl_html_tokens.specs.declared.mode.Mode.{Mode}
use Rattle.tl_html_tokens.specs.declared.mode.Mode.TheVariants as mode
use Rattle.tl_html_tokens.specs.declared.stage.TokenKind.TheVariants as kind
use Rattle.tl_html_tokens.proofs.InTag.{solidus_on, tag_ends, tag_is_cut}
use Rattle.tl_html_parts.specs.Bytes.{is_space}
use Rattle.tl_html_parts.specs.Fronts.{IsMarkupFront, IsTagKind}
use Rattle.tl_html_parts.specs.Inner.Tail.{begins_blank, begins_key, begins_with}
use Rattle.tl_html_parts.proofs.Splits.{begins_some}
use Rattle.tl_html_parts.proofs.tag_front.end_at.Goals as goal
use Rattle.tl_html_parts.proofs.tag_front.end_at.Goals.{else-is_end, then-is_end}

plain : (e : Bool) (m : Mode) → (e ≡ true → m ≡ mode.Data) → is_start (M.tag_kind e) ≡ false → m ≡ mode.Data
plain true m h k = h refl
plain false m h k = absurd (true≢false k)

of_tag : (e : Bool) → IsTagKind (M.tag_kind e)
of_tag true = tt
of_tag false = tt

ended : (t : List ℕ) (start at : ℕ) (e : Bool) → at < length t → get_or t at 0 ≡ 62 → IsInTag t start at e → IsMarkupFront t start (M.tag_kind e) (at + 1)
ended t start at e l is h =
    let f = tag_ends t start at e h l is in
    record { mode = f.0; tag = of_tag e; plain = plain e f.0 f.1; front = f.2 }

fed_solidus : (b : ℕ) → (b == 47) ≡ false → (feed b == 47) ≡ false
fed_solidus b n = cond_both (b == 13) 10 b (λ c. (c == 47) ≡ false) (λ _. refl) (λ _. n)

fed_greater : (b : ℕ) → (feed b == 62) ≡ true → b ≡ 62
fed_greater b h = cond_both (b == 13) 10 b (λ c. (c == 62) ≡ true → b ≡ 62) (λ _ k. absurd (true≢false (sym k))) (λ _ k. eqb-true b 62 k) h

-- what is no key, no white space and no `/` is a `>`
greater : (t : List ℕ) (at : ℕ) → at < length t → begins_key (drop at t) ≡ false → begins_blank (drop at t) ≡ false → (get_or t at 0 == 47) ≡ false → get_or t at 0 ≡ 62
greater t at l key blank other =
    let b : ℕ = get_or t at 0 in
    let split = drop_more t at 0 l in
    let no_space : is_space b ≡ false = (or_parts (is_space b) _ (sym (ap begins_blank split) ∙ blank)).0 in
    elim (or_cases (is_white_space (feed b) || (feed b == 47)) (feed b == 62) (not-false _ (sym (ap begins_key split) ∙ key))) [
      | inr y ↦ fed_greater b y
      | inl x ↦ elim (or_cases (is_white_space (feed b)) (feed b == 47) x) [
        | inl y ↦ absurd (true≢false (sym y ∙ no_space))
        | inr y ↦ absurd (true≢false (sym y ∙ fed_solidus b other))
      ]
    ]

closing : (t : List ℕ) (at : ℕ) → at < length t → begins_blank (drop at t) ≡ false → get_or t at 0 ≡ 47 → begins_with 62 (drop (at + 1) t) ≡ true
closing t at l blank is =
    let split = drop_more t at 0 l in
    not-false _ (sym (ap begins_blank (split ∙ ap (λ b. b ∷ drop (at + 1) t) is)) ∙ blank)

closed : (t : List ℕ) (start at : ℕ) (e : Bool) → at < length t → begins_blank (drop at t) ≡ false → get_or t at 0 ≡ 47 → IsInTag t start at e → IsMarkupFront t start (M.tag_kind e) (at + 2)
closed t start at e l blank is h =
    let next = closing t at l blank is in
    let some = begins_some 62 (drop (at + 1) t) next in
    let left = length-drop (at + 1) t in
    let inside : at + 1 < length t = omega arith in
    let byte : get_or t (at + 1) 0 ≡ 62 = eqb-true (get_or t (at + 1) 0) 62 (sym (ap (begins_with 62) (drop_more t (at + 1) 0 inside)) ∙ next) in
    let two : at + 1 + 1 ≡ at + 2 = omega arith in
    subst (λ k. IsMarkupFront t start (M.tag_kind e) k) two (ended t start (at + 1) e inside byte (solidus_on t start at e h l is))

pub returns-then-at-page : goal.returns-then-at-page
returns-then-at-page c start h =
    let t : List ℕ = c.args.page.now in
    let last : c.args.at ≡ length t = c.if-at-page.true in
    subst (λ k. IsMarkupFront t start kind.Nothing k) (sym last)
    (record { mode = mode.Data; tag = tt; plain = λ _. refl; front = tag_is_cut t start c.args.is_end (subst (λ k. IsInTag t start k c.args.is_end) last h) })

pub returns-then-page-at-eq47 : goal.returns-then-page-at-eq47
returns-then-page-at-eq47 c start h =
    let t : List ℕ = c.args.page.now in
    let within = c.requires.within in
    let other = c.if-at-page.false in
    let kind_is : c.if-is_end.kind ≡ M.tag_kind c.args.is_end = elim c.if-is_end.branch [
      | then-is_end w ↦ w.kind-is ∙ ap M.tag_kind (sym w.if-is_end.true)
      | else-is_end w ↦ w.kind-is ∙ ap M.tag_kind (sym w.if-is_end.false)
    ] in
    subst (λ k. IsMarkupFront t start k (c.args.at + 2)) (sym kind_is)
    (closed t start c.args.at c.args.is_end (omega arith) c.requires.blank c.if-page-at-eq47.true h)

pub returns : goal.returns
returns c start h =
    let t : List ℕ = c.args.page.now in
    let within = c.requires.within in
    let other = c.if-at-page.false in
    let l : c.args.at < length t = omega arith in
    let kind_is : c.if-is_end.kind ≡ M.tag_kind c.args.is_end = elim c.if-is_end.branch [
      | then-is_end w ↦ w.kind-is ∙ ap M.tag_kind (sym w.if-is_end.true)
      | else-is_end w ↦ w.kind-is ∙ ap M.tag_kind (sym w.if-is_end.false)
    ] in
    subst (λ k. IsMarkupFront t start k (c.args.at + 1)) (sym kind_is)
    (ended t start c.args.at c.args.is_end l (greater t c.args.at l c.requires.key c.requires.blank (false_from_ne_true _ (λ y. c.if-page-at-eq47.false (eqb-true _ 47 y)))) h)
