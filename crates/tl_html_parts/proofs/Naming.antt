-- The name of a tag that begins at a place of a page.
use Rattle.std.proofs.Common.{◌≡◌, ◌≤◌, ◌<◌, ◌+◌, ◌-◌, ◌==◌, ◌∙◌, ◌∷◌, ◌++◌, ℕ, Bool, true, false, not, List, [], length, length-drop, take, drop, get_or, refl, ap, sym, subst, arith, inl, inr, true≢false}
use Rattle.std.specs.Char.{is_ascii_alphabetic}
use Rattle.std.specs.List.{list_all}
use Rattle.std.proofs.lemmas.Bool.{and_parts, cases_Bool, eqb-true}
use Rattle.std.proofs.lemmas.List.{drop_more}
use Rattle.tl_spec.specs.Lex.Grammar.{IsRun, Stops}
use Rattle.tl_html_spec.specs.HtmlTokenizer.{data_state, new_tag, tag_name}
use Rattle.tl_html_spec.specs.Reader.{at, tokens_of}
use Rattle.tl_html_tokens.specs.Inner.InTag.{IsInTag}
use Rattle.tl_html_tokens.proofs.InTag.{end_tag_named, start_tag_named}
use Rattle.tl_html_tokens.proofs.TagTokens.{end_begins, start_begins}
use Rattle.tl_html_parts.specs.Bytes.{is_name_byte}
use Rattle.tl_html_parts.specs.Inner.Tail.{begins_with}
use Rattle.tl_html_parts.proofs.Splits.{front_is}
use Rattle.tl_html_parts.proofs.Tags.{letter_name}

-- a run of a name that begins with a letter has it
has_letter : (t : List ℕ) (first end : ℕ) → first < length t → first ≤ end → is_ascii_alphabetic (get_or t first 0) ≡ true → IsRun is_name_byte (drop first t) (take (end - first) (drop first t)) (drop end t) → first + 1 ≤ end
has_letter t first end l order letter run = elim (cases_Bool (end == first)) [
  | inl y ↦ (
      let same = eqb-true end first y in
      let stops : is_name_byte (get_or t first 0) ≡ false = subst (Stops is_name_byte) (ap (λ k. drop k t) same ∙ drop_more t first 0 l) run.stops in
      absurd (true≢false (sym (letter_name (get_or t first 0) letter) ∙ stops)))
  | inr n ↦ grind (arith, n, order)
]

-- the bytes after the letter
after_letter : (t : List ℕ) (first end : ℕ) → first < length t → first + 1 ≤ end → IsRun is_name_byte (drop first t) (take (end - first) (drop first t)) (drop end t) →
    list_all is_name_byte (take (end - (first + 1)) (drop (first + 1) t)) ≡ true
after_letter t first end l order run =
    let many : end - first ≡ Rattle.std.proofs.Common.suc (end - (first + 1)) = omega arith in
    (and_parts (is_name_byte (get_or t first 0)) _
    (sym (ap (λ s. list_all is_name_byte (take (end - first) s)) (drop_more t first 0 l) ∙ ap (λ k. list_all is_name_byte (take k (get_or t first 0 ∷ drop (first + 1) t))) many) ∙ run.inside)).1

stop_at : (t : List ℕ) (end : ℕ) → Stops is_name_byte (drop end t) → end < length t → is_name_byte (get_or t end 0) ≡ false
stop_at t end h l = subst (Stops is_name_byte) (drop_more t end 0 l) h

module _ (t : List ℕ) (start end : ℕ) (less : begins_with 60 (drop start t) ≡ true) where
  start_byte : get_or t start 0 ≡ 60
  start_byte =
      let whole = front_is 60 t start less in
      let some : length (drop start t) ≡ Rattle.std.proofs.Common.suc (length (drop (start + 1) t)) = ap (λ s. length s) whole in
      let left = length-drop start t in
      ap (λ (s : List ℕ). get_or s 0 0) (sym (drop_more t start 0 (omega arith)) ∙ whole)

  pub start_in : start + 1 < length t → start + 1 ≤ end → end ≤ length t → is_ascii_alphabetic (get_or t (start + 1) 0) ≡ true → IsRun is_name_byte (drop (start + 1) t) (take (end - (start + 1)) (drop (start + 1) t)) (drop end t) → IsInTag t start end false
  start_in l order within letter run =
      let more : start + 1 + 1 ≤ end = has_letter t (start + 1) end l order letter run in
      let sum : start + 1 + 1 + (end - (start + 1 + 1)) ≡ end = omega (arith, more) in
      subst (λ k. IsInTag t start k false) sum
      (start_tag_named t start (end - (start + 1 + 1)) start_byte letter (omega (arith, sum, within)) (after_letter t (start + 1) end l more run)
      (λ k. subst (λ p. is_name_byte (get_or t p 0) ≡ false) (sym sum) (stop_at t end run.stops (omega (arith, sum, k)))))

  pub start_told : start + 1 < length t → is_ascii_alphabetic (get_or t (start + 1) 0) ≡ true → tokens_of (at data_state) (drop start t) ≡ tokens_of (at (tag_name (new_tag false))) (drop (start + 1) t)
  start_told l letter =
      let split = drop_more t (start + 1) 0 l in
      ap (tokens_of (at data_state)) (front_is 60 t start less ∙ ap (λ s. 60 ∷ s) split)
      ∙ start_begins (get_or t (start + 1) 0) (drop (start + 1 + 1) t) letter
      ∙ ap (tokens_of (at (tag_name (new_tag false)))) (sym split)

  module _ (slash : begins_with 47 (drop (start + 1) t) ≡ true) where
    slash_byte : get_or t (start + 1) 0 ≡ 47
    slash_byte =
        let whole = front_is 47 t (start + 1) slash in
        let some : length (drop (start + 1) t) ≡ Rattle.std.proofs.Common.suc (length (drop (start + 1 + 1) t)) = ap (λ s. length s) whole in
        let left = length-drop (start + 1) t in
        ap (λ (s : List ℕ). get_or s 0 0) (sym (drop_more t (start + 1) 0 (omega arith)) ∙ whole)

    pub end_in : start + 2 < length t → start + 2 ≤ end → end ≤ length t → is_ascii_alphabetic (get_or t (start + 2) 0) ≡ true → IsRun is_name_byte (drop (start + 2) t) (take (end - (start + 2)) (drop (start + 2) t)) (drop end t) → IsInTag t start end true
    end_in l order within letter run =
        let two : start + 1 + 1 ≡ start + 2 = omega arith in
        let three : start + 2 + 1 ≡ start + 1 + 2 = omega arith in
        let more : start + 2 + 1 ≤ end = has_letter t (start + 2) end l order letter run in
        let sum : start + 1 + 2 + (end - (start + 1 + 2)) ≡ end = omega (arith, more) in
        subst (λ k. IsInTag t start k true) sum
        (end_tag_named t start (end - (start + 1 + 2)) start_byte slash_byte (ap (λ k. is_ascii_alphabetic (get_or t k 0)) two ∙ letter) (omega (arith, sum, within))
        (subst (λ k. list_all is_name_byte (take (end - k) (drop k t)) ≡ true) three (after_letter t (start + 2) end l more run))
        (λ k. subst (λ p. is_name_byte (get_or t p 0) ≡ false) (sym sum) (stop_at t end run.stops (omega (arith, sum, k)))))

    pub end_told : start + 2 < length t → is_ascii_alphabetic (get_or t (start + 2) 0) ≡ true → tokens_of (at data_state) (drop start t) ≡ tokens_of (at (tag_name (new_tag true))) (drop (start + 2) t)
    end_told l letter =
        let two : start + 1 + 1 ≡ start + 2 = omega arith in
        let split = drop_more t (start + 2) 0 l in
        let next : start + 2 + 1 ≡ start + 3 = omega arith in
        ap (tokens_of (at data_state)) (front_is 60 t start less ∙ ap (λ s. 60 ∷ s) (front_is 47 t (start + 1) slash ∙ ap (λ s. 47 ∷ s) (ap (λ k. drop k t) two ∙ split)))
        ∙ end_begins (get_or t (start + 2) 0) (drop (start + 2 + 1) t) letter
        ∙ ap (tokens_of (at (tag_name (new_tag true)))) (sym split)
