use Rattle.std.proofs.Common.{ℕ, List, drop, get_or, length, length-drop, inl, inr, ◌+◌, ◌<◌, ◌≤◌, ◌==◌, ◌≡◌, ap, sym, ◌∙◌, arith}
use Rattle.std.proofs.lemmas.Bool.{cases_Bool, eqb-false, eqb-true}
use Rattle.std.proofs.lemmas.List.{get_or-drop, take_rest}
use Rattle.tl_html_tokens.proofs.Plain.{text_front}
use Rattle.tl_html_tokens.proofs.front.next_front.Goals as goal

pub returns : goal.returns
returns c =
    let page : List ℕ = c.args.page.now in
    let start : ℕ = c.args.start in
    let n : ℕ = c.plain_len.result in
    let rest : List ℕ = drop start page in
    let within : n ≤ length rest = rw take_rest at c.plain_len.ensures.within in
    let end : n < length rest → get_or rest n 0 ≡ 60 = rw take_rest at c.plain_len.ensures.end in
    let all = length-drop start page in
    let inside : start < length page = c.requires in
    let some : 0 < n = elim (cases_Bool (n == 0)) [
      | inl y ↦ (
          let none = eqb-true n 0 y in
          let here : start + 0 ≡ start = omega arith in
          absurd (c.if-page-start-eq60.false (sym (ap (λ k. get_or page k 0) here) ∙ sym (get_or-drop start page 0 0) ∙ sym (ap (λ k. get_or rest k 0) none) ∙ end (omega arith))))
      | inr y ↦ omega (arith, eqb-false n 0 y)
    ] in
    text_front page start c.args.mode n (sym c.reads_plain.ensures ∙ c.if-not-reads_plain.false) inside some within (rw take_rest at c.plain_len.ensures.plain) end
