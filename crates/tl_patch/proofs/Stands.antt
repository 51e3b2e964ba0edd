-- A start tag by itself, read alone: its token, and the state that follows it.
use Rattle.std.proofs.Common.{◌≡◌, ℕ, zero, suc, ◌≤◌, ◌+◌, ◌||◌, Bool, true, false, List, [], ◌∷◌, ◌++◌, length, take, drop, get_or, refl, ap, ap₂, sym, ◌∙◌, inl, inr, arith, true≢false, if◌then◌else◌}
use Rattle.std.specs.Char.{is_ascii_alphabetic}
use Rattle.std.proofs.lemmas.Bool.{and_parts, cases_Bool, cases_lt, eqb-true}
use Rattle.std.proofs.lemmas.List.{drop_all, drop_more, take-append-drop}
use Rattle.tl_html_spec.specs.HtmlTokenizer.{EndTag, HtmlAttribute, HtmlToken, OpenTag, StartTag, after_start, data_state, emitting_token, ends_name}
use Rattle.tl_html_spec.specs.Reader.{Reader, after, at, emitted, feed}
use Rattle.tl_html_spec.proofs.Fold.{after_append, emitted_append}
use Rattle.tl_html_tokens.specs.Kinds.{IsStartTag}
use Rattle.tl_html_tokens.specs.Whole.{IsWhole}
use Rattle.tl_html_tokens.specs.declared.mode.Mode.TheVariants as mode
use Rattle.tl_patch.specs.Places.{begins_start_tag, has_name_end}
use Rattle.tl_patch_spec.specs.TagNames.{IsInName, IsNameEnd}
use Rattle.tl_patch.proofs.Names.{name_goes_on, start_name_begins}
use Rattle.tl_patch_spec.proofs.Inside.{Outcome, after_value, ended, inner_text, with_all}
use Rattle.tl_patch_spec.proofs.Sets.{kind_kept, name_kept}
use Rattle.tl_patch_spec.proofs.Tags.{emits_of, reader_of, tag_text_after, tag_text_emits}
use Rattle.tl_patch.proofs.Begins.{begins}
use Rattle.tl_patch.proofs.Ended.{reader_in, returns_none}
use Rattle.tl_patch.proofs.Starts.{Ends, IsStart, named_after, named_emits, start_is}

-- where the name ends

pub record NameEnd (tag : List ℕ) : Type 0 where
  pub place : ℕ
  pub is : IsNameEnd false place tag

end_found : (fuel n : ℕ) (tag : List ℕ) → length tag ≤ n + fuel → IsInName false n tag → has_name_end (drop n tag) ≡ true → NameEnd tag
end_found zero n tag l h e = absurd (true≢false (sym e ∙ ap has_name_end (drop_all n tag (omega arith))))
end_found (suc fuel) n tag l h e = elim (cases_lt n (length tag)) [
  | inr m ↦ absurd (true≢false (sym e ∙ ap has_name_end (drop_all n tag m)))
  | inl m ↦ (
      let b : ℕ = get_or tag n 0 in
      let parts : drop n tag ≡ b ∷ drop (n + 1) tag = drop_more tag n 0 m in
      elim (cases_Bool (ends_name (feed b))) [
        | inl y ↦ record { place = n; is = record { in_name = h; within = m; ends = y } }
        | inr k ↦ end_found fuel (n + 1) tag (omega arith) (name_goes_on tag n m k false h)
            (sym (ap (λ (v : Bool). v || has_name_end (drop (n + 1) tag)) k) ∙ sym (ap has_name_end parts) ∙ e)
      ])
]

pub name_end : (tag : List ℕ) → begins_start_tag tag ≡ true → NameEnd tag
name_end [] h = absurd (true≢false (sym h))
name_end (a ∷ []) h = absurd (true≢false (sym h))
name_end (a ∷ b ∷ text) h =
    let p = and_parts _ _ h in
    let q = and_parts (is_ascii_alphabetic b) (has_name_end text) p.1 in
    end_found (length text) 2 (a ∷ b ∷ text) (omega arith) (start_name_begins (a ∷ b ∷ text) (omega arith) (eqb-true a 60 p.0) q.0) q.1

-- the token and the state

pub record Stands (bytes : List ℕ) (ts : List HtmlToken) : Type 0 where
  pub name : List ℕ
  pub attributes : List HtmlAttribute
  pub closes : Bool
  pub is : ts ≡ StartTag name attributes closes ∷ []
  pub tokens : emitted (at data_state) bytes ≡ ts
  pub state : after (at data_state) bytes ≡ at (after_start name)

kind_emits : (is_end closes : Bool) (name : List ℕ) (xs : List HtmlAttribute) → is_end ≡ false →
    (if is_end then emitting_token (EndTag name) data_state else emitting_token (StartTag name xs closes) (after_start name)).emits ++ [] ≡ StartTag name xs closes ∷ []
kind_emits true closes name xs e = absurd (true≢false e)
kind_emits false closes name xs e = refl

kind_next : (is_end closes : Bool) (name : List ℕ) (xs : List HtmlAttribute) → is_end ≡ false →
    (if is_end then emitting_token (EndTag name) data_state else emitting_token (StartTag name xs closes) (after_start name)).next ≡ after_start name
kind_next true closes name xs e = absurd (true≢false e)
kind_next false closes name xs e = refl

stands_at : (tag : List ℕ) (ts : List HtmlToken) (n : ℕ) → IsNameEnd false n tag → IsWhole mode.Data tag ts → IsStartTag ts → Stands tag ts
stands_at tag ts n p w s =
    let t : OpenTag = (p.in_name).0 in
    let is : IsStart tag n t ts = start_is tag ts n p w s in
    let e : Ends (drop n tag) t ts = is.ends in
    let u : OpenTag = with_all t e.more in
    let start : u.is_end ≡ false = kind_kept t e.more ∙ (p.in_name).4 in
    let b : ℕ = get_or tag n 0 in
    let back : drop n tag ≡ b ∷ drop (n + 1) tag = drop_more tag n 0 p.within in
    let parts : tag ≡ take n tag ++ (b ∷ drop (n + 1) tag) = sym (take-append-drop n tag) ∙ ap (λ xs. take n tag ++ xs) back in
    let o : Outcome = ended e.closes e.more e.returned [] in
    let outcome : inner_text after_value false (b ∷ drop (n + 1) tag) ≡ o = ap (inner_text after_value false) (sym back) ∙ e.outcome in
    let none : e.returned ≡ false = returns_none (drop n tag) after_value false e.closes e.returned e.more e.outcome in
    record {
      name = t.name;
      attributes = u.attributes;
      closes = e.closes;
      is = e.is;
      tokens =
          ap (emitted (at data_state)) parts
          ∙ emitted_append (at data_state) (take n tag) (b ∷ drop (n + 1) tag)
          ∙ ap₂ (λ (us : List HtmlToken) (r : Reader). us ++ emitted r (b ∷ drop (n + 1) tag)) (is.named).silent (is.named).state
          ∙ named_emits t b (drop (n + 1) tag) p.ends
          ∙ tag_text_emits after_value t (b ∷ drop (n + 1) tag)
          ∙ ap (emits_of t) outcome
          ∙ kind_emits u.is_end e.closes u.name u.attributes start
          ∙ ap (λ m. StartTag m u.attributes e.closes ∷ []) (name_kept t e.more)
          ∙ sym e.is;
      state =
          ap (after (at data_state)) parts
          ∙ after_append (at data_state) (take n tag) (b ∷ drop (n + 1) tag)
          ∙ ap (λ (r : Reader). after r (b ∷ drop (n + 1) tag)) (is.named).state
          ∙ named_after t b (drop (n + 1) tag) p.ends
          ∙ tag_text_after after_value t (b ∷ drop (n + 1) tag)
          ∙ ap (reader_of t) outcome
          ∙ ap₂ reader_in (kind_next u.is_end e.closes u.name u.attributes start ∙ ap after_start (name_kept t e.more)) none;
    }

pub stands : (tag : List ℕ) (ts : List HtmlToken) → IsWhole mode.Data tag ts → IsStartTag ts → Stands tag ts
stands tag ts w s = let n = name_end tag (begins tag ts w s) in stands_at tag ts n.place n.is w s
