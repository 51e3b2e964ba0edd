-- Steps of loops that push marks, and of those over columns.
use Rattle.std.proofs.Common.{◌≡◌, ◌<◌, ◌≤◌, ◌↔◌, ◌+◌, ◌||◌, ℕ, Bool, true, false, List, [], ◌∷◌, ◌++◌, length, take, sym, ap, ◌∙◌, arith, inl, inr, subst, get_or}
use Rattle.std.proofs.lemmas.Bool.{cases_lt, or_cases, or_left, or_right}
use Rattle.std.proofs.lemmas.List.{get_or_append_left, get_or_push, take_more, take_all}
use Rattle.tl_tree_select.specs.Page.{Page}
use Rattle.tl_css.specs.declared.selector.Step.{Step}
use Rattle.tl_css.specs.Selector.{Css, Either}
use Rattle.tl_css.specs.Program.{after_step, waiting_after}
use Rattle.tl_css.proofs.Waiting.{waiting_none, waiting_more}
use Rattle.tl_tree_select.specs.Inner.Columns.{AreColumns, AreMarks}
use Rattle.tl_tree_select.specs.Inner.Links.{is_at}
use Rattle.tl_tree_select.proofs.Marks.{marks_within}

-- one mark more
pub one_mark : (P : ℕ → Type 0) (xs : List Bool) (x : Bool) (number : ℕ) → length xs ≡ number → ((i : ℕ) → i < number → (is_at xs i ≡ true) ↔ P i) → ((x ≡ true) ↔ P number)
    → (i : ℕ) → i < number + 1 → (is_at (xs ++ x ∷ []) i ≡ true) ↔ P i
one_mark P xs x number len each new i w = elim (cases_lt i number) [
  | inl lt ↦
      (let same = get_or_append_left xs (x ∷ []) false i (omega (arith, lt, len)) in
      (λ mark. (each i lt).0 (sym same ∙ mark), λ p. same ∙ (each i lt).1 p))
  | inr ge ↦
      (let here : i ≡ number = omega (arith, w, ge) in
      let at = get_or_push xs x false i (len ∙ sym here) in
      (λ mark. subst P (sym here) (new.0 (sym at ∙ mark)), λ p. at ∙ new.1 (subst P here p)))
]

pub columns_none : (page : Page) (columns : List (List Bool)) → columns ≡ [] → AreColumns page (waiting_after []) columns
columns_none page columns e =
    subst (λ (es : List Css). AreColumns page es columns) (sym waiting_none) (subst (λ (columns : List (List Bool)). AreColumns page [] columns) (sym e) tt)

pub columns_next : (page : Page) (steps : List Step) (i : ℕ) (step : Step) (columns : List (List Bool)) → i < length steps → step ≡ get_or steps i step
    → AreColumns page (after_step step (waiting_after (take i steps))) columns → AreColumns page (waiting_after (take (i + 1) steps)) columns
columns_next page steps i step columns w is h =
    let more : take (i + 1) steps ≡ take i steps ++ step ∷ [] = take_more steps i step w ∙ ap (λ (s : Step). take i steps ++ s ∷ []) (sym is) in
    subst (λ (es : List Css). AreColumns page es columns) (sym (ap waiting_after more ∙ waiting_more (take i steps) step)) h

pub columns_end : (page : Page) (steps : List Step) (i : ℕ) (columns : List (List Bool)) → length steps ≤ i
    → AreColumns page (waiting_after (take i steps)) columns → AreColumns page (waiting_after steps) columns
columns_end page steps i columns past h = subst (λ (ps : List Step). AreColumns page (waiting_after ps) columns) (take_all i steps past) h

pub marks_united : (page : Page) (a b : Css) (marks others found : List Bool) → AreMarks page a marks → AreMarks page b others → length found ≡ length marks
    → ((n : ℕ) → n < length marks → is_at found n ≡ (is_at marks n || is_at others n)) → AreMarks page (Either a b) found
marks_united page a b marks others found p q len each = marks_within page (Either a b) found (len ∙ p.len) (λ n w.
    let at = each n (let same = p.len in omega (arith, same, w)) in (
      λ mark. elim (or_cases (is_at marks n) (is_at others n) (sym at ∙ mark)) [
        | inl k ↦ inl ((p.each n).0 k)
        | inr k ↦ inr ((q.each n).0 k)
      ],
      λ h. at ∙ elim h as (λ _. (is_at marks n || is_at others n) ≡ true) [
        | inl k ↦ or_left (is_at marks n) (is_at others n) ((p.each n).1 k)
        | inr k ↦ or_right (is_at marks n) (is_at others n) ((q.each n).1 k)
      ],
    ))
