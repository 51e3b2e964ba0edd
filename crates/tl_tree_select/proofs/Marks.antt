-- Marks of selectors from those of their parts.
use Rattle.std.proofs.Common.{◌≡◌, ◌<◌, ◌⊎◌, ◌↔◌, ◌&&◌, ◌||◌, ℕ, Bool, true, false, not, List, length, sym, ◌∙◌, arith, inl, inr}
use Rattle.std.proofs.lemmas.Bool.{and_parts, and_from, or_cases, or_left, or_right, cases_lt, false≢true, not-true, not_from_false, false_from_ne_true}
use Rattle.std.proofs.lemmas.List.{get_or_past}
use Rattle.tl_tree_select.specs.Page.{Page}
use Rattle.tl_css.specs.Selector.{Css, Is, Not, Both, Either, At, Nth}
use Rattle.tl_tree_select.specs.Meaning.{Holds, IsElement}
use Rattle.tl_tree_select.specs.Inner.Columns.{AreMarks}
use Rattle.tl_tree_select.specs.Inner.Kin.{is_element_at}
use Rattle.tl_tree_select.specs.Inner.Links.{is_at}
use Rattle.tl_tree_select.proofs.Siblings.{element_within, is_element_is}

-- a selector holds at elements alone
pub holds_element : (page : Page) (e : Css) (n : ℕ) → Holds page e n → IsElement page n
holds_element page (Is test) n h = h.0
holds_element page (Not e) n h = h.0
holds_element page (Both a b) n h = holds_element page a n h.0
holds_element page (Either a b) n h = elim h [ inl k ↦ holds_element page a n k | inr k ↦ holds_element page b n k ]
holds_element page (At way link reach e) n h = h.0
holds_element page (Nth way link formula e) n h = holds_element page e n h.0

pub holds_within : (page : Page) (e : Css) (n : ℕ) → Holds page e n → n < length page.rows
holds_within page e n h = element_within page n (holds_element page e n h)

-- marks that are right at each node are those of the selector
pub marks_within : (page : Page) (e : Css) (marks : List Bool) → length marks ≡ length page.rows
    → ((n : ℕ) → n < length page.rows → (is_at marks n ≡ true) ↔ Holds page e n) → AreMarks page e marks
marks_within page e marks len each = record {
  len = len;
  each = λ n. elim (cases_lt n (length page.rows)) [
    | inl w ↦ each n w
    | inr past ↦ (
      λ mark. absurd (false≢true (sym (get_or_past marks n false (omega (arith, len, past))) ∙ mark)),
      λ h. absurd (let w = holds_within page e n h in omega (arith, w, past)),
    )
  ];
}

pub marks_both : (page : Page) (a b : Css) (marks others found : List Bool) → AreMarks page a marks → AreMarks page b others → length found ≡ length marks
    → ((n : ℕ) → is_at found n ≡ (is_at marks n && is_at others n)) → AreMarks page (Both a b) found
marks_both page a b marks others found p q len each = record {
  len = len ∙ p.len;
  each = λ n. (
    λ mark. (let parts = and_parts (is_at marks n) (is_at others n) (sym (each n) ∙ mark) in ((p.each n).0 parts.0, (q.each n).0 parts.1)),
    λ h. each n ∙ and_from (is_at marks n) (is_at others n) ((p.each n).1 h.0) ((q.each n).1 h.1),
  );
}

pub marks_not : (page : Page) (e : Css) (marks found : List Bool) → AreMarks page e marks → length found ≡ length page.rows
    → ((n : ℕ) → n < length page.rows → is_at found n ≡ (is_element_at page n && not (is_at marks n))) → AreMarks page (Not e) found
marks_not page e marks found p len each = marks_within page (Not e) found len (λ n w. (
  λ mark.
      let parts = and_parts (is_element_at page n) (not (is_at marks n)) (sym (each n w) ∙ mark) in
      ((is_element_is page n).0 parts.0, λ h. false≢true (sym (not-true (is_at marks n) parts.1) ∙ (p.each n).1 h)),
  λ h. each n w ∙ and_from (is_element_at page n) (not (is_at marks n)) ((is_element_is page n).1 h.0)
      (not_from_false (is_at marks n) (false_from_ne_true (is_at marks n) (λ mark. h.1 ((p.each n).0 mark)))),
))
