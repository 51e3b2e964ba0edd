-- Bytes that are pages.
use Rattle.std.proofs.Common.{◌≡◌, ℕ, Bool, true, false, List, length, refl, ap, if◌then◌else◌}
use Rattle.std.specs.Prelude.{◌&&◌, nat_le}
use Rattle.std.proofs.lemmas.Bool.{le-leb, leb-true}
use Rattle.std.proofs.lemmas.Str.{IsUtf8-from_is_utf8, is_utf8-from_IsUtf8}
use Rattle.std.specs.Str.{is_utf8}
use Rattle.tl_spec.specs.Lex.ByteClass.{largest_u32}
use Rattle.tl_spec.specs.Tree.Document.{Document, document}
use Rattle.tl_page.specs.Outcome.{Fails, Outcome, not_understood, success}
use Rattle.tl_page.specs.Page.{IsPage, document_in, is_page, outcome_in}
use Rattle.tl_page.specs.declared.failure.Failure.{Failure}
use Rattle.tl_page.specs.declared.failure.Failure.TheVariants.{Refused, NotUnderstood, OutOfMemory, Fault}
use Rattle.tl_page.proofs.Outcomes.{fails_success}

module _ (page : List ℕ) where
  both : (a b : Bool) → a ≡ true → b ≡ true → (a && b) ≡ true
  both true true e f = refl
  both true false e f = absurd (cc)
  both false b e f = absurd (cc)

  never : (a b : Bool) → (a && b) ≡ true → (a ≡ true) × (b ≡ true)
  never true true e = (refl, refl)
  never true false e = absurd (cc)
  never false b e = absurd (cc)

  -- the test says what a page is
  pub is_page-true : IsPage page → is_page page ≡ true
  is_page-true p = both (is_utf8 page) (nat_le (length page) largest_u32) (is_utf8-from_IsUtf8 page p.0) (le-leb (length page) largest_u32 p.1)

  pub is_page-IsPage : is_page page ≡ true → IsPage page
  is_page-IsPage e =
      let h = never (is_utf8 page) (nat_le (length page) largest_u32) e in
      (IsUtf8-from_is_utf8 page h.0, leb-true (length page) largest_u32 h.1)

  module _ {X : Type 0} (make : Document → Outcome X) where
    cases : (b : Bool) → (is_page page ≡ b) → (b ≡ true → ⊥) → outcome_in make page ≡ not_understood
    cases true e lacks = absurd (lacks refl)
    cases false e lacks = ap (λ b. if b then make (document page) else not_understood) e

    -- what is made of a page, and of what is none
    pub outcome-page : IsPage page → outcome_in make page ≡ make (document page)
    outcome-page p = ap (λ b. if b then make (document page) else not_understood) (is_page-true p)

    pub outcome-no_page : (IsPage page → ⊥) → outcome_in make page ≡ not_understood
    outcome-no_page lacks = cases (is_page page) refl (λ e. lacks (is_page-IsPage e))

    read_cases : (b : Bool) (d : Document) → (if b then success (document page) else not_understood) ≡ success d
        → (if b then make (document page) else not_understood) ≡ make d
    read_cases true d e = let is : document page ≡ d = cc in ap make is
    read_cases false d e = absurd (cc)

    none_cases : (failure : Failure) → Fails {X = Document} not_understood failure → Fails {X = X} not_understood failure
    none_cases Refused fails = absurd (cc)
    none_cases NotUnderstood fails = refl
    none_cases OutOfMemory fails = tt
    none_cases Fault fails = absurd fails

    unread_cases : (b : Bool) (failure : Failure) → Fails (if b then success (document page) else not_understood) failure
        → Fails (if b then make (document page) else not_understood) failure
    unread_cases true failure fails = fails_success (document page) (make (document page)) failure fails
    unread_cases false failure fails = none_cases failure fails

    -- what is made of the document that was read of a page, and of one that was not read
    pub outcome-read : (d : Document) → document_in page ≡ success d → outcome_in make page ≡ make d
    outcome-read d e = read_cases (is_page page) d e

    pub outcome-unread : (failure : Failure) → Fails (document_in page) failure → Fails (outcome_in make page) failure
    outcome-unread failure fails = unread_cases (is_page page) failure fails

pub ruleset pages = (outcome-read, outcome-unread)
