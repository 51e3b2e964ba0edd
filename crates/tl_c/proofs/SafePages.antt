-- Pages that are made safe.
use Rattle.std.proofs.Common.{List, inl, inr, refl, true, ℕ, ◌≡◌}
use Rattle.std.proofs.lemmas.Bool.{cases_Bool}
use Rattle.tl_html_spec.specs.HtmlTokenizer.{without_mark}
use Rattle.tl_page.proofs.Pages.{is_page-IsPage, is_page-true}
use Rattle.tl_page.specs.Outcome.{Fails, not_understood, success}
use Rattle.tl_page.specs.Page.{IsPage, is_page}
use Rattle.tl_tree.specs.declared.error.ReadError.{ReadError}
use Rattle.tl_tree.specs.declared.error.ReadError.TheVariants.{OutOfMemory, OutOfProportion, TooLarge}
use Rattle.tl_tree_safe.specs.InDiv.{IsUnreadInDiv, is_in_proportion_in_div, safe_print}
use Rattle.tl_tree_safe.specs.Lists.{ListedWords}
use Rattle.tl_c.specs.SafePages.{failure_of, kept_page}

module _ (lists : ListedWords) (page : List ℕ) where
  pub kept-read : IsPage page → is_in_proportion_in_div (without_mark page) ≡ true → kept_page lists page ≡ success (safe_print lists (without_mark page))
  kept-read p fits = rw (is_page-true page p) (rw fits refl)

  pub kept-no_page : (IsPage page → ⊥) → kept_page lists page ≡ not_understood
  kept-no_page lacks = elim (cases_Bool (is_page page)) [
    | inl y ↦ absurd (lacks (is_page-IsPage page y))
    | inr n ↦ rw n refl
  ]

  pub kept-unread : IsPage page → (error : ReadError) → IsUnreadInDiv (without_mark page) error → Fails (kept_page lists page) (failure_of error)
  kept-unread p OutOfMemory why = tt
  kept-unread p TooLarge why = tt
  kept-unread p (OutOfProportion at) why = rw (is_page-true page p) (rw why.0 refl)
