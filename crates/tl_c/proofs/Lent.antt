-- Lists that C lends.
use Rattle.std.proofs.Common.{◌≡◌, ℕ, Bool, true, false, List, Option, None, Some, refl, inl, inr, if◌then◌else◌}
use Rattle.std.specs.Prelude.{◌&&◌, is_none}
use Rattle.std.proofs.lemmas.Bool.{cases_Bool}
use Rattle.tl_page.specs.Page.{IsPage, is_page}
use Rattle.tl_page.proofs.Pages.{is_page-IsPage, is_page-true}
use Rattle.tl_tree_safe.specs.ListOptions.{ListOptions}
use Rattle.tl_page.specs.Outcome.{not_understood, refused}
use Rattle.tl_tree_safe.specs.Lists.{ListedWords}
use Rattle.tl_tree_safe.specs.Refusals.{Refusal, are_lawful, first_refusal}
use Rattle.tl_c.specs.LentLists.{are_texts, is_text, kept_by_lists, kept_lawful, kept_with, lent_lists, lists_over, number_of_refusal, said_options, said_text}
use Rattle.tl_c.specs.SafePages.{kept_page}
use Rattle.tl_c.specs.Policies.{lists_of_number}
use Rattle.tl_c.specs.declared.lent_lists.LentLists.{LentLists}

module _ {A : Type 0} where
  if_true : (b : Bool) (x y : A) → b ≡ true → (if b then x else y) ≡ x
  if_true true x y is = refl
  if_true false x y is = absurd (cc)

  if_false : (b : Bool) (x y : A) → b ≡ false → (if b then x else y) ≡ y
  if_false true x y is = absurd (cc)
  if_false false x y is = refl

all_true : (a b c d e f : Bool) → a ≡ true → b ≡ true → c ≡ true → d ≡ true → e ≡ true → f ≡ true → (a && b && c && d && e && f) ≡ true
all_true a b c d e f ea eb ec ed ee ef = rw ea (rw eb (rw ec (rw ed (rw ee (rw ef refl)))))

-- one of six is wrong

no_1 : (a b c d e f : Bool) → a ≡ false → (a && b && c && d && e && f) ≡ false
no_1 false b c d e f is = refl
no_1 true b c d e f is = absurd (cc)

no_2 : (a b c d e f : Bool) → b ≡ false → (a && b && c && d && e && f) ≡ false
no_2 false b c d e f is = refl
no_2 true false c d e f is = refl
no_2 true true c d e f is = absurd (cc)

no_3 : (a b c d e f : Bool) → c ≡ false → (a && b && c && d && e && f) ≡ false
no_3 false b c d e f is = refl
no_3 true false c d e f is = refl
no_3 true true false d e f is = refl
no_3 true true true d e f is = absurd (cc)

no_4 : (a b c d e f : Bool) → d ≡ false → (a && b && c && d && e && f) ≡ false
no_4 false b c d e f is = refl
no_4 true false c d e f is = refl
no_4 true true false d e f is = refl
no_4 true true true false e f is = refl
no_4 true true true true e f is = absurd (cc)

no_5 : (a b c d e f : Bool) → e ≡ false → (a && b && c && d && e && f) ≡ false
no_5 false b c d e f is = refl
no_5 true false c d e f is = refl
no_5 true true false d e f is = refl
no_5 true true true false e f is = refl
no_5 true true true true false f is = refl
no_5 true true true true true f is = absurd (cc)

no_6 : (a b c d e f : Bool) → f ≡ false → (a && b && c && d && e && f) ≡ false
no_6 false b c d e f is = refl
no_6 true false c d e f is = refl
no_6 true true false d e f is = refl
no_6 true true true false e f is = refl
no_6 true true true true false f is = refl
no_6 true true true true true false is = refl
no_6 true true true true true true is = absurd (cc)

none_cases : (refusal : Option Refusal) → is_none refusal ≡ true → number_of_refusal refusal ≡ 0
none_cases None e = refl
none_cases (Some refusal) e = absurd (cc)

-- nothing is said of lists that are a policy
pub lawful-cause : (own : ListedWords) → are_lawful own ≡ true → number_of_refusal (first_refusal own) ≡ 0
lawful-cause own e = none_cases (first_refusal own) e

module _ (own : ListedWords) (page : List ℕ) where
  -- lists that are a policy, and lists that are none
  pub lawful-kept : are_lawful own ≡ true → kept_lawful own page ≡ kept_page own page
  lawful-kept e = if_true (are_lawful own) _ _ e

  pub unlawful-kept : are_lawful own ≡ false → kept_lawful own page ≡ refused
  unlawful-kept e = if_false (are_lawful own) _ _ e

module _ (lists : LentLists) where
  abbrev t : Bool
  t = is_text (said_text lists.tags)

  abbrev k : Bool
  k = is_text (said_text lists.keys)

  abbrev l : Bool
  l = is_text (said_text lists.link_keys)

  abbrev p : Bool
  p = is_text (said_text lists.link_prefixes)

  abbrev c : Bool
  c = is_text (said_text lists.classes)

  abbrev i : Bool
  i = is_text (said_text lists.id_prefix)

  unread : are_texts (said_options lists) ≡ false → lent_lists lists ≡ not_understood
  unread e = if_false (are_texts (said_options lists)) _ _ e

  -- what is said of a list is no text
  pub unread-tags : is_text (said_text lists.tags) ≡ false → lent_lists lists ≡ not_understood
  unread-tags e = unread (no_1 t k l p c i e)

  pub unread-keys : is_text (said_text lists.keys) ≡ false → lent_lists lists ≡ not_understood
  unread-keys e = unread (no_2 t k l p c i e)

  pub unread-link_keys : is_text (said_text lists.link_keys) ≡ false → lent_lists lists ≡ not_understood
  unread-link_keys e = unread (no_3 t k l p c i e)

  pub unread-link_prefixes : is_text (said_text lists.link_prefixes) ≡ false → lent_lists lists ≡ not_understood
  unread-link_prefixes e = unread (no_4 t k l p c i e)

  pub unread-classes : is_text (said_text lists.classes) ≡ false → lent_lists lists ≡ not_understood
  unread-classes e = unread (no_5 t k l p c i e)

  pub unread-id_prefix : is_text (said_text lists.id_prefix) ≡ false → lent_lists lists ≡ not_understood
  unread-id_prefix e = unread (no_6 t k l p c i e)

  -- the same texts say the same
  pub same-options : (a b c d e f : Option (List ℕ)) → a ≡ said_text lists.tags → b ≡ said_text lists.keys → c ≡ said_text lists.link_keys → d ≡ said_text lists.link_prefixes → e ≡ said_text lists.classes → f ≡ said_text lists.id_prefix
      → ◌≡◌ {A = ListOptions} (record { tags = a; keys = b; link_keys = c; link_prefixes = d; relative_links = lists.relative_links; nofollow_links = lists.nofollow_links; classes = e; id_prefix = f }) (said_options lists)
  same-options a b c d e f ea eb ec ed ee ef = rw ea (rw eb (rw ec (rw ed (rw ee (rw ef refl)))))

  -- all of it is
  pub lent-texts : is_text (said_text lists.tags) ≡ true → is_text (said_text lists.keys) ≡ true → is_text (said_text lists.link_keys) ≡ true
      → is_text (said_text lists.link_prefixes) ≡ true → is_text (said_text lists.classes) ≡ true → is_text (said_text lists.id_prefix) ≡ true
      → lent_lists lists ≡ lists_over (said_options lists) (lists_of_number lists.policy)
  lent-texts a b d e f g = if_true (are_texts (said_options lists)) _ _ (all_true t k l p c i a b d e f g)

  module _ (page : List ℕ) where
    -- lists over what is no page, and over a page
    pub kept-no_page : (IsPage page → ⊥) → kept_with lists page ≡ not_understood
    kept-no_page lacks = elim (cases_Bool (is_page page)) [
      | inl y ↦ absurd (lacks (is_page-IsPage page y))
      | inr n ↦ if_false (is_page page) _ _ n
    ]

    pub kept-page : IsPage page → kept_with lists page ≡ kept_by_lists (lent_lists lists) page
    kept-page is = if_true (is_page page) _ _ (is_page-true page is)
