-- Elements that are told, and those that are left.
use Rattle.std.proofs.Common.{Bool, Err, List, None, Ok, Option, Result, Some, [], ap, arith, false, filter, get_or, if◌then◌else◌, inl, inr, length, not, refl, subst, suc, sym, true, true≢false, zero, ℕ, ◌+◌, ◌<◌, ◌==◌, ◌∙◌, ◌∷◌, ◌≡◌, ◌≤◌, ◌↔◌}
use Rattle.std.proofs.lemmas.Bool.{cases_Bool, eq-eqb, eqb-true, ltb-false, ltb-true, ne_eqb}
use Rattle.std.proofs.lemmas.List.{get_or_default}
use Rattle.std.proofs.lemmas.List.Elements.{filter_agree}
use Rattle.std.proofs.lemmas.List.Folds.{Any-from_list_any, list_any_at, list_any_none}
use Rattle.std.proofs.lemmas.List.Kept.{AllPairs-from_increasing}
use Rattle.std.proofs.lemmas.List.Sorted.{searched}
use Rattle.std.specs.List.{All, Contains, list_any}
use Rattle.std.specs.List.Sorted.{IsBinarySearchResult, IsStrictlyIncreasing}
use Rattle.std.specs.Ordering.{nat_cmp}
use Rattle.std.specs.Result.{is_ok}
use Rattle.tl_patch_edit.specs.declared.comments.CommentError.{CommentError}
use Rattle.tl_patch_edit.specs.declared.comments.CommentError.TheVariants as comment
use Rattle.tl_patch_select.specs.Partly.{IsRestRefused, IsRestRefusedFor, has_other_place, is_told, others}
use Rattle.tl_patch_select.specs.Selected.{place_of}
use Rattle.tl_patch_select.specs.Uncommented.{AreNodesKept, IsCommentReason}
use Rattle.tl_patch_select.specs.declared.edit_error.SelectionEditError.{SelectionEditError}
use Rattle.tl_patch_select.specs.declared.edit_error.SelectionEditError.TheVariants as element
use Rattle.tl_patch_spec.specs.Patches.{Patch}
use Rattle.tl_tree.specs.declared.tree.Tree.{Tree}
use lib.Dec.{ltb}

-- a search in numbers that stand in order

no_less : (xs : List ℕ) → IsStrictlyIncreasing xs → (i j : ℕ) → i ≤ j → j < length xs → get_or xs i 0 ≤ get_or xs j 0
no_less xs h i j l m = elim (cases_Bool (ltb i j)) [
  | inl y ↦
      let less : get_or xs i 0 < get_or xs j 0 = AllPairs-from_increasing xs h i j 0 (ltb-true i j y) m in
      omega (arith, less)
  | inr y ↦
      let past : j ≤ i = ltb-false i j y in
      let e : i ≡ j = omega (arith, l, past) in
      rw e (omega arith)
]

pub told_by_search : (told : List ℕ) (place : ℕ) (r : Result ℕ ℕ) → IsStrictlyIncreasing told → IsBinarySearchResult (λ y. nat_cmp y place) told r → is_ok r ≡ is_told told place
told_by_search told place (Ok i) rises s =
    let h = searched told place (Ok i) s (no_less told rises) in
    sym (list_any_at (λ other. other == place) told i 0 h.0 (eq-eqb (get_or told i 0) place h.1))
told_by_search told place (Err i) rises s =
    let h = searched told place (Err i) s (no_less told rises) in
    let none : All (λ other. (other == place) ≡ false) told = λ k d l. elim (cases_Bool (ltb k i)) [
      | inl y ↦
          let less : get_or told k 0 < place = h.1 k (ltb-true k i y) in
          let same : get_or told k 0 ≡ get_or told k d = get_or_default told k 0 d l in
          ne_eqb (get_or told k d) place (λ e. absurd (omega (arith, less, same, e)))
      | inr y ↦
          let more : place < get_or told k 0 = h.2 k (ltb-false k i y) l in
          let same : get_or told k 0 ≡ get_or told k d = get_or_default told k 0 d l in
          ne_eqb (get_or told k d) place (λ e. absurd (omega (arith, more, same, e)))
    ] in
    sym (list_any_none (λ other. other == place) told none)

-- the same numbers in another order

told_contains : (told : List ℕ) (place : ℕ) → is_told told place ≡ true → Contains told place
told_contains told place e =
    let a = Any-from_list_any (λ other. other == place) told e in
    subst (λ n. Contains told n) (eqb-true a.1 place a.4) (a.0, a.2, a.3)

contains_told : (told : List ℕ) (place : ℕ) → Contains told place → is_told told place ≡ true
contains_told told place k = list_any_at (λ other. other == place) told k.0 place k.1 (eq-eqb (get_or told k.0 place) place k.2)

same_told : (one other : List ℕ) (place : ℕ) → (Contains one place → Contains other place) → (Contains other place → Contains one place) → is_told one place ≡ is_told other place
same_told one other place f g = elim (cases_Bool (is_told one place)) [
  | inl y ↦ y ∙ sym (contains_told other place (f (told_contains one place y)))
  | inr y ↦ elim (cases_Bool (is_told other place)) [
    | inl z ↦ absurd (true≢false (sym (contains_told one place (g (told_contains other place z))) ∙ y))
    | inr z ↦ y ∙ sym z
  ]
]

same_place : (one other : List ℕ) (o : Option ℕ) → ((place : ℕ) → Contains one place → Contains other place) → ((place : ℕ) → Contains other place → Contains one place) →
    has_other_place one o ≡ has_other_place other o
same_place one other None f g = refl
same_place one other (Some place) f g = ap not (same_told one other place (f place) (g place))

pub same_others : (tree : Tree) (one other : List ℕ) → ((place : ℕ) → Contains one place → Contains other place) → ((place : ℕ) → Contains other place → Contains one place) → (numbers : List ℕ) →
    others tree one numbers ≡ others tree other numbers
same_others tree one other f g numbers =
    filter_agree (λ n. has_other_place one (place_of tree n)) (λ n. has_other_place other (place_of tree n)) (λ n. same_place one other (place_of tree n) f g) numbers

pub rest_refused : (patch : Patch) (tree : Tree) (page numbers : List ℕ) (e : SelectionEditError) → IsRestRefusedFor patch tree page numbers e → IsRestRefused patch tree page numbers e
rest_refused patch tree page numbers (element.Refused error) h = h
rest_refused patch tree page numbers (element.Untagged at) h = h
rest_refused patch tree page numbers (element.NotWhole place at) h = h
rest_refused patch tree page numbers element.OutOfMemory h = tt

pub nodes_kept : (numbers : List ℕ) (tree : Tree) (page : List ℕ) (e : CommentError) → AreNodesKept numbers tree page e → IsCommentReason numbers tree page e
nodes_kept numbers tree page (comment.NoComment place) h = h
nodes_kept numbers tree page comment.ReadOtherwise h = h
nodes_kept numbers tree page comment.OutOfMemory h = tt
