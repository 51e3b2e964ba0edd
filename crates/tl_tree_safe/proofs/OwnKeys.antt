-- No element of a page has a key twice.
use Rattle.std.proofs.Common.{Bool, List, [], ap, append_assoc, false, map, not, refl, subst, sym, true, true≢false, ℕ, ◌++◌, ◌∙◌, ◌∷◌, ◌≡◌, ◌||◌}
use Rattle.std.specs.List.{list_any}
use Rattle.std.specs.Str.{bytes_eq}
use Rattle.std.proofs.lemmas.Bool.{and_from}
use Rattle.tl_dom_spec.specs.Builder.{Flags}
use Rattle.tl_dom_spec.specs.HtmlForest.{HtmlForest, comment, doctype, element, no_trees, text}
use Rattle.tl_dom_spec.specs.HtmlTree.{Context, html_fragment_by, html_tree_by}
use Rattle.tl_dom_spec.specs.Tags.{Attribute, plain_attribute}
use Rattle.tl_html_print.proofs.PageTokens.{AreApart}
use Rattle.tl_html_print.proofs.PageTrees.{AreWritten, fragment_written, page_written}
use Rattle.tl_html_spec.specs.HtmlTokenizer.{HtmlAttribute}
use Rattle.tl_tree_safe.specs.OwnKeys.{HaveOwnKeys, are_apart, comes_again}

both_false : (a b : Bool) → a || b ≡ false → (a ≡ false) × (b ≡ false)
both_false false b h = (refl, h)
both_false true b h = absurd (true≢false h)

-- of one among others
one_other : (test : HtmlAttribute → Bool) (before after : List HtmlAttribute) (a : HtmlAttribute) → list_any test (before ++ a ∷ after) ≡ false → test a ≡ false
one_other test [] after a h = (both_false (test a) (list_any test after) h).0
one_other test (x ∷ before) after a h = one_other test before after a (both_false (test x) (list_any test (before ++ a ∷ after)) h).1

no_more : (before mid xs : List HtmlAttribute) (a : HtmlAttribute) → AreApart (before ++ a ∷ mid) xs → comes_again a.0 (map plain_attribute xs) ≡ false
no_more before mid [] a h = refl
no_more before mid (x ∷ xs) a h =
    let here : bytes_eq a.0 x.0 ≡ false = one_other (λ (b : HtmlAttribute). bytes_eq b.0 x.0) before mid a h.0 in
    ap (λ v. v || comes_again a.0 (map plain_attribute xs)) here
    ∙ no_more before (mid ++ x ∷ []) xs a (subst (λ z. AreApart z xs) (append_assoc before (a ∷ mid) (x ∷ [])) h.1)

apart_keys : (before xs : List HtmlAttribute) → AreApart before xs → are_apart (map plain_attribute xs) ≡ true
apart_keys before [] h = refl
apart_keys before (x ∷ xs) h =
    and_from _ _ (ap not (no_more before [] xs x h.1)) (apart_keys (before ++ x ∷ []) xs h.1)

own_keys : (f : HtmlForest) → AreWritten f → HaveOwnKeys f
own_keys no_trees w = tt
own_keys (text own more) w = own_keys more w
own_keys (comment own more) w = own_keys more w.1
own_keys (doctype own more) w = own_keys more w.1
own_keys (element tag below more) w = (
  (λ html.
      let fit = w.0.html html in
      subst (λ (xs : List Attribute). are_apart xs ≡ true) (sym fit.are) (apart_keys [] fit.own fit.fit.apart)),
  own_keys below w.1,
  own_keys more w.2,
)

pub page_keys : (flags : Flags) (page : List ℕ) → HaveOwnKeys (html_tree_by flags page).trees
page_keys flags page = own_keys (html_tree_by flags page).trees (page_written flags page)

pub fragment_keys : (flags : Flags) (context : Context) (bytes : List ℕ) → HaveOwnKeys (html_fragment_by flags context bytes)
fragment_keys flags context bytes = own_keys (html_fragment_by flags context bytes) (fragment_written flags context bytes)
