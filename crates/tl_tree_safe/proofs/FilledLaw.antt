-- A print in a page stands where a comment would.
use Rattle.std.proofs.Common.{List, [], ap, arith, codes, false, map, not, refl, sym, true, true≢false, ℕ, ◌&&◌, ◌<◌, ◌∙◌, ◌∷◌, ◌≡◌, ◌≤◌, subst}
use Rattle.std.proofs.lemmas.Bool.{and_from, and_parts, false_from_ne_true, ltb-true}
use Rattle.std.specs.Prelude.{nat_lt}
use Rattle.tl_html_spec.specs.HtmlTokenizer.{HtmlToken}
use Rattle.tl_spec.specs.Tree.Forest.{comment, none, tag, text}
use Rattle.tl_tree_spec.specs.Builder as P
use Rattle.tl_tree_spec.specs.Groups as G
use Rattle.tl_tree_spec.specs.HtmlForest as Z
use Rattle.tl_tree_spec.specs.HtmlForest.{html_tokens_of, normal_form}
use Rattle.tl_tree_spec.specs.Stays as Y
use Rattle.tl_tree_spec.proofs.Texts as X
use Rattle.tl_dom_spec.specs.Builder as B
use Rattle.tl_dom_spec.specs.Dispatcher as M
use Rattle.tl_dom_spec.specs.Driver.{token_of}
use Rattle.tl_dom_spec.specs.HtmlForest.{HtmlForest}
use Rattle.tl_dom_spec.specs.HtmlTree.{page_start}
use Rattle.tl_dom_spec.specs.Partial.{whole, without_numbers}
use Rattle.tl_dom_spec.specs.Path as W
use Rattle.tl_dom_spec.specs.Tags as T
use Rattle.tl_dom_spec.proofs.PartNames.{has_twin}
use Rattle.tl_dom_spec.proofs.PartPaths.{nodes_of}
use Rattle.tl_dom_spec.proofs.PartSources.{bare_nodes}
use Rattle.tl_tree_safe.specs.OfPages.{IsFilledIn, begun, is_free_in, is_new_in, is_open_here}
use Rattle.tl_tree_safe.proofs.PageTags.{the_name}
use Rattle.tl_tree_safe.proofs.PageRuns.{stands-twin, tokens-append}
use Rattle.tl_tree_safe.proofs.PageLaw.{built-at, html_names, trees-are}
use Rattle.tl_tree_safe.proofs.FilledPages.{filled-in, has_no_head}

bare-head : (x : W.Nodes) → has_no_head (bare_nodes x) ≡ has_no_head x
bare-head W.no_nodes = refl
bare-head (W.and_text x own) = bare-head x
bare-head (W.and_comment x own) = bare-head x
bare-head (W.and_doctype x own) = bare-head x
bare-head (W.and_element x t below) = ap (λ v. not (T.is_any (codes "head") t) && v) (bare-head x)

character-head : (own : P.Nodes) (c : ℕ) → has_no_head (nodes_of own) ≡ true → has_no_head (nodes_of (P.and_character own c)) ≡ true
character-head P.no_nodes c h = refl
character-head (P.and_text own bytes) c h = h
character-head (P.and_element own t below) c h = h

characters-head : (own : P.Nodes) (cs : List ℕ) → has_no_head (nodes_of own) ≡ true → has_no_head (nodes_of (X.with_characters own cs)) ≡ true
characters-head own [] h = h
characters-head own (c ∷ cs) h = characters-head (P.and_character own c) cs (character-head own c h)

-- a head may stand nowhere
no-head : (n : List ℕ) (ns : List (List ℕ)) → Y.may_stand ns n ≡ true → T.is_any (codes "head") (T.html_tag n []) ≡ false
no-head n ns h =
    false_from_ne_true (T.is_any (codes "head") (T.html_tag n []))
    (λ y. true≢false (sym (stands-twin (G.group n) ns n h) ∙ ap (λ m. has_twin (G.group m)) (the_name (codes "head") n y)))

grown-head : (ts : Z.HtmlForest) (own : P.Nodes) (ns : List (List ℕ)) → Y.stay ns ts ≡ true → has_no_head (nodes_of own) ≡ true → has_no_head (nodes_of (X.grown own ts)) ≡ true
grown-head none own ns s h = h
grown-head (text bytes more) own ns s h = grown-head more (X.with_characters own bytes) ns (and_parts _ (Y.stay ns more) s).1 (characters-head own bytes h)
grown-head (comment bytes more) own ns s h = absurd (true≢false (sym s))
grown-head (tag t children more) own ns s h =
    let all = and_parts _ (Y.stay ns more) s in
    let here = and_parts (Y.may_stand ns t.name) _ all.0 in
    grown-head more (P.and_element own t (X.grown P.no_nodes children)) ns all.1 (and_from _ _ (ap not (no-head t.name ns here.0)) h)

-- marks are counted
marks-later : (c : B.Builder) (ts : List B.Token) → c.marks ≤ (M.tokens_done c ts).marks
marks-later c [] = omega arith
marks-later c (B.a_character x ∷ ts) = marks-later (M.token_done c (B.a_character x)) ts
marks-later c (B.a_start g t closes ∷ ts) = let more = marks-later (M.token_done c (B.a_start g t closes)) ts in omega (arith, more)
marks-later c (B.an_end g n ∷ ts) = let more = marks-later (M.token_done c (B.an_end g n)) ts in omega (arith, more)
marks-later c (B.a_comment own ∷ ts) = let more = marks-later (M.token_done c (B.a_comment own)) ts in omega (arith, more)
marks-later c (B.a_doctype own ∷ ts) = let more = marks-later (M.token_done c (B.a_doctype own)) ts in omega (arith, more)
marks-later c (B.end_of_file ∷ ts) = marks-later (M.token_done c B.end_of_file) ts

pub filled-page : (flags : B.Flags) (front back : List HtmlToken) (ts : Z.HtmlForest) (trees : HtmlForest) (mark : ℕ) → is_open_here (begun flags front) ≡ true → Y.stay html_names ts ≡ true →
    is_free_in mark (begun flags front) ≡ true → whole (normal_form ts) ≡ without_numbers trees → IsFilledIn flags front (html_tokens_of ts) back trees mark
filled-page flags front back ts trees mark open_so stay free e =
    let s = built-at (begun flags front) ts open_so stay in
    let two = and_parts (nat_lt mark (begun flags front).marks) (is_new_in mark (begun flags front)) free in
    let low : mark < (begun flags front).marks = ltb-true mark (begun flags front).marks two.0 in
    let later = marks-later (begun flags front) (map token_of (html_tokens_of ts)) in
    let below : mark < (M.tokens_done (begun flags front) (map token_of (html_tokens_of ts))).marks = omega (arith, low, later) in
    filled-in mark s.nodes
    (sym (bare-head s.nodes) ∙ ap has_no_head s.same.bare ∙ grown-head ts P.no_nodes html_names stay refl)
    flags front (html_tokens_of ts) back s.same.neat s.builds two.1
    (subst (λ (c : B.Builder). mark < c.marks) (sym (tokens-append (page_start flags) front (html_tokens_of ts))) below)
    trees (trees-are s.nodes ts html_names s.same stay ∙ e)
