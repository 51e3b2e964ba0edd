-- A page with a print is the page with a comment in its place, filled.
use Rattle.std.proofs.Common.{Bool, List, [], ap, ap₂, append_assoc, arith, codes, false, if◌then◌else◌, map, not, refl, suc, sym, true, true≢false, ℕ, ◌&&◌, ◌++◌, ◌<◌, ◌==◌, ◌∙◌, ◌∷◌, ◌≡◌}
use Rattle.std.specs.List.{list_all}
use Rattle.std.proofs.lemmas.Bool.{and_parts, cond-false, cond-true, not-true}
use Rattle.std.proofs.lemmas.Bool.Decides.{nat_tests}
use Rattle.tl_html_spec.specs.HtmlTokenizer.{CommentToken, Character, DoctypeToken, EndTag, HtmlToken, StartTag}
use Rattle.tl_dom_spec.specs.Builder as B
use Rattle.tl_dom_spec.specs.Dispatcher as M
use Rattle.tl_dom_spec.specs.Driver.{token_of}
use Rattle.tl_dom_spec.specs.HtmlForest.{HtmlForest, before, no_trees}
use Rattle.tl_dom_spec.specs.HtmlTree as V
use Rattle.tl_dom_spec.specs.Partial.{without_numbers}
use Rattle.tl_dom_spec.specs.Marks.{Marked}
use Rattle.tl_dom_spec.specs.Path as W
use Rattle.tl_dom_spec.specs.Tags as T
use Rattle.tl_dom_spec.specs.Tags.{Tag}
use Rattle.tl_tree_safe.specs.OfPages.{IsFilledIn, begun, comment_of, counted_as, filled, is_new, is_new_in, is_text, put_in}
use Rattle.tl_tree_safe.proofs.FilledPaths.{Fills, mf, mp, put-m, settled_while-m}
use Rattle.tl_tree_safe.proofs.FilledBuilders as R
use Rattle.tl_tree_safe.proofs.FilledTables.{Keep, tokens-m, token-m}
use Rattle.tl_tree_safe.proofs.PageStates.{text-behind, text-text}
use Rattle.tl_tree_safe.proofs.PageRuns.{tokens-append}
use Rattle.tl_tree_spec.proofs.Active.{same_number}

joined-again : (x y z : W.Nodes) → W.joined (W.joined x y) z ≡ W.joined x (W.joined y z)
joined-again x y W.no_nodes = refl
joined-again x y (W.and_text z own) = ap (λ n. W.with_text n own) (joined-again x y z) ∙ text-behind x (W.joined y z) own
joined-again x y (W.and_comment z own) = ap (λ n. W.and_comment n own) (joined-again x y z)
joined-again x y (W.and_doctype z own) = ap (λ n. W.and_doctype n own) (joined-again x y z)
joined-again x y (W.and_element z t below) = ap (λ n. W.and_element n t below) (joined-again x y z)

abbrev is_head : Tag → Bool
is_head t = T.is_any (codes "head") t

head-text : (z : W.Nodes) (own : Marked (List ℕ)) (y : W.Nodes) → W.at_head (W.with_text z own) y ≡ W.with_text (W.at_head z y) own
head-text W.no_nodes own y = refl
head-text (W.and_text z first) own y = refl
head-text (W.and_comment z first) own y = refl
head-text (W.and_doctype z first) own y = refl
head-text (W.and_element z t below) own y = either (is_head t)
  where
    either : (v : Bool) → W.and_text (if v then W.and_element z t (W.joined below y) else W.and_element (W.at_head z y) t below) own
        ≡ W.with_text (if v then W.and_element z t (W.joined below y) else W.and_element (W.at_head z y) t below) own
    either true = refl
    either false = refl

-- no head is among nodes
abbrev pub has_no_head : W.Nodes → Bool
has_no_head W.no_nodes = true
has_no_head (W.and_text z own) = has_no_head z
has_no_head (W.and_comment z own) = has_no_head z
has_no_head (W.and_doctype z own) = has_no_head z
has_no_head (W.and_element z t below) = not (is_head t) && has_no_head z

head-past : (z new y : W.Nodes) → has_no_head new ≡ true → W.at_head (W.joined z new) y ≡ W.joined (W.at_head z y) new
head-past z W.no_nodes y h = refl
head-past z (W.and_text new own) y h = head-text (W.joined z new) own y ∙ ap (λ n. W.with_text n own) (head-past z new y h)
head-past z (W.and_comment new own) y h = ap (λ n. W.and_comment n own) (head-past z new y h)
head-past z (W.and_doctype new own) y h = ap (λ n. W.and_doctype n own) (head-past z new y h)
head-past z (W.and_element new t below) y h =
    let two = and_parts (not (is_head t)) (has_no_head new) h in
    cond-false (is_head t) _ _ (not-true (is_head t) two.0) ∙ ap (λ n. W.and_element n t below) (head-past z new y two.1)

module _ (mark : ℕ) (new : W.Nodes) (bare : has_no_head new ≡ true) where
  abbrev fill : W.Nodes → W.Nodes
  fill nodes = filled mark new nodes

  fill-text : (z : W.Nodes) (own : Marked (List ℕ)) → fill (W.with_text z own) ≡ W.with_text (fill z) own
  fill-text W.no_nodes own = refl
  fill-text (W.and_text z first) own = sym (text-text (fill z) first own)
  fill-text (W.and_comment z first) own = refl
  fill-text (W.and_doctype z first) own = refl
  fill-text (W.and_element z t below) own = refl

  abbrev at_comment : Bool → W.Nodes → Marked (List ℕ) → W.Nodes
  at_comment v nodes own = if v then W.joined nodes new else W.and_comment nodes own

  fill-joined : (x y : W.Nodes) → fill (W.joined x y) ≡ W.joined (fill x) (fill y)
  fill-joined x W.no_nodes = refl
  fill-joined x (W.and_text y own) = fill-text (W.joined x y) own ∙ ap (λ n. W.with_text n own) (fill-joined x y) ∙ text-behind (fill x) (fill y) own
  fill-joined x (W.and_comment y own) = ap (λ n. at_comment (own.source == mark) n own) (fill-joined x y) ∙ either (own.source == mark)
    where
      either : (v : Bool) → at_comment v (W.joined (fill x) (fill y)) own ≡ W.joined (fill x) (at_comment v (fill y) own)
      either true = joined-again (fill x) (fill y) new
      either false = refl
  fill-joined x (W.and_doctype y own) = ap (λ n. W.and_doctype n own) (fill-joined x y)
  fill-joined x (W.and_element y t below) = ap (λ n. W.and_element n t (fill below)) (fill-joined x y)

  fill-head : (x y : W.Nodes) → fill (W.at_head x y) ≡ W.at_head (fill x) (fill y)
  fill-head W.no_nodes y = refl
  fill-head (W.and_text x own) y = ap (λ n. W.with_text n own) (fill-head x y) ∙ sym (head-text (fill x) own (fill y))
  fill-head (W.and_comment x own) y = ap (λ n. at_comment (own.source == mark) n own) (fill-head x y) ∙ either (own.source == mark)
    where
      either : (v : Bool) → at_comment v (W.at_head (fill x) (fill y)) own ≡ W.at_head (at_comment v (fill x) own) (fill y)
      either true = sym (head-past (fill x) new (fill y) bare)
      either false = refl
  fill-head (W.and_doctype x own) y = ap (λ n. W.and_doctype n own) (fill-head x y)
  fill-head (W.and_element x t below) y = either (fill-head x y) (is_head t)
    where
      either : fill (W.at_head x y) ≡ W.at_head (fill x) (fill y) → (v : Bool) → fill (if v then W.and_element x t (W.joined below y) else W.and_element (W.at_head x y) t below)
          ≡ (if v then W.and_element (fill x) t (W.joined (fill below) (fill y)) else W.and_element (W.at_head (fill x) (fill y)) t (fill below))
      either e true = ap (W.and_element (fill x) t) (fill-joined below y)
      either e false = ap (λ n. W.and_element n t (fill below)) e

  fills : Fills fill
  fills = record {
    none = refl;
    joins = fill-joined;
    element = λ _ _. refl;
    text = λ _. refl;
    doctype = λ _. refl;
    head = fill-head;
  }

  -- where no comment has the number, nothing changes
  after-text : (x : W.Nodes) (own : Marked (List ℕ)) → is_text x ≡ false → W.with_text x own ≡ W.and_text x own
  after-text W.no_nodes own n = refl
  after-text (W.and_text x first) own n = absurd (true≢false n)
  after-text (W.and_comment x first) own n = refl
  after-text (W.and_doctype x first) own n = refl
  after-text (W.and_element x t below) own n = refl

  fill-none : (x : W.Nodes) → is_new mark x ≡ true → fill x ≡ x
  fill-none W.no_nodes n = refl
  fill-none (W.and_text x own) n =
      let two = and_parts (not (is_text x)) (is_new mark x) n in
      ap (λ z. W.with_text z own) (fill-none x two.1) ∙ after-text x own (not-true (is_text x) two.0)
  fill-none (W.and_comment x own) n =
      let two = and_parts (not (own.source == mark)) (is_new mark x) n in
      cond-false (own.source == mark) _ _ (not-true (own.source == mark) two.0) ∙ ap (λ z. W.and_comment z own) (fill-none x two.1)
  fill-none (W.and_doctype x own) n = ap (λ z. W.and_doctype z own) (fill-none x n)
  fill-none (W.and_element x t below) n =
      let two = and_parts (is_new mark x) (is_new mark below) n in
      ap₂ (λ y z. W.and_element y t z) (fill-none x two.0) (fill-none below two.1)

  abbrev is_new_frame : W.Frame → Bool
  is_new_frame f = is_new mark f.children && is_new mark f.waiting

  path-none : (p : W.Path) → list_all is_new_frame p ≡ true → mp fill fills p ≡ p
  path-none [] n = refl
  path-none (f ∷ p) n =
      let two = and_parts (is_new_frame f) (list_all is_new_frame p) n in
      let own = and_parts (is_new mark f.children) (is_new mark f.waiting) two.0 in
      ap₂ (λ (x : W.Frame) (fs : W.Path). x ∷ fs) (ap₂ (λ y z. record f { children = y; waiting = z }) (fill-none f.children own.0) (fill-none f.waiting own.1)) (path-none p two.1)

  -- comments behind have higher numbers
  other_number : (n : ℕ) → mark < n → (n == mark) ≡ false
  other_number n l = grind (arith, nat_tests)

  kept-comments : (n : ℕ) (ts : List HtmlToken) → mark < n → Keep fill fills n (map token_of ts)
  kept-comments n [] l = tt
  kept-comments n (Character c ∷ ts) l = (tt, kept-comments n ts l)
  kept-comments n (StartTag name attributes closes ∷ ts) l = (tt, kept-comments (suc n) ts (omega (arith, l)))
  kept-comments n (EndTag name ∷ ts) l = (tt, kept-comments (suc n) ts (omega (arith, l)))
  kept-comments n (CommentToken bytes ∷ ts) l = (cond-false (n == mark) _ _ (other_number n l), kept-comments (suc n) ts (omega (arith, l)))
  kept-comments n (DoctypeToken ∷ ts) l = (tt, kept-comments (suc n) ts (omega (arith, l)))

  -- the tree that is left of a builder
  top-m : (p : W.Path) → mf fill fills (W.top p) ≡ W.top (mp fill fills p)
  top-m [] = refl
  top-m (f ∷ p) = refl

  filled-trees : (c : B.Builder) → (V.document_of (R.mb fill fills c)).trees
      ≡ before (fill (W.joined (W.top (W.settled_while V.any_frame c.path c.path)).children (W.top (W.settled_while V.any_frame c.path c.path)).waiting)) no_trees
  filled-trees c =
      let q : W.Path = W.settled_while V.any_frame c.path c.path in
      ap (λ (p : W.Path). V.trees_in (W.top p)) (sym (settled_while-m fill fills V.any_frame (λ _. refl) c.path c.path))
      ∙ ap V.trees_in (sym (top-m q))
      ∙ ap (λ x. before x no_trees) (sym (fill-joined (W.top q).children (W.top q).waiting))

  module _ (flags : B.Flags) (front print back : List HtmlToken) (whole : W.joined W.no_nodes new ≡ new)
      (builds : put_in (begun flags front) print ≡ counted_as (put_in (begun flags front) print) (record (begun flags front) { path = W.put W.here new (begun flags front).path }))
      (free : is_new_in mark (begun flags front) ≡ true) (below : mark < (begun flags (front ++ print)).marks) where
    abbrev b : B.Builder
    b = begun flags front

    abbrev c : B.Builder
    c = begun flags (front ++ print)

    abbrev d : B.Builder
    d = counted_as c (record b { path = W.put W.here (comment_of mark) b.path })

    same : c ≡ put_in b print
    same = tokens-append (V.page_start flags) front print

    fill-comment : fill (comment_of mark) ≡ new
    fill-comment = cond-true (mark == mark) _ _ (same_number mark) ∙ whole

    filled-start : R.mb fill fills d ≡ c
    filled-start =
        ap (λ (p : W.Path). record d { path = p })
        (put-m fill fills W.here (comment_of mark) b.path ∙ ap₂ (λ (x : W.Nodes) (p : W.Path). W.put W.here x p) fill-comment (path-none b.path free))
        ∙ ap (λ (x : B.Builder). counted_as x (record b { path = W.put W.here new b.path })) same
        ∙ sym builds
        ∙ sym same

    abbrev e : B.Builder
    e = V.after_tokens d back

    filled-end : R.mb fill fills e ≡ V.after_tokens c back
    filled-end =
        token-m fill fills (M.tokens_done d (map token_of back)) B.end_of_file tt
        ∙ ap (λ (x : B.Builder). M.token_done x B.end_of_file)
        (tokens-m fill fills (map token_of back) d (kept-comments d.marks back below) ∙ ap (λ (x : B.Builder). M.tokens_done x (map token_of back)) filled-start)

    abbrev left : W.Frame
    left = W.top (W.settled_while V.any_frame e.path e.path)

    pub filled-in : (trees : HtmlForest) → without_numbers (before new no_trees) ≡ without_numbers trees → IsFilledIn flags front print back trees mark
    filled-in trees are = record {
      nodes = new;
      page = W.joined left.children left.waiting;
      are = are;
      with_comment = refl;
      with_print =
          ap (λ (c : B.Builder). (V.document_of (M.token_done c B.end_of_file)).trees)
          (ap (λ (ts : List HtmlToken). M.tokens_done (V.page_start flags) (map token_of ts)) (sym (append_assoc front print back)) ∙ tokens-append (V.page_start flags) (front ++ print) back)
          ∙ ap (λ (c : B.Builder). (V.document_of c).trees) (sym filled-end)
          ∙ filled-trees e;
    }
