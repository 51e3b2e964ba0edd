-- The nodes of pages that are read again.
use Rattle.std.proofs.Common.{Bool, List, None, Option, Some, [], ap, false, subst, suc, sym, true, zero, ℕ, ◌++◌, ◌∙◌, ◌∷◌, ◌≡◌}
use Rattle.std.specs.Option.{option_map, unwrap_or}
use Rattle.std.specs.Prelude.{⊤, slice_get}
use Rattle.std.proofs.lemmas.Option.{same_Some}
use Rattle.tl_dom_spec.specs.Builder.{Flags}
use Rattle.tl_dom_spec.specs.HtmlForest.{HtmlForest, comment, doctype, element, has_contents, no_trees, text}
use Rattle.tl_dom_spec.specs.HtmlTree.{Context, html_fragment_by, html_tree_by}
use Rattle.tl_dom_spec.specs.Tags.{Tag}
use Rattle.tl_html_print.proofs.PageReads.{can_be}
use Rattle.tl_html_print.proofs.PageTrees.{AreWritten, fragment_written, page_written}
use Rattle.tl_html_print.proofs.Reread.{inner_read, print_read, tree_read}
use Rattle.tl_html_print.specs.Again.{is_read_again}
use Rattle.tl_html_print.specs.Places.{Place, a_node, contents_places, inner_at, inner_of, outer_at, outer_of, places, the_contents}
use Rattle.tl_html_print.specs.ReadAgain.{IsReadAs, end_tokens, lowered, tokens_of_trees, unless_empty}
use Rattle.tl_html_print.specs.Serialized.{end_tag, is_literal_in, parent_below, serialized}
use Rattle.tl_html_spec.specs.HtmlTokenizer.{after_start, data_state}
use Rattle.tl_html_spec.specs.Reader.{at, tokens_of}

abbrev pub IsWrittenPlace : Place → Type 0
IsWrittenPlace (a_node parent tree) = AreWritten tree
IsWrittenPlace (the_contents below) = AreWritten below

abbrev pub Each : List Place → Type 0
Each [] = ⊤
Each (p ∷ ps) = IsWrittenPlace p × Each ps

each_append : (ps qs : List Place) → Each ps → Each qs → Each (ps ++ qs)
each_append [] qs h k = k
each_append (p ∷ ps) qs h k = (h.0, each_append ps qs h.1 k)

contents_written : (v : Bool) (below : HtmlForest) → AreWritten below → Each (contents_places v below)
contents_written true below h = (h, tt)
contents_written false below h = tt

pub each_written : (parent : Option Tag) (trees : HtmlForest) → AreWritten trees → Each (places parent trees)
each_written parent no_trees h = tt
each_written parent (text bytes more) h = (tt, each_written parent more h)
each_written parent (comment bytes more) h = ((h.0, tt), each_written parent more h.1)
each_written parent (doctype own more) h = ((h.0, tt), each_written parent more h.1)
each_written parent (element tag below more) h = (
  (h.0, h.1, tt),
  each_append (contents_places (has_contents tag) below) _ (contents_written (has_contents tag) below h.1)
      (each_append (places (parent_below tag) below) (places parent more) (each_written (parent_below tag) below h.1) (each_written parent more h.2)),
)

pub at_place : (ps : List Place) (n : ℕ) (p : Place) → Each ps → slice_get ps n ≡ Some p → IsWrittenPlace p
at_place [] n p h e = absurd (cc)
at_place (q ∷ ps) zero p h e = subst IsWrittenPlace (same_Some q p e) h.0
at_place (q ∷ ps) (suc n) p h e = at_place ps n p h.1 e

pub outer_is : (trees : HtmlForest) (n : ℕ) (parent : Option Tag) (tree : HtmlForest) → slice_get (places None trees) n ≡ Some (a_node parent tree) → outer_at false trees n ≡ serialized false parent tree
outer_is trees n parent tree e = ap (λ (o : Option Place). unwrap_or (option_map (outer_of false) o) []) e

outer_read : (trees : HtmlForest) (n : ℕ) (parent : Option Tag) (tree : HtmlForest) (rest : List ℕ) → AreWritten trees → slice_get (places None trees) n ≡ Some (a_node parent tree) → is_literal_in false parent ≡ false → is_read_again tree ≡ true →
    tokens_of (at data_state) (outer_at false trees n ++ rest) ≡ tokens_of_trees tree ++ tokens_of (at data_state) rest
outer_read trees n parent tree rest w e l h =
    let own : AreWritten tree = at_place (places None trees) n (a_node parent tree) (each_written None trees w) e in
    ap (λ x. tokens_of (at data_state) (x ++ rest)) (outer_is trees n parent tree e) ∙ tree_read tree parent rest l (can_be tree own h)

abbrev InnerIsRead : HtmlForest → ℕ → Tag → HtmlForest → Type 0
InnerIsRead trees n tag below =
    IsReadAs (after_start (lowered tag.name)) (inner_at false trees n ++ end_tag tag) (unless_empty tag (tokens_of_trees below) ++ end_tokens tag)

inner_reads : (trees : HtmlForest) (n : ℕ) (parent : Option Tag) (tag : Tag) (below more : HtmlForest) → AreWritten trees → slice_get (places None trees) n ≡ Some (a_node parent (element tag below more)) → is_read_again (element tag below more) ≡ true →
    InnerIsRead trees n tag below
inner_reads trees n parent tag below more w e h =
    let own : AreWritten (element tag below more) = at_place (places None trees) n (a_node parent (element tag below more)) (each_written None trees w) e in
    let reads = inner_read tag below more (can_be (element tag below more) own h) in
    subst (λ x. IsReadAs (after_start (lowered tag.name)) (x ++ end_tag tag) (unless_empty tag (tokens_of_trees below) ++ end_tokens tag))
    (sym (ap (λ (o : Option Place). unwrap_or (option_map (inner_of false) o) []) e)) (reads.tokens_are, reads.state_is)

pub page_read : (flags : Flags) (page rest : List ℕ) → is_read_again (html_tree_by flags page).trees ≡ true →
    tokens_of (at data_state) (serialized false None (html_tree_by flags page).trees ++ rest) ≡ tokens_of_trees (html_tree_by flags page).trees ++ tokens_of (at data_state) rest
page_read flags page rest h = print_read (html_tree_by flags page).trees rest (can_be (html_tree_by flags page).trees (page_written flags page) h)

pub page_outer : (flags : Flags) (page : List ℕ) (number : ℕ) (parent : Option Tag) (tree : HtmlForest) (rest : List ℕ) → slice_get (places None (html_tree_by flags page).trees) number ≡ Some (a_node parent tree) → is_literal_in false parent ≡ false → is_read_again tree ≡ true →
    tokens_of (at data_state) (outer_at false (html_tree_by flags page).trees number ++ rest) ≡ tokens_of_trees tree ++ tokens_of (at data_state) rest
page_outer flags page number parent tree rest e l h = outer_read (html_tree_by flags page).trees number parent tree rest (page_written flags page) e l h

pub page_inner : (flags : Flags) (page : List ℕ) (number : ℕ) (parent : Option Tag) (tag : Tag) (below more : HtmlForest) → slice_get (places None (html_tree_by flags page).trees) number ≡ Some (a_node parent (element tag below more)) → is_read_again (element tag below more) ≡ true →
    IsReadAs (after_start (lowered tag.name)) (inner_at false (html_tree_by flags page).trees number ++ end_tag tag) (unless_empty tag (tokens_of_trees below) ++ end_tokens tag)
page_inner flags page number parent tag below more e h = inner_reads (html_tree_by flags page).trees number parent tag below more (page_written flags page) e h

pub fragment_read : (flags : Flags) (context : Context) (bytes rest : List ℕ) → is_read_again (html_fragment_by flags context bytes) ≡ true →
    tokens_of (at data_state) (serialized false None (html_fragment_by flags context bytes) ++ rest) ≡ tokens_of_trees (html_fragment_by flags context bytes) ++ tokens_of (at data_state) rest
fragment_read flags context bytes rest h = print_read (html_fragment_by flags context bytes) rest (can_be (html_fragment_by flags context bytes) (fragment_written flags context bytes) h)

pub fragment_outer : (flags : Flags) (context : Context) (bytes : List ℕ) (number : ℕ) (parent : Option Tag) (tree : HtmlForest) (rest : List ℕ) → slice_get (places None (html_fragment_by flags context bytes)) number ≡ Some (a_node parent tree) → is_literal_in false parent ≡ false → is_read_again tree ≡ true →
    tokens_of (at data_state) (outer_at false (html_fragment_by flags context bytes) number ++ rest) ≡ tokens_of_trees tree ++ tokens_of (at data_state) rest
fragment_outer flags context bytes number parent tree rest e l h = outer_read (html_fragment_by flags context bytes) number parent tree rest (fragment_written flags context bytes) e l h

pub fragment_inner : (flags : Flags) (context : Context) (bytes : List ℕ) (number : ℕ) (parent : Option Tag) (tag : Tag) (below more : HtmlForest) → slice_get (places None (html_fragment_by flags context bytes)) number ≡ Some (a_node parent (element tag below more)) → is_read_again (element tag below more) ≡ true →
    IsReadAs (after_start (lowered tag.name)) (inner_at false (html_fragment_by flags context bytes) number ++ end_tag tag) (unless_empty tag (tokens_of_trees below) ++ end_tokens tag)
fragment_inner flags context bytes number parent tag below more e h = inner_reads (html_fragment_by flags context bytes) number parent tag below more (fragment_written flags context bytes) e h
