-- Words for worked rows. No contract cites them.
use Prim.Native.String.{String}
use Rattle.std.specs.Prelude.{Bool, List, None, Some, [], codes, false, true, ℕ, ◌∷◌}
use Rattle.tl_dom_spec.specs.HtmlForest.{HtmlForest}
use Rattle.tl_dom_spec.specs.Driver.{builder}
use Rattle.tl_dom_spec.specs.HtmlTree.{html_fragment, page_start, standard}
use Rattle.tl_dom_spec.specs.Tags.{bare_tag}
use Rattle.tl_html_print.specs.Serialized.{serialized}
use Rattle.tl_html_spec.specs.Balanced.{words}
use Rattle.tl_html_spec.specs.Driven.{driven, in_state}
use Rattle.tl_html_spec.specs.HtmlTokenizer.{data_state}
use Rattle.tl_tree_safe.specs.Kept.{kept}
use Rattle.tl_tree_safe.specs.KeptFitted.{kept_fitted}
use Rattle.tl_tree_safe.specs.Lists.{ListedWords}
use Rattle.tl_tree_safe.specs.OfPages.{is_free_in, is_open_here}
use Rattle.tl_tree_safe.specs.OpenPlaces.{Around, is_open_place}
use Rattle.tl_tree_safe.specs.Removed.{Gone, removed}
use Rattle.tl_tree_safe.specs.declared.removal.Cause.{Cause}

-- the trees of a text in a `div`
abbrev pub trees_of : String → HtmlForest
trees_of markup = html_fragment (bare_tag (codes "div")) (codes markup)

abbrev pub some_lists : ListedWords
some_lists = record {
  tags = codes "a" ∷ codes "b" ∷ codes "br" ∷ codes "p" ∷ [];
  keys = codes "alt" ∷ codes "href" ∷ codes "id" ∷ codes "title" ∷ [];
  link_keys = codes "href" ∷ [];
  link_prefixes = codes "https:" ∷ codes "/" ∷ [];
  relative_links = false;
  nofollow_links = false;
  classes = [];
  id_prefix = codes "user-";
}

-- what is kept of a text, printed
abbrev pub kept_by : ListedWords → String → List ℕ
kept_by p markup = serialized false None (kept p (trees_of markup))

abbrev pub kept_in : String → List ℕ
kept_in markup = kept_by some_lists markup

abbrev pub relative_lists : ListedWords
relative_lists = record some_lists { relative_links = true }

abbrev pub naming_lists : ListedWords
naming_lists = record some_lists {
  keys = codes "headers" ∷ some_lists.keys;
  link_prefixes = codes "#" ∷ some_lists.link_prefixes;
}

abbrev pub class_lists : ListedWords
class_lists = record some_lists {
  keys = codes "class" ∷ some_lists.keys;
  classes = codes "language-*" ∷ codes "hljs" ∷ [];
}

abbrev pub marking_lists : ListedWords
marking_lists = record some_lists { keys = codes "rel" ∷ some_lists.keys; nofollow_links = true }

-- what is kept by lists of these tags alone, made to stay
abbrev pub fitted_with : List (List ℕ) → String → List ℕ
fitted_with tags markup =
    serialized false None (kept_fitted (record some_lists { tags = tags }) (trees_of markup))

-- what goes of a text
abbrev pub removed_in : String → List Gone
removed_in markup = removed some_lists (trees_of markup)

abbrev pub tag_goes : ℕ → Cause → Gone
tag_goes node cause = record { node = node; key = None; cause = cause }

abbrev pub key_goes : ℕ → String → Cause → Gone
key_goes node key cause = record { node = node; key = Some (codes key); cause = cause }

-- whether a print may be put where elements of these names are open
abbrev pub is_open_in : String → Bool
is_open_in names = is_open_place (words (codes names))

-- whether a print may be put into a page behind this
abbrev pub is_open_after : String → Bool
is_open_after front =
    is_open_here (driven builder (page_start standard) (in_state data_state) (codes front))

-- whether a comment may have a number there
abbrev pub is_free_after : ℕ → String → Bool
is_free_after mark front =
    is_free_in mark (driven builder (page_start standard) (in_state data_state) (codes front))

-- a place in trees
abbrev pub around_it : String → String → String → Around
around_it name before after = record {
  tag = bare_tag (codes name);
  before = trees_of before;
  after = trees_of after;
}

abbrev pub some_place : List Around
some_place = around_it "div" "a<br>" "b" ∷ around_it "section" "<h2>c</h2>" "" ∷ []
