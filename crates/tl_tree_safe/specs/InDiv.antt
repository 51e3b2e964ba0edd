-- What a policy keeps of a text that is read as what a `div` holds.
use Rattle.std.specs.Prelude.{Bool, List, None, codes, false, ℕ, ⊤, ◌≡◌}
use Rattle.tl_dom_spec.specs.HtmlForest.{HtmlForest}
use Rattle.tl_dom_spec.specs.HtmlTree.{Context, context_of, html_fragment, is_fragment_in_proportion_by, standard}
use Rattle.tl_dom_spec.specs.Tags.{Tag, bare_tag}
use Rattle.tl_html_print.specs.Serialized.{serialized}
use Rattle.tl_tree.specs.Sources.{IsOutOfProportionAt, fragment_begin}
use Rattle.tl_tree.specs.declared.error.ReadError.{ReadError}
use Rattle.tl_tree.specs.declared.error.ReadError.TheVariants.{OutOfMemory, OutOfProportion, TooLarge}
use Rattle.tl_tree_safe.specs.KeptFitted.{kept_fitted}
use Rattle.tl_tree_safe.specs.Lists.{ListedWords}

abbrev pub div : Tag
div = bare_tag (codes "div")

abbrev pub kept_in_div : ListedWords → List ℕ → HtmlForest
kept_in_div p text = kept_fitted p (html_fragment div text)

-- and its print
abbrev pub safe_print : ListedWords → List ℕ → List ℕ
safe_print p text = serialized false None (kept_in_div p text)

-- the trees of the text are in proportion to it
abbrev pub is_in_proportion_in_div : List ℕ → Bool
is_in_proportion_in_div text = is_fragment_in_proportion_by standard (context_of div) text

-- why a text is not read so
abbrev pub IsUnreadInDiv : List ℕ → ReadError → Type 0
IsUnreadInDiv text OutOfMemory = ⊤
IsUnreadInDiv text TooLarge = ⊤
IsUnreadInDiv text (OutOfProportion at) =
    (is_in_proportion_in_div text ≡ false)
    × IsOutOfProportionAt text (fragment_begin standard (context_of div)) at
