-- A print of what a policy keeps of a text is read and built again as it is printed.
use Rattle.std.proofs.Common.{Bool, List, None, ap, codes, false, true, ℕ, ◌++◌, ◌∙◌, ◌≡◌}
use Rattle.tl_dom_spec.specs.HtmlForest.{HtmlForest}
use Rattle.tl_dom_spec.specs.HtmlTree.{Context, context_of, html_fragment, standard}
use Rattle.tl_dom_spec.specs.Partial.{is_flow_context, without_numbers}
use Rattle.tl_dom_spec.specs.Tags.{bare_tag}
use Rattle.tl_html_print.specs.Again.{built_in}
use Rattle.tl_html_print.specs.ReadAgain.{tokens_of_trees}
use Rattle.tl_html_print.specs.Serialized.{serialized}
use Rattle.tl_html_spec.specs.HtmlTokenizer.{data_state}
use Rattle.tl_html_spec.specs.Reader.{at, tokens_of}
use Rattle.tl_tree_safe.proofs.OwnKeys.{fragment_keys}
use Rattle.tl_tree_safe.proofs.Safe as safe
use Rattle.tl_tree_safe.specs.InDiv.{kept_in_div}
use Rattle.tl_tree_safe.specs.Joined.{texts_joined}
use Rattle.tl_tree_safe.specs.Listed.{are_listed}
use Rattle.tl_tree_safe.specs.Lists.{ListedWords, lists_words}
use Rattle.tl_tree_safe.specs.OwnKeys.{HaveOwnKeys}

module _ (p : ListedWords) (l : lists_words p ≡ true) (text page : List ℕ) (is : page ≡ serialized false None (kept_in_div p text)) where
  abbrev trees : HtmlForest
  trees = html_fragment (bare_tag (codes "div")) text

  keys : HaveOwnKeys trees
  keys = fragment_keys standard (context_of (bare_tag (codes "div"))) text

  pub read : (rest : List ℕ) → tokens_of (at data_state) (page ++ rest) ≡ tokens_of_trees (kept_in_div p text) ++ tokens_of (at data_state) rest
  read rest = ap (λ (x : List ℕ). tokens_of (at data_state) (x ++ rest)) is ∙ safe.read p trees rest l keys

  pub built : (context : Context) → is_flow_context context ≡ true → (v : Bool) → without_numbers (built_in context v page) ≡ without_numbers (texts_joined (kept_in_div p text))
  built context flow v = ap (λ (x : List ℕ). without_numbers (built_in context v x)) is ∙ safe.built context v p trees flow l keys

  pub listed : are_listed p (tokens_of (at data_state) page) ≡ true
  listed = ap (λ (x : List ℕ). are_listed p (tokens_of (at data_state) x)) is ∙ safe.listed p trees l keys
