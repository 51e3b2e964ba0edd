-- What is kept and made to stay is read and built again as it is printed.
use Rattle.std.proofs.Common.{Bool, List, None, [], ap, append-nil, false, sym, true, ℕ, ◌++◌, ◌∙◌, ◌≡◌}
use Rattle.tl_dom_spec.specs.HtmlForest.{HtmlForest}
use Rattle.tl_dom_spec.specs.HtmlTree.{Context}
use Rattle.tl_dom_spec.specs.Partial.{is_flow_context, whole, without_numbers}
use Rattle.tl_html_print.proofs.BuiltAgain.{built_joined}
use Rattle.tl_html_print.proofs.Reread.{print_read}
use Rattle.tl_html_print.specs.Again.{built_in}
use Rattle.tl_html_print.specs.ReadAgain.{tokens_of_trees}
use Rattle.tl_html_print.specs.Serialized.{serialized}
use Rattle.tl_html_spec.specs.HtmlTokenizer.{data_state}
use Rattle.tl_html_spec.specs.Reader.{at, tokens_of}
use Rattle.tl_tree_safe.proofs.ListedTokens.{tokens_listed}
use Rattle.tl_tree_safe.proofs.Own.{AreOwn, fitted-own, kept-own}
use Rattle.tl_tree_safe.proofs.Partial.{joined-own, joined-same, partial, settled-stay, whole-same}
use Rattle.tl_tree_safe.proofs.Readable.{can_be, low}
use Rattle.tl_tree_safe.proofs.SettledTrees.{fitted_settled}
use Rattle.tl_tree_safe.specs.Fitted.{at_top}
use Rattle.tl_tree_safe.specs.Joined.{texts_joined}
use Rattle.tl_tree_safe.specs.Kept.{kept}
use Rattle.tl_tree_safe.specs.KeptFitted.{kept_fitted}
use Rattle.tl_tree_safe.specs.Listed.{are_listed}
use Rattle.tl_tree_safe.specs.Lists.{ListedWords, lists_words}
use Rattle.tl_tree_safe.specs.OwnKeys.{HaveOwnKeys}
use Rattle.tl_tree_safe.specs.Settled.{settled}

pub own : (p : ListedWords) (trees : HtmlForest) → lists_words p ≡ true → HaveOwnKeys trees → AreOwn p (kept_fitted p trees)
own p trees l h = fitted-own p at_top (kept p trees) (kept-own p trees l h)

pub stands : (p : ListedWords) (trees : HtmlForest) → settled at_top (kept_fitted p trees) ≡ true
stands p trees = fitted_settled at_top (kept p trees)

pub read : (p : ListedWords) (trees : HtmlForest) (rest : List ℕ) → lists_words p ≡ true → HaveOwnKeys trees →
    tokens_of (at data_state) (serialized false None (kept_fitted p trees) ++ rest) ≡ tokens_of_trees (kept_fitted p trees) ++ tokens_of (at data_state) rest
read p trees rest l h = print_read (kept_fitted p trees) rest (can_be p at_top (kept_fitted p trees) l (own p trees l h) (stands p trees))

pub built : (context : Context) (v : Bool) (p : ListedWords) (trees : HtmlForest) → is_flow_context context ≡ true → lists_words p ≡ true → HaveOwnKeys trees →
    without_numbers (built_in context v (serialized false None (kept_fitted p trees))) ≡ without_numbers (texts_joined (kept_fitted p trees))
built context v p trees flow l h =
    let f = kept_fitted p trees in
    let o = own p trees l h in
    let s = stands p trees in
    built_joined context flow v f (partial f) (sym (whole-same p f o)) (can_be p at_top f l o s) (low p f l o) (settled-stay at_top f s)
    ∙ ap whole (sym (joined-same f))
    ∙ whole-same p (texts_joined f) (joined-own p f o)

pub listed : (p : ListedWords) (trees : HtmlForest) → lists_words p ≡ true → HaveOwnKeys trees →
    are_listed p (tokens_of (at data_state) (serialized false None (kept_fitted p trees))) ≡ true
listed p trees l h =
    ap (λ (bytes : List ℕ). are_listed p (tokens_of (at data_state) bytes)) (sym (append-nil (serialized false None (kept_fitted p trees))))
    ∙ ap (are_listed p) (read p trees [] l h ∙ append-nil (tokens_of_trees (kept_fitted p trees)))
    ∙ tokens_listed p (kept_fitted p trees) l (own p trees l h)
