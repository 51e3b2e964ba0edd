-- A print is put into a page.
use Rattle.std.proofs.Common.{List, None, ap, false, subst, sym, true, ℕ, ◌∙◌, ◌≡◌}
use Rattle.tl_dom_spec.specs.Builder as B
use Rattle.tl_dom_spec.specs.HtmlForest.{HtmlForest}
use Rattle.tl_dom_spec.specs.Partial.{whole}
use Rattle.tl_html_print.specs.Serialized.{serialized}
use Rattle.tl_html_spec.specs.HtmlTokenizer.{HtmlToken, data_state}
use Rattle.tl_html_spec.specs.Reader.{at, tokens_of}
use Rattle.tl_tree_safe.proofs.OpenPlaces.{tokens_are}
use Rattle.tl_tree_safe.proofs.FilledLaw.{filled-page}
use Rattle.tl_tree_safe.proofs.PageLaw.{puts, puts_into_page}
use Rattle.tl_tree_safe.proofs.Partial.{joined-own, joined-same, partial, settled-stay, whole-same}
use Rattle.tl_tree_safe.proofs.Safe as safe
use Rattle.tl_tree_safe.specs.Fitted.{at_top}
use Rattle.tl_tree_safe.specs.Joined.{texts_joined}
use Rattle.tl_tree_safe.specs.KeptFitted.{kept_fitted}
use Rattle.tl_tree_safe.specs.Lists.{ListedWords, lists_words}
use Rattle.tl_tree_safe.specs.OfPages.{IsFilledIn, IsPutIntoPage, PutsInto, begun, is_free_in, is_open_here}
use Rattle.tl_tree_safe.specs.OwnKeys.{HaveOwnKeys}

pub put_there : (b : B.Builder) (p : ListedWords) (trees : HtmlForest) → HaveOwnKeys trees → lists_words p ≡ true → is_open_here b ≡ true →
    PutsInto b (tokens_of (at data_state) (serialized false None (kept_fitted p trees))) (texts_joined (kept_fitted p trees))
put_there b p trees h l o =
    let f = kept_fitted p trees in
    let own = safe.own p trees l h in
    subst (λ (ts : List HtmlToken). PutsInto b ts (texts_joined f)) (sym (tokens_are p trees l h))
    (puts b (partial f) (texts_joined f) o (settled-stay at_top f (safe.stands p trees)) (ap whole (sym (joined-same f)) ∙ whole-same p (texts_joined f) (joined-own p f own)))

pub put_into_page : (flags : B.Flags) (front back : List HtmlToken) (p : ListedWords) (trees : HtmlForest) → HaveOwnKeys trees → lists_words p ≡ true → is_open_here (begun flags front) ≡ true →
    IsPutIntoPage flags front (tokens_of (at data_state) (serialized false None (kept_fitted p trees))) back (texts_joined (kept_fitted p trees))
put_into_page flags front back p trees h l o =
    puts_into_page flags front (tokens_of (at data_state) (serialized false None (kept_fitted p trees))) back (texts_joined (kept_fitted p trees)) (put_there (begun flags front) p trees h l o)

pub put_filled : (flags : B.Flags) (front back : List HtmlToken) (p : ListedWords) (trees : HtmlForest) (mark : ℕ) → HaveOwnKeys trees → lists_words p ≡ true → is_open_here (begun flags front) ≡ true → is_free_in mark (begun flags front) ≡ true →
    IsFilledIn flags front (tokens_of (at data_state) (serialized false None (kept_fitted p trees))) back (texts_joined (kept_fitted p trees)) mark
put_filled flags front back p trees mark h l o free =
    let f = kept_fitted p trees in
    let own = safe.own p trees l h in
    subst (λ (ts : List HtmlToken). IsFilledIn flags front ts back (texts_joined f) mark) (sym (tokens_are p trees l h))
    (filled-page flags front back (partial f) (texts_joined f) mark o (settled-stay at_top f (safe.stands p trees)) free (ap whole (sym (joined-same f)) ∙ whole-same p (texts_joined f) (joined-own p f own)))
