-- Of the trees of pages and of fragments: names, keys, values, comments and doctypes can be read again.
use Rattle.std.proofs.Common.{List, Some, [], codes, inl, inr, map, refl, subst, suc, sym, true, ℕ, ◌&&◌, ◌∷◌, ◌≡◌}
use Rattle.std.specs.Prelude.{⊤}
use Rattle.std.specs.Str.{bytes_eq}
use Rattle.std.proofs.lemmas.Bool.{cond_both}
use Rattle.tl_names.specs.Elements.{is_among, rcdata_names}
use Rattle.tl_html_print.proofs.PageComments.{IsWritten}
use Rattle.tl_html_print.proofs.PageEmissions.{AreFitEmissions, IsFitDoctype, driven_fits}
use Rattle.tl_html_print.proofs.PageTags.{IsWrittenTag, OfHtml, bare_written, foreign_named, foreign_tag_written, html_tag_written, more_written}
use Rattle.tl_html_print.proofs.PageTokens.{Holds as HoldsState, after_start}
use Rattle.tl_html_print.specs.ReadAgain.{is_name, lowered}
use Rattle.tl_html_spec.specs.Driven.{Emission, doctype_of, driven_tokens, driving, in_state, plain}
use Rattle.tl_html_spec.specs.HtmlTokenizer.{Character, CommentToken, DoctypeToken, EndTag, StartTag, State, data_state, without_mark}
use Rattle.tl_dom_spec.specs.Tags.{Tag, html_tag, is_html, math_space, svg_space}
use Rattle.tl_dom_spec.specs.Groups.{Group, group}
use Rattle.tl_dom_spec.specs.Builder.{Builder, Flags, Token, a_character, a_comment, a_doctype, a_start, an_end, end_of_file, state_inside}
use Rattle.tl_dom_spec.specs.Adjusted.{foreign_name}
use Rattle.tl_dom_spec.specs.Dispatcher.{numbered}
use Rattle.tl_dom_spec.specs.Driver.{builder, emitted_token}
use Rattle.tl_dom_spec.specs.HtmlForest.{HtmlForest, comment, doctype, element, no_trees, text}
use Rattle.tl_dom_spec.specs.HtmlTree.{Context, context_state, fragment_start, html_fragment_by, html_tree_by, is_raw_in, page_start}
use Rattle.tl_dom_spec.specs.Lawful.{EachComment, EachDoctype, EachElement, all_numbered}
use Rattle.tl_dom_spec.proofs.Allowed.{Allowed, Each}
use Rattle.tl_dom_spec.proofs.DispatcherRules.{fragment_start-Holds, page_start-Holds, token-Holds}
use Rattle.tl_dom_spec.proofs.HeadRules.{Allows, Starts}
use Rattle.tl_dom_spec.proofs.Kept.{Holds}
use Rattle.tl_dom_spec.proofs.TextLaw.{anything}
use Rattle.tl_dom_spec.proofs.TreesFollow.{Follows, Owned, fragment-Follows, fragment_is, page-Follows, page_is}

-- what may be put into trees
abbrev written : Allowed
written = record {
  Opens = IsWrittenTag;
  Stands = IsWrittenTag;
  Says = λ _. ⊤;
  Notes = λ own. IsWritten own.said;
  Types = λ own. IsFitDoctype own.said;
  Gaps = λ _. ⊤;
  Adds = OfHtml;
  Reads = λ _. ⊤;
  Around = λ _. ⊤;
  Scripts = λ _. ⊤;
  Exceeds = λ _. ⊤;
  Grouped = ⊥;
  Whole = ⊤;
  stands = λ _ s. s;
  headed = λ _ _ s. s;
  adds = λ own more o a. more_written own more o a;
  grows = λ _ _ _ _. tt;
  html = bare_written (codes "html") refl refl;
  head = bare_written (codes "head") refl refl;
  body = bare_written (codes "body") refl refl;
  paragraph = bare_written (codes "p") refl refl;
  column_group = bare_written (codes "colgroup") refl refl;
  table_body = bare_written (codes "tbody") refl refl;
  row = bare_written (codes "tr") refl refl;
  line_break = bare_written (codes "br") refl refl;
  replaced = (tt, (tt, (tt, tt)));
  data_read = tt;
}

written_start : (g : Group) (t : Tag) → is_name t.name ≡ true → lowered t.name ≡ t.name → OfHtml t.attributes → Starts written g t
written_start g t h l k = record {
  opens = λ _. html_tag_written t h l k;
  alone = html_tag_written t h l k;
  image = λ _. html_tag_written (record t { name = codes "img" }) refl refl k;
  math = λ _. foreign_tag_written math_space t refl h k;
  svg = λ _. foreign_tag_written svg_space t refl h k;
  foreign = λ own e _. foreign_tag_written own.space (record t { name = foreign_name own.space t.name }) e (foreign_named own.space t.name h) k;
  more = λ _. k;
  inside = λ _. tt;
  scripted = λ _. tt;
  after = tt;
  listed = λ y _. absurd y;
}

written_tokens : (n : ℕ) (es : List Emission) → AreFitEmissions es → Each (Allows written) (all_numbered n (map emitted_token es))
written_tokens n [] h = tt
written_tokens n (plain (Character c) ∷ es) h = (tt, written_tokens n es h.1)
written_tokens n (plain (StartTag name attributes closes) ∷ es) h = (
  written_start (group name) (record (html_tag name attributes) { source = Some n }) h.0.0.0 h.0.0.1 (record { own = attributes; are = refl; fit = h.0.1 }),
  written_tokens (suc n) es h.1,
)
written_tokens n (plain (EndTag name) ∷ es) h = (tt, written_tokens (suc n) es h.1)
written_tokens n (plain (CommentToken bytes) ∷ es) h = (h.0, written_tokens (suc n) es h.1)
written_tokens n (plain DoctypeToken ∷ es) h = (refl, written_tokens (suc n) es h.1)
written_tokens n (doctype_of own ∷ es) h = (h.0, written_tokens (suc n) es h.1)

-- the tokenizer is set to states alone in which no tag, comment or doctype is begun
abbrev reading : Allowed
reading = record anything { Reads = HoldsState; data_read = tt }

inside_holds : (name : List ℕ) → HoldsState (state_inside name)
inside_holds name = cond_both (bytes_eq (codes "noscript") name) _ _ HoldsState (λ _. tt) (λ _. after_start name)

reading_start : (g : Group) (t : Tag) → Starts reading g t
reading_start g t = record {
  opens = λ _. tt;
  alone = tt;
  image = λ _. tt;
  math = λ _. tt;
  svg = λ _. tt;
  foreign = λ _ _ _. tt;
  more = λ _. tt;
  inside = λ _. inside_holds t.name;
  scripted = λ _. inside_holds t.name;
  after = after_start t.name;
  listed = λ y _. absurd y;
}

reading_token : (token : Token) → Allows reading token
reading_token (a_character c) = tt
reading_token (a_start g t closes) = reading_start g t
reading_token (an_end g name) = tt
reading_token (a_comment bytes) = tt
reading_token (a_doctype own) = tt
reading_token end_of_file = tt

fits_from : (b : Builder) (state : State) (bytes : List ℕ) → Holds reading b → HoldsState state → AreFitEmissions (driven_tokens builder (driving b (in_state state)) bytes)
fits_from b state bytes h s =
    driven_fits builder (Holds reading) (λ b e h. token-Holds reading b (emitted_token e) (reading_token (numbered b.marks (emitted_token e))) tt h) (λ b h. h.0.3.state)
    (driving b (in_state state)) bytes h s

context_holds : (flags : Flags) (tag : Tag) → HoldsState (context_state flags tag)
context_holds flags tag =
    cond_both (is_html tag && is_among rcdata_names tag.name) _ _ HoldsState (λ _. tt)
    (λ _. cond_both (is_html tag && is_raw_in flags tag) _ _ HoldsState (λ _. tt) (λ _. tt))

-- Trees of such tags, comments and doctypes

abbrev pub AreWritten : HtmlForest → Type 0
AreWritten no_trees = ⊤
AreWritten (text bytes more) = AreWritten more
AreWritten (comment own more) = IsWritten own.said × AreWritten more
AreWritten (doctype own more) = IsFitDoctype own.said × AreWritten more
AreWritten (element tag below more) = IsWrittenTag tag × AreWritten below × AreWritten more

own_tag : (tag : Tag) (below : HtmlForest) → Owned written tag below → IsWrittenTag tag
own_tag tag below (inl o) = o
own_tag tag below (inr s) = s.0

put_together : (trees : HtmlForest) → EachElement (Owned written) trees → EachComment (λ own. IsWritten own.said) trees → EachDoctype (λ own. IsFitDoctype own.said) trees → AreWritten trees
put_together no_trees e c d = tt
put_together (text bytes more) e c d = put_together more e c d
put_together (comment bytes more) e c d = (c.0, put_together more e c.1 d)
put_together (doctype own more) e c d = (d.0, put_together more e c d.1)
put_together (element tag below more) e c d = (own_tag tag below e.0, put_together below e.1 c.0 d.0, put_together more e.2 c.1 d.1)

of_follows : (trees : HtmlForest) → Follows written trees → AreWritten trees
of_follows trees f = put_together trees f.elements f.comments f.doctypes

pub page_written : (flags : Flags) (page : List ℕ) → AreWritten (html_tree_by flags page).trees
page_written flags page =
    let es = driven_tokens builder (driving (page_start flags) (in_state data_state)) (without_mark page) in
    let fit = fits_from (page_start flags) data_state (without_mark page) (page_start-Holds reading flags tt tt tt) tt in
    subst (λ d. AreWritten d.trees) (sym (page_is flags page)) (of_follows _ (page-Follows written flags (map emitted_token es) tt tt (written_tokens 0 es fit) (λ _ _. tt)))

pub fragment_written : (flags : Flags) (context : Context) (bytes : List ℕ) → AreWritten (html_fragment_by flags context bytes)
fragment_written flags context bytes =
    let state = context_state flags context.tag in
    let es = driven_tokens builder (driving (fragment_start flags context) (in_state state)) bytes in
    let fit = fits_from (fragment_start flags context) state bytes (fragment_start-Holds reading flags context tt tt tt tt) (context_holds flags context.tag) in
    subst AreWritten (sym (fragment_is flags context bytes)) (of_follows _ (fragment-Follows written flags context (map emitted_token es) tt tt tt (written_tokens 0 es fit) (λ _ _. tt)))
