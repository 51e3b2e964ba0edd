-- The numbers of marks that nodes have are those of marks that were taken.
use Rattle.std.proofs.Common.{List, None, Option, Some, [], ap, arith, le_refl, subst, suc, sym, ℕ, ◌<◌, ◌∙◌, ◌∷◌, ◌≡◌, ◌≤◌, inl, inr}
use Rattle.std.specs.Prelude.{⊤}
use Rattle.tl_html_spec.specs.Driven.{driven_tokens, driving, in_state}
use Rattle.tl_html_spec.specs.HtmlTokenizer.{data_state, without_mark}
use Rattle.tl_html_spec.proofs.Driving.{text_driven}
use Rattle.tl_dom_spec.specs.Tags.{Tag}
use Rattle.tl_dom_spec.specs.Groups.{Group}
use Rattle.tl_dom_spec.specs.Builder.{Builder, Flags, Token, a_character, a_comment, a_doctype, a_start, an_end, end_of_file}
use Rattle.tl_dom_spec.specs.Dispatcher.{marks_behind, numbered}
use Rattle.tl_dom_spec.specs.Driver.{builder}
use Rattle.tl_dom_spec.specs.HtmlForest.{HtmlForest}
use Rattle.tl_dom_spec.specs.HtmlTree.{Context, context_state, fragment_read, fragment_start, html_fragment_by, html_tree_by, page_read, page_start}
use Rattle.tl_dom_spec.specs.Lawful.{AreNumberedBelow, IsBelow, all_numbered, fragment_built, page_built, tokens_of_fragment, tokens_of_page}
use Rattle.tl_dom_spec.proofs.Allowed.{Allowed, Each, IfSome, IsText}
use Rattle.tl_dom_spec.proofs.HeadRules.{Allows, Starts}
use Rattle.tl_dom_spec.proofs.DispatcherRules.{after-least, marks_after, marks_are}
use Rattle.tl_dom_spec.proofs.TreesFollow.{Follows, Owned, fragment-Follows, fragment_is, page-Follows, page_is, taken_tokens}
use Rattle.tl_dom_spec.proofs.TextLaw.{elements-weaken, texts-weaken}

-- what numbers allow of trees: those of elements, of comments, of doctypes, and before texts
abbrev pub by_numbers : (ℕ → Type 0) → (ℕ → Type 0) → (ℕ → Type 0) → (ℕ → Type 0) → Allowed
by_numbers Started Noted Typed Passed = record {
  Opens = λ t. IfSome Started t.source;
  Stands = λ t. IfSome Started t.source;
  Says = λ _. ⊤;
  Notes = λ own. Noted own.source;
  Types = λ own. Typed own.source;
  Gaps = Passed;
  Adds = λ _. ⊤;
  Reads = λ _. ⊤;
  Around = λ _. ⊤;
  Scripts = λ _. ⊤;
  Exceeds = λ _. ⊤;
  Grouped = ⊥;
  Whole = ⊤;
  stands = λ _ s. s;
  headed = λ _ _ s. s;
  adds = λ _ _ o _. o;
  grows = λ _ _ _ _. tt;
  html = tt;
  head = tt;
  body = tt;
  paragraph = tt;
  column_group = tt;
  table_body = tt;
  row = tt;
  line_break = tt;
  replaced = (tt, (tt, (tt, tt)));
  data_read = tt;
}

pub number_start : (Started Noted Typed Passed : ℕ → Type 0) (g : Group) (t : Tag) → IfSome Started t.source → Starts (by_numbers Started Noted Typed Passed) g t
number_start Started Noted Typed Passed g t s = record {
  opens = λ _. s;
  alone = s;
  image = λ _. s;
  math = λ _. s;
  svg = λ _. s;
  foreign = λ _ _ _. s;
  more = λ _. tt;
  inside = λ _. tt;
  scripted = λ _. tt;
  after = tt;
  listed = λ y _. absurd y;
}

-- each number is one of so many
abbrev below : ℕ → Allowed
below count = by_numbers (λ n. n < count) (λ n. n < count) (λ n. n < count) (λ n. n ≤ count)

less : (n m k : ℕ) → suc n ≤ m → m ≤ k → n < k
less n m k h l = omega (arith, h, l)

one_below : (count n : ℕ) (token : Token) → marks_behind n token ≤ count → Allows (below count) (numbered n token)
one_below count n (a_character c) h = tt
one_below count n (a_start g t closes) h = number_start _ _ _ _ g (record t { source = Some n }) (less n (suc n) count (le_refl (suc n)) h)
one_below count n (an_end g name) h = tt
one_below count n (a_comment own) h = less n (suc n) count (le_refl (suc n)) h
one_below count n (a_doctype own) h = less n (suc n) count (le_refl (suc n)) h
one_below count n end_of_file h = tt

tokens_below : (count n : ℕ) (tokens : List Token) → marks_after n tokens ≤ count → Each (Allows (below count)) (all_numbered n tokens)
tokens_below count n [] h = tt
tokens_below count n (token ∷ tokens) h =
    let next : ℕ = marks_behind n token in
    let least = after-least next tokens in
    (one_below count n token (omega (arith, least, h)), tokens_below count next tokens h)

of_some : (count : ℕ) (source : Option ℕ) → IfSome (λ n. n < count) source → IsBelow count source
of_some count None h = tt
of_some count (Some n) h = h

own_below : (count : ℕ) (tag : Tag) (inner : HtmlForest) → Owned (below count) tag inner → IsBelow count tag.source
own_below count tag inner (inl o) = of_some count tag.source o
own_below count tag inner (inr s) = of_some count tag.source s.0

below_of : (count : ℕ) (trees : HtmlForest) → Follows (below count) trees → AreNumberedBelow count trees
below_of count trees f = record {
  elements = elements-weaken (Owned (below count)) (λ tag inner. IsBelow count tag.source) trees (own_below count) f.elements;
  texts = texts-weaken (IsText (below count)) (λ own. own.source ≤ count) trees (λ own t. t.1) f.texts;
  comments = f.comments;
  doctypes = f.doctypes;
}

pub page_numbers : (flags : Flags) (page : List ℕ) → AreNumberedBelow (page_read flags page).marks (html_tree_by flags page).trees
page_numbers flags page =
    let tokens = tokens_of_page flags page in
    let count : ℕ = marks_after 0 tokens in
    let is : (page_read flags page).marks ≡ count =
    ap (λ (b : Builder). b.marks)
    (text_driven builder (page_start flags) (in_state data_state) (without_mark page)
    ∙ taken_tokens (page_start flags) (driven_tokens builder (driving (page_start flags) (in_state data_state)) (without_mark page)))
    ∙ marks_are (page_start flags) tokens in
    subst (λ n. AreNumberedBelow n (html_tree_by flags page).trees) (sym is)
    (subst (λ d. AreNumberedBelow count d.trees) (sym (page_is flags page))
    (below_of count (page_built flags tokens).trees (page-Follows (below count) flags tokens tt tt (tokens_below count 0 tokens (le_refl count)) (λ n h. h))))

pub fragment_numbers : (flags : Flags) (context : Context) (bytes : List ℕ) → AreNumberedBelow (fragment_read flags context bytes).marks (html_fragment_by flags context bytes)
fragment_numbers flags context bytes =
    let tokens = tokens_of_fragment flags context bytes in
    let count : ℕ = marks_after 0 tokens in
    let is : (fragment_read flags context bytes).marks ≡ count =
    ap (λ (b : Builder). b.marks)
    (text_driven builder (fragment_start flags context) (in_state (context_state flags context.tag)) bytes
    ∙ taken_tokens (fragment_start flags context) (driven_tokens builder (driving (fragment_start flags context) (in_state (context_state flags context.tag))) bytes))
    ∙ marks_are (fragment_start flags context) tokens in
    subst (λ n. AreNumberedBelow n (html_fragment_by flags context bytes)) (sym is)
    (subst (AreNumberedBelow count) (sym (fragment_is flags context bytes))
    (below_of count (fragment_built flags context tokens) (fragment-Follows (below count) flags context tokens tt tt tt (tokens_below count 0 tokens (le_refl count)) (λ n h. h))))
