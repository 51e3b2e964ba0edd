-- No text of a tree is empty, or beside another one.
use Rattle.std.proofs.Common.{List, [], subst, sym, ℕ, ◌∷◌}
use Rattle.std.specs.Prelude.{⊤}
use Rattle.tl_html_spec.specs.Sound.{IsSome}
use Rattle.tl_dom_spec.specs.Tags.{Tag}
use Rattle.tl_dom_spec.specs.Groups.{Group}
use Rattle.tl_dom_spec.specs.Marks.{Marked}
use Rattle.tl_dom_spec.specs.Builder.{Flags, Token, a_character, a_comment, a_doctype, a_start, an_end, end_of_file}
use Rattle.tl_dom_spec.specs.HtmlForest.{HtmlForest, comment, doctype, element, no_trees, text}
use Rattle.tl_dom_spec.specs.HtmlTree.{Context, html_fragment_by, html_tree_by}
use Rattle.tl_dom_spec.specs.Lawful.{AreTexts, EachElement, EachText, all_numbered, fragment_built, page_built, tokens_of_fragment, tokens_of_page}
use Rattle.tl_dom_spec.proofs.Allowed.{Allowed, Each, IsText}
use Rattle.tl_dom_spec.proofs.HeadRules.{Allows, Starts}
use Rattle.tl_dom_spec.proofs.TreesFollow.{Follows, fragment-Follows, fragment_is, page-Follows, page_is}

-- what holds of each node is weakened

pub elements-weaken : (P Q : Tag → HtmlForest → Type 0) (trees : HtmlForest) → ((tag : Tag) (below : HtmlForest) → P tag below → Q tag below) → EachElement P trees → EachElement Q trees
elements-weaken P Q no_trees w h = tt
elements-weaken P Q (text bytes more) w h = elements-weaken P Q more w h
elements-weaken P Q (comment bytes more) w h = elements-weaken P Q more w h
elements-weaken P Q (doctype own more) w h = elements-weaken P Q more w h
elements-weaken P Q (element tag below more) w h = (w tag below h.0, elements-weaken P Q below w h.1, elements-weaken P Q more w h.2)

pub texts-weaken : (P Q : Marked (List ℕ) → Type 0) (trees : HtmlForest) → ((bytes : Marked (List ℕ)) → P bytes → Q bytes) → EachText P trees → EachText Q trees
texts-weaken P Q no_trees w h = tt
texts-weaken P Q (text bytes more) w h = (w bytes h.0, texts-weaken P Q more w h.1)
texts-weaken P Q (comment bytes more) w h = texts-weaken P Q more w h
texts-weaken P Q (doctype own more) w h = texts-weaken P Q more w h
texts-weaken P Q (element tag below more) w h = (texts-weaken P Q below w h.0, texts-weaken P Q more w h.1)

-- texts, of any tokens

abbrev pub anything : Allowed
anything = record {
  Opens = λ _. ⊤;
  Stands = λ _. ⊤;
  Says = λ _. ⊤;
  Notes = λ _. ⊤;
  Types = λ _. ⊤;
  Gaps = λ _. ⊤;
  Adds = λ _. ⊤;
  Reads = λ _. ⊤;
  Around = λ _. ⊤;
  Scripts = λ _. ⊤;
  Exceeds = λ _. ⊤;
  Grouped = ⊥;
  Whole = ⊤;
  stands = λ _ _. tt;
  headed = λ _ _ _. tt;
  adds = λ _ _ _ _. tt;
  grows = λ _ _ _ _. tt;
  html = tt;
  head = tt;
  body = tt;
  paragraph = tt;
  column_group = tt;
  table_body = tt;
  row = tt;
  line_break = tt;
  replaced = (tt, (tt, (tt, tt)));
  data_read = tt;
}

any_start : (g : Group) (t : Tag) → Starts anything g t
any_start g t = record {
  opens = λ _. tt;
  alone = tt;
  image = λ _. tt;
  math = λ _. tt;
  svg = λ _. tt;
  foreign = λ _ _ _. tt;
  more = λ _. tt;
  inside = λ _. tt;
  scripted = λ _. tt;
  after = tt;
  listed = λ y _. absurd y;
}

pub any_token : (token : Token) → Allows anything token
any_token (a_character c) = tt
any_token (a_start g t closes) = any_start g t
any_token (an_end g name) = tt
any_token (a_comment bytes) = tt
any_token (a_doctype own) = tt
any_token end_of_file = tt

pub any_tokens : (tokens : List Token) → Each (Allows anything) tokens
any_tokens [] = tt
any_tokens (token ∷ tokens) = (any_token token, any_tokens tokens)

pub texts_of : (trees : HtmlForest) → Follows anything trees → AreTexts trees
texts_of trees f = (texts-weaken (IsText anything) (λ own. IsSome own.said) trees (λ own t. t.0.0 tt) f.texts, f.apart tt)

pub built_texts : (flags : Flags) (tokens : List Token) → AreTexts (page_built flags tokens).trees
built_texts flags tokens = texts_of (page_built flags tokens).trees (page-Follows anything flags tokens tt tt (any_tokens (all_numbered 0 tokens)) (λ _ _. tt))

pub built_fragment_texts : (flags : Flags) (context : Context) (tokens : List Token) → AreTexts (fragment_built flags context tokens)
built_fragment_texts flags context tokens =
    texts_of (fragment_built flags context tokens) (fragment-Follows anything flags context tokens tt tt tt (any_tokens (all_numbered 0 tokens)) (λ _ _. tt))

pub page_texts : (flags : Flags) (page : List ℕ) → AreTexts (html_tree_by flags page).trees
page_texts flags page =
    subst (λ d. AreTexts d.trees) (sym (page_is flags page)) (built_texts flags (tokens_of_page flags page))

pub fragment_texts : (flags : Flags) (context : Context) (bytes : List ℕ) → AreTexts (html_fragment_by flags context bytes)
fragment_texts flags context bytes =
    subst AreTexts (sym (fragment_is flags context bytes)) (built_fragment_texts flags context (tokens_of_fragment flags context bytes))
