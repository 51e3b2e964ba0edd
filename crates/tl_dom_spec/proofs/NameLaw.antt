-- The name of no element is empty.
use Rattle.std.proofs.Common.{List, [], codes, inl, inr, map, subst, sym, true, true≢false, ℕ, ◌&&◌, ◌∷◌, ◌≡◌, Some, suc}
use Rattle.std.specs.Prelude.{⊤}
use Rattle.std.specs.Char.{to_ascii_lowercase}
use Rattle.std.specs.Str.{bytes_eq}
use Rattle.std.proofs.lemmas.Bool.{cond_both}
use Rattle.tl_html_spec.proofs.Emits.{page_sound}
use Rattle.tl_names.specs.Elements.{is_among, rcdata_names}
use Rattle.tl_html_spec.specs.Driven.{driven_tokens, driving, in_state}
use Rattle.tl_html_spec.specs.HtmlTokenizer.{Character, CommentToken, DoctypeToken, EndTag, HtmlToken, StartTag, State, data_state, html_tokens, without_mark}
use Rattle.tl_html_spec.specs.Balanced.{words}
use Rattle.tl_html_spec.specs.Sound.{AreSound, IsSome}
use Rattle.tl_dom_spec.specs.Tags.{Namespace, Tag, html_space, is_html, math_space, svg_space}
use Rattle.tl_dom_spec.specs.Groups.{Group}
use Rattle.tl_dom_spec.specs.Builder.{Builder, Flags, Token, a_character, a_comment, a_doctype, a_start, an_end, end_of_file, state_inside}
use Rattle.tl_dom_spec.specs.Adjusted.{cased, foreign_name, svg_names}
use Rattle.tl_dom_spec.specs.Driver.{builder, emitted_token, token_of}
use Rattle.tl_dom_spec.specs.HtmlForest.{HtmlForest}
use Rattle.tl_dom_spec.specs.HtmlTree.{Context, context_state, fragment_start, html_fragment_by, html_tree_by, is_raw_in, page_start, tree_of_tokens}
use Rattle.tl_dom_spec.specs.Lawful.{AreNamed, HaveNames, all_numbered, fragment_built, page_built, tokens_of_fragment, tokens_of_page}
use Rattle.tl_dom_spec.proofs.Allowed.{Allowed, Each}
use Rattle.tl_dom_spec.proofs.HeadRules.{Allows, Starts}
use Rattle.tl_dom_spec.proofs.TreesFollow.{Follows, Owned, fragment-Follows, fragment_is, page-Follows, page_is}
use Rattle.tl_dom_spec.proofs.TextLaw.{anything, elements-weaken}
use Rattle.tl_dom_spec.proofs.Kept.{Holds}
use Rattle.tl_dom_spec.proofs.DispatcherRules.{fragment_start-Holds, page_start-Holds, token-Holds}
use Rattle.tl_dom_spec.proofs.StartNames.{IsNamed, after_named, driven_names}
use Rattle.tl_dom_spec.specs.Dispatcher.{numbered}

word_some : (name word : List ℕ) → bytes_eq name (map to_ascii_lowercase word) ≡ true → IsSome name → IsSome word
word_some name (c ∷ word) e s = tt
word_some (c ∷ name) [] e s = absurd (true≢false (sym e))
word_some [] [] e s = absurd s

cased_some : (name : List ℕ) (list : List (List ℕ)) → IsSome name → IsSome (cased name list)
cased_some name [] s = s
cased_some name (word ∷ list) s =
    cond_both (bytes_eq name (map to_ascii_lowercase word)) word (cased name list) IsSome (λ e. word_some name word e s) (λ _. cased_some name list s)

foreign_some : (space : Namespace) (name : List ℕ) → IsSome name → IsSome (foreign_name space name)
foreign_some html_space name s = s
foreign_some math_space name s = s
foreign_some svg_space name s = cased_some name (words svg_names) s

abbrev pub named : Allowed
named = record {
  Opens = λ t. IsSome t.name;
  Stands = λ t. IsSome t.name;
  Says = λ _. ⊤;
  Notes = λ _. ⊤;
  Types = λ _. ⊤;
  Gaps = λ _. ⊤;
  Adds = λ _. ⊤;
  Reads = λ _. ⊤;
  Around = λ _. ⊤;
  Scripts = λ _. ⊤;
  Exceeds = λ _. ⊤;
  Grouped = ⊥;
  Whole = ⊤;
  stands = λ _ s. s;
  headed = λ _ _ s. s;
  adds = λ _ _ s _. s;
  grows = λ _ _ _ _. tt;
  html = tt;
  head = tt;
  body = tt;
  paragraph = tt;
  column_group = tt;
  table_body = tt;
  row = tt;
  line_break = tt;
  replaced = (tt, (tt, (tt, tt)));
  data_read = tt;
}

named_start : (g : Group) (t : Tag) → IsSome t.name → Starts named g t
named_start g t s = record {
  opens = λ _. s;
  alone = s;
  image = λ _. tt;
  math = λ _. s;
  svg = λ _. s;
  foreign = λ own _ _. foreign_some own.space t.name s;
  more = λ _. tt;
  inside = λ _. tt;
  scripted = λ _. tt;
  after = tt;
  listed = λ y _. absurd y;
}

pub named_tokens : (n : ℕ) (tokens : List Token) → HaveNames tokens → Each (Allows named) (all_numbered n tokens)
named_tokens n [] s = tt
named_tokens n (a_character c ∷ tokens) s = (tt, named_tokens n tokens s)
named_tokens n (a_start g t closes ∷ tokens) s = (named_start g (record t { source = Some n }) s.0, named_tokens (suc n) tokens s.1)
named_tokens n (an_end g name ∷ tokens) s = (tt, named_tokens (suc n) tokens s)
named_tokens n (a_comment bytes ∷ tokens) s = (tt, named_tokens (suc n) tokens s)
named_tokens n (a_doctype own ∷ tokens) s = (tt, named_tokens (suc n) tokens s)
named_tokens n (end_of_file ∷ tokens) s = (tt, named_tokens n tokens s)

pub sound_names : (tokens : List HtmlToken) → AreSound tokens → HaveNames (map token_of tokens)
sound_names [] s = tt
sound_names (Character c ∷ tokens) s = sound_names tokens s.1
sound_names (StartTag name attributes closes ∷ tokens) s = (s.0.0, sound_names tokens s.1)
sound_names (EndTag name ∷ tokens) s = sound_names tokens s.1
sound_names (CommentToken bytes ∷ tokens) s = sound_names tokens s.1
sound_names (DoctypeToken ∷ tokens) s = sound_names tokens s.1

some_name : (tag : Tag) (below : HtmlForest) → Owned named tag below → IsSome tag.name
some_name tag below (inl o) = o
some_name tag below (inr s) = s.0

pub names_of : (trees : HtmlForest) → Follows named trees → AreNamed trees
names_of trees f = elements-weaken (Owned named) (λ tag below. IsSome tag.name) trees some_name f.elements

pub built_names : (flags : Flags) (tokens : List Token) → HaveNames tokens → AreNamed (page_built flags tokens).trees
built_names flags tokens s = names_of (page_built flags tokens).trees (page-Follows named flags tokens tt tt (named_tokens 0 tokens s) (λ _ _. tt))

pub built_fragment_names : (flags : Flags) (context : Context) (tokens : List Token) → HaveNames tokens → AreNamed (fragment_built flags context tokens)
built_fragment_names flags context tokens s =
    names_of (fragment_built flags context tokens) (fragment-Follows named flags context tokens tt tt tt (named_tokens 0 tokens s) (λ _ _. tt))

-- the tokenizer is set to such states alone as have nothing to do with a tag
abbrev reading : Allowed
reading = record anything { Reads = IsNamed; data_read = tt }

inside_named : (name : List ℕ) → IsNamed (state_inside name)
inside_named name = cond_both (bytes_eq (codes "noscript") name) _ _ IsNamed (λ _. tt) (λ _. after_named name)

reading_start : (g : Group) (t : Tag) → Starts reading g t
reading_start g t = record {
  opens = λ _. tt;
  alone = tt;
  image = λ _. tt;
  math = λ _. tt;
  svg = λ _. tt;
  foreign = λ _ _ _. tt;
  more = λ _. tt;
  inside = λ _. inside_named t.name;
  scripted = λ _. inside_named t.name;
  after = after_named t.name;
  listed = λ y _. absurd y;
}

reading_token : (token : Token) → Allows reading token
reading_token (a_character c) = tt
reading_token (a_start g t closes) = reading_start g t
reading_token (an_end g name) = tt
reading_token (a_comment bytes) = tt
reading_token (a_doctype own) = tt
reading_token end_of_file = tt

names_from : (b : Builder) (state : State) (text : List ℕ) → Holds reading b → IsNamed state → HaveNames (map emitted_token (driven_tokens builder (driving b (in_state state)) text))
names_from b state text h s =
    driven_names builder (Holds reading) (λ b e h. token-Holds reading b (emitted_token e) (reading_token (numbered b.marks (emitted_token e))) tt h) (λ b h. h.0.3.state)
    (driving b (in_state state)) text h s

pub page_starts : (flags : Flags) (page : List ℕ) → HaveNames (tokens_of_page flags page)
page_starts flags page = names_from (page_start flags) data_state (without_mark page) (page_start-Holds reading flags tt tt tt) tt

context_named : (flags : Flags) (tag : Tag) → IsNamed (context_state flags tag)
context_named flags tag =
    cond_both (is_html tag && is_among rcdata_names tag.name) _ _ IsNamed (λ _. tt)
    (λ _. cond_both (is_html tag && is_raw_in flags tag) _ _ IsNamed (λ _. tt) (λ _. tt))

pub fragment_starts : (flags : Flags) (context : Context) (bytes : List ℕ) → HaveNames (tokens_of_fragment flags context bytes)
fragment_starts flags context bytes =
    names_from (fragment_start flags context) (context_state flags context.tag) bytes (fragment_start-Holds reading flags context tt tt tt tt)
    (context_named flags context.tag)

pub page_names : (flags : Flags) (page : List ℕ) → AreNamed (html_tree_by flags page).trees
page_names flags page =
    subst (λ d. AreNamed d.trees) (sym (page_is flags page)) (built_names flags (tokens_of_page flags page) (page_starts flags page))

pub fragment_names : (flags : Flags) (context : Context) (bytes : List ℕ) → AreNamed (html_fragment_by flags context bytes)
fragment_names flags context bytes =
    subst AreNamed (sym (fragment_is flags context bytes))
    (built_fragment_names flags context (tokens_of_fragment flags context bytes) (fragment_starts flags context bytes))

pub names_by_name : (flags : Flags) (page : List ℕ) → AreNamed (tree_of_tokens flags (html_tokens page)).trees
names_by_name flags page = built_names flags (map token_of (html_tokens page)) (sound_names (html_tokens page) (page_sound page))
