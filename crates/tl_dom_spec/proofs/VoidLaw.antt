-- Nothing stands below a void element.
use Rattle.std.proofs.Common.{List, [], codes, false, inl, inr, map, refl, subst, sym, true, true≢false, ℕ, ◌∙◌, ◌∷◌, ◌≡◌, Some}
use Rattle.std.specs.Prelude.{⊤}
use Rattle.std.proofs.lemmas.Bool.{and_left, and_parts, and_right, cases_Bool}
use Rattle.tl_html_spec.specs.Driven.{Emission, doctype_of, driven_tokens, driving, in_state, plain}
use Rattle.tl_html_spec.specs.HtmlTokenizer.{Character, CommentToken, DoctypeToken, EndTag, HtmlAttribute, HtmlToken, StartTag, data_state, without_mark}
use Rattle.tl_html_spec.specs.Balanced.{is_one_of, words}
use Rattle.tl_dom_spec.specs.Tags.{Tag, html_tag, is_any, is_html}
use Rattle.tl_dom_spec.specs.Groups.{group}
use Rattle.tl_dom_spec.specs.Builder.{Flags}
use Rattle.tl_dom_spec.specs.Adjusted.{foreign_name}
use Rattle.tl_dom_spec.specs.Driver.{builder, emitted_token, token_of}
use Rattle.tl_dom_spec.specs.HtmlForest.{HtmlForest, no_trees}
use Rattle.tl_dom_spec.specs.HtmlTree.{Context, context_state, fragment_of_tokens, fragment_start, html_fragment_by, html_tree_by, page_start, tree_of_tokens}
use Rattle.tl_dom_spec.specs.Lawful.{AreVoidEmpty, all_numbered, fragment_built, is_void, page_built, tokens_of_fragment, tokens_of_page, void_names}
use Rattle.tl_dom_spec.proofs.Words.{any_word}
use Rattle.tl_dom_spec.proofs.Allowed.{Allowed, Each}
use Rattle.tl_dom_spec.proofs.HeadRules.{Allows, Starts, is_alone}
use Rattle.tl_dom_spec.proofs.TreesFollow.{Follows, Owned, fragment-Follows, fragment_is, page-Follows, page_is}
use Rattle.tl_dom_spec.proofs.TextLaw.{elements-weaken}
use Rattle.tl_dom_spec.specs.Dispatcher.{numbered, marks_behind}

abbrev IsAlone : List ℕ → Type 0
IsAlone name = is_alone (group name) ≡ true

-- elements of these names are inserted and popped at once
void_alone : (name : List ℕ) → is_one_of void_names name ≡ true → is_alone (group name) ≡ true
void_alone name e =
    any_word IsAlone (words void_names) name
    (refl, (refl, (refl, (refl, (refl, (refl, (refl, (refl, (refl, (refl, (refl, (refl, (refl, (refl, (refl, (refl, (refl, (refl, tt))))))))))))))))))
    e

not_void : (name : List ℕ) → is_alone (group name) ≡ false → is_one_of void_names name ≡ false
not_void name a =
    elim (cases_Bool (is_one_of void_names name)) [
      | inl y ↦ absurd (true≢false (sym (void_alone name y) ∙ a))
      | inr n ↦ n
    ]

pub head_is_no_void : (t : Tag) → is_any (codes "head") t ≡ true → is_void t ≡ false
head_is_no_void t e =
    and_right (is_html t) (is_one_of void_names t.name)
    (any_word (λ name. is_one_of void_names name ≡ false) (words (codes "head")) t.name (refl, tt)
    (and_parts (is_html t) (is_one_of (codes "head") t.name) e).1)

abbrev pub voids : Allowed
voids = record {
  Opens = λ t. is_void t ≡ false;
  Stands = λ _. ⊤;
  Says = λ _. ⊤;
  Notes = λ _. ⊤;
  Types = λ _. ⊤;
  Gaps = λ _. ⊤;
  Adds = λ _. ⊤;
  Reads = λ _. ⊤;
  Around = λ _. ⊤;
  Scripts = λ _. ⊤;
  Exceeds = λ _. ⊤;
  Grouped = ⊥;
  Whole = ⊤;
  stands = λ _ _. tt;
  headed = λ t e _. head_is_no_void t e;
  adds = λ _ _ o _. o;
  grows = λ _ _ _ _. tt;
  html = refl;
  head = refl;
  body = refl;
  paragraph = refl;
  column_group = refl;
  table_body = refl;
  row = refl;
  line_break = tt;
  replaced = (tt, (tt, (tt, tt)));
  data_read = tt;
}

pub void_start : (n : ℕ) (name : List ℕ) (attributes : List HtmlAttribute) → Starts voids (group name) (record (html_tag name attributes) { source = Some n })
void_start n name attributes = record {
  opens = λ a. not_void name a;
  alone = tt;
  image = λ _. tt;
  math = λ _. refl;
  svg = λ _. refl;
  foreign = λ own e _. and_left (is_html own) (is_one_of void_names (foreign_name own.space name)) e;
  more = λ _. tt;
  inside = λ _. tt;
  scripted = λ _. tt;
  after = tt;
  listed = λ y _. absurd y;
}

pub void_token : (n : ℕ) (token : HtmlToken) → Allows voids (numbered n (token_of token))
void_token n (Character c) = tt
void_token n (StartTag name attributes closes) = void_start n name attributes
void_token n (EndTag name) = tt
void_token n (CommentToken bytes) = tt
void_token n DoctypeToken = tt

pub void_tokens : (n : ℕ) (tokens : List HtmlToken) → Each (Allows voids) (all_numbered n (map token_of tokens))
void_tokens n [] = tt
void_tokens n (token ∷ tokens) = (void_token n token, void_tokens (marks_behind n (token_of token)) tokens)

void_emission : (n : ℕ) (e : Emission) → Allows voids (numbered n (emitted_token e))
void_emission n (plain token) = void_token n token
void_emission n (doctype_of own) = tt

void_emissions : (n : ℕ) (emissions : List Emission) → Each (Allows voids) (all_numbered n (map emitted_token emissions))
void_emissions n [] = tt
void_emissions n (e ∷ emissions) = (void_emission n e, void_emissions (marks_behind n (emitted_token e)) emissions)

nothing_below : (tag : Tag) (below : HtmlForest) → Owned voids tag below → is_void tag ≡ true → below ≡ no_trees
nothing_below tag below (inl o) v = absurd (true≢false (sym v ∙ o))
nothing_below tag below (inr s) v = s.1

pub voids_of : (trees : HtmlForest) → Follows voids trees → AreVoidEmpty trees
voids_of trees f = elements-weaken (Owned voids) (λ tag below. is_void tag ≡ true → below ≡ no_trees) trees nothing_below f.elements

pub built_voids : (flags : Flags) (tokens : List HtmlToken) → AreVoidEmpty (tree_of_tokens flags tokens).trees
built_voids flags tokens = voids_of (tree_of_tokens flags tokens).trees (page-Follows voids flags (map token_of tokens) tt tt (void_tokens 0 tokens) (λ _ _. tt))

pub built_fragment_voids : (flags : Flags) (context : Context) (tokens : List HtmlToken) → AreVoidEmpty (fragment_of_tokens flags context tokens)
built_fragment_voids flags context tokens =
    voids_of (fragment_of_tokens flags context tokens) (fragment-Follows voids flags context (map token_of tokens) tt tt tt (void_tokens 0 tokens) (λ _ _. tt))

pub page_voids : (flags : Flags) (page : List ℕ) → AreVoidEmpty (html_tree_by flags page).trees
page_voids flags page =
    let emissions : List Emission = driven_tokens builder (driving (page_start flags) (in_state data_state)) (without_mark page) in
    subst (λ d. AreVoidEmpty d.trees) (sym (page_is flags page))
    (voids_of (page_built flags (tokens_of_page flags page)).trees (page-Follows voids flags (tokens_of_page flags page) tt tt (void_emissions 0 emissions) (λ _ _. tt)))

pub fragment_voids : (flags : Flags) (context : Context) (bytes : List ℕ) → AreVoidEmpty (html_fragment_by flags context bytes)
fragment_voids flags context bytes =
    let emissions : List Emission = driven_tokens builder (driving (fragment_start flags context) (in_state (context_state flags context.tag))) bytes in
    subst AreVoidEmpty (sym (fragment_is flags context bytes))
    (voids_of (fragment_built flags context (tokens_of_fragment flags context bytes))
    (fragment-Follows voids flags context (tokens_of_fragment flags context bytes) tt tt tt (void_emissions 0 emissions) (λ _ _. tt)))
