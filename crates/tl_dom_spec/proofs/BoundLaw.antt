-- `bound` suffices for each token of a page or a fragment.
use Rattle.std.proofs.Common.{List, [], codes, false, inl, inr, map, refl, sym, true, true≢false, ℕ, ◌∙◌, ◌∷◌, ◌≡◌, Some, suc}
use Rattle.std.specs.Prelude.{⊤}
use Rattle.std.proofs.lemmas.Bool.{cases_Bool}
use Rattle.tl_html_spec.specs.Balanced.{words}
use Rattle.tl_html_spec.specs.Driven.{Emission, doctype_of, plain}
use Rattle.tl_html_spec.specs.HtmlTokenizer.{Character, CommentToken, DoctypeToken, EndTag, HtmlAttribute, HtmlToken, StartTag}
use Rattle.tl_dom_spec.specs.Tags.{html_tag, is_any}
use Rattle.tl_dom_spec.specs.Groups.{group}
use Rattle.tl_dom_spec.specs.Builder.{Flags, Token}
use Rattle.tl_dom_spec.specs.Dispatcher.{marks_behind, numbered, tokens_done}
use Rattle.tl_dom_spec.specs.Driver.{emitted_token, token_of}
use Rattle.tl_dom_spec.specs.HtmlTree.{Context, fragment_start, page_start}
use Rattle.tl_dom_spec.specs.Lawful.{IsDoneWith, all_numbered}
use Rattle.tl_dom_spec.proofs.Words.{any_word}
use Rattle.tl_dom_spec.proofs.Allowed.{Allowed, Each}
use Rattle.tl_dom_spec.proofs.HeadRules.{Allows, Starts, is_listed_group}
use Rattle.tl_dom_spec.proofs.DispatcherRules.{fragment_start-Holds, page_start-Holds, tokens-Holds}
use Rattle.tl_dom_spec.proofs.TextLaw.{anything}
use Rattle.tl_dom_spec.proofs.Bound.{bound_suffices}

abbrev grouped : Allowed
grouped = record anything { Grouped = ⊤ }

-- what is listed is none of these
not_any : (names name : List ℕ) (attributes : List HtmlAttribute) → Each (λ word. is_listed_group (group word) ≡ false) (words names) →
    is_listed_group (group name) ≡ true → is_any names (html_tag name attributes) ≡ false
not_any names name attributes k e = elim (cases_Bool (is_any names (html_tag name attributes))) [
  | inl y ↦ (
      let f = any_word (λ word. is_listed_group (group word) ≡ false) (words names) name k y in
      absurd (true≢false (sym e ∙ f)))
  | inr n ↦ n
]

grouped_start : (n : ℕ) (name : List ℕ) (attributes : List HtmlAttribute) → Starts grouped (group name) (record (html_tag name attributes) { source = Some n })
grouped_start n name attributes = record {
  opens = λ _. tt;
  alone = tt;
  image = λ _. tt;
  math = λ _. tt;
  svg = λ _. tt;
  foreign = λ _ _ _. tt;
  more = λ _. tt;
  inside = λ _. tt;
  scripted = λ _. tt;
  after = tt;
  listed = λ _ e. (not_any (codes "table") name attributes (refl, tt) e, not_any (codes "template") name attributes (refl, tt) e);
}

grouped_token : (n : ℕ) (token : HtmlToken) → Allows grouped (numbered n (token_of token))
grouped_token n (Character c) = tt
grouped_token n (StartTag name attributes closes) = grouped_start n name attributes
grouped_token n (EndTag name) = tt
grouped_token n (CommentToken bytes) = tt
grouped_token n DoctypeToken = tt

grouped_emissions : (n : ℕ) (emissions : List Emission) → Each (Allows grouped) (all_numbered n (map emitted_token emissions))
grouped_emissions n [] = tt
grouped_emissions n (plain token ∷ emissions) = (grouped_token n token, grouped_emissions (marks_behind n (token_of token)) emissions)
grouped_emissions n (doctype_of own ∷ emissions) = (tt, grouped_emissions (suc n) emissions)

pub page_done : (flags : Flags) (emissions : List Emission) (token : Token) → IsDoneWith (tokens_done (page_start flags) (map emitted_token emissions)) token
page_done flags emissions token =
    let held = tokens-Holds grouped (page_start flags) (map emitted_token emissions) (grouped_emissions 0 emissions) (λ _ _. tt) (page_start-Holds grouped flags tt tt tt) in
    bound_suffices token (tokens_done (page_start flags) (map emitted_token emissions)) (held.1 tt)

pub fragment_done : (flags : Flags) (context : Context) (emissions : List Emission) (token : Token) → IsDoneWith (tokens_done (fragment_start flags context) (map emitted_token emissions)) token
fragment_done flags context emissions token =
    let held = tokens-Holds grouped (fragment_start flags context) (map emitted_token emissions) (grouped_emissions 0 emissions) (λ _ _. tt) (fragment_start-Holds grouped flags context tt tt tt tt) in
    bound_suffices token (tokens_done (fragment_start flags context) (map emitted_token emissions)) (held.1 tt)
