-- All that stands in a tree comes from a token, or is put in by the standard.
use Rattle.std.proofs.Common.{Bool, List, [], codes, inl, inr, refl, subst, sym, true, true≢false, ℕ, ◌∷◌, ◌≡◌, ◌⊎◌}
use Rattle.std.specs.Prelude.{⊤}
use Rattle.tl_html_spec.specs.HtmlTokenizer.{replacement}
use Rattle.tl_dom_spec.specs.Tags.{Tag, math_space, svg_space}
use Rattle.tl_dom_spec.specs.Groups.{Group, a_math, an_image, an_svg}
use Rattle.tl_dom_spec.specs.Builder.{Flags, Token, a_character, a_comment, a_doctype, a_start, an_end, end_of_file, with_more}
use Rattle.tl_dom_spec.specs.Adjusted.{foreign_tag}
use Rattle.tl_dom_spec.specs.Dispatcher.{is_svg_start}
use Rattle.tl_dom_spec.specs.HtmlForest.{HtmlForest}
use Rattle.tl_dom_spec.specs.HtmlTree.{Context, html_fragment_by, html_tree_by}
use Rattle.tl_dom_spec.specs.Lawful.{ComeFrom, EachCharacter, IsIn, IsTagOf, adds_attributes, adjusted, all_numbered, as_image, as_math, as_svg, fragment_built, page_built, put_in, started, tokens_of_fragment, tokens_of_page, with_added}
use Rattle.tl_dom_spec.proofs.Allowed.{Allowed, Each, IsText}
use Rattle.tl_dom_spec.proofs.HeadRules.{Allows, is_image, is_math_start}
use Rattle.tl_dom_spec.proofs.TreesFollow.{Follows, Owned, fragment-Follows, fragment_is, page-Follows, page_is}
use Rattle.tl_dom_spec.proofs.TextLaw.{elements-weaken, texts-weaken}

in_front : {X : Type 0} → (x : X) (xs : List X) → IsIn x (x ∷ xs)
in_front x xs = inl refl

abbrev pub from : List Token → Allowed
from tokens = record {
  Opens = IsTagOf tokens;
  Stands = IsTagOf tokens;
  Says = λ c. IsIn (a_character c) tokens ⊎ IsIn c replacement;
  Notes = λ own. IsIn (a_comment own) tokens;
  Types = λ own. IsIn (a_doctype own) tokens;
  Gaps = λ _. ⊤;
  Adds = λ more. (g : Group) × (t : Tag) × (closes : Bool) × (adds_attributes g ≡ true) × IsIn (a_start g t closes) tokens × (t.attributes ≡ more);
  Reads = λ _. ⊤;
  Around = λ _. ⊤;
  Scripts = λ _. ⊤;
  Exceeds = λ _. ⊤;
  Grouped = ⊥;
  Whole = ⊤;
  stands = λ _ s. s;
  headed = λ _ _ s. s;
  adds = λ own more o a. subst (λ x. IsTagOf tokens (with_more x own)) a.5 (with_added a.0 a.1 own a.2 a.3 a.4 o);
  grows = λ _ _ _ _. tt;
  html = put_in (codes "html") refl;
  head = put_in (codes "head") refl;
  body = put_in (codes "body") refl;
  paragraph = put_in (codes "p") refl;
  column_group = put_in (codes "colgroup") refl;
  table_body = put_in (codes "tbody") refl;
  row = put_in (codes "tr") refl;
  line_break = put_in (codes "br") refl;
  replaced = (inr (inl refl), (inr (inr (inl refl)), (inr (inr (inr (inl refl))), tt)));
  data_read = tt;
}

image_from : (tokens : List Token) (g : Group) (t : Tag) (closes : Bool) → IsIn (a_start g t closes) tokens → is_image g ≡ true → IsTagOf tokens (record t { name = codes "img" })
image_from tokens an_image t closes i e = as_image t closes i
image_from tokens _ t closes i e = absurd (true≢false (sym e))

math_from : (tokens : List Token) (g : Group) (t : Tag) (closes : Bool) → IsIn (a_start g t closes) tokens → is_math_start g ≡ true → IsTagOf tokens (foreign_tag math_space t)
math_from tokens a_math t closes i e = as_math t closes i
math_from tokens _ t closes i e = absurd (true≢false (sym e))

svg_from : (tokens : List Token) (g : Group) (t : Tag) (closes : Bool) → IsIn (a_start g t closes) tokens → is_svg_start g ≡ true → IsTagOf tokens (foreign_tag svg_space t)
svg_from tokens an_svg t closes i e = as_svg t closes i
svg_from tokens _ t closes i e = absurd (true≢false (sym e))

token_from : (tokens : List Token) (token : Token) → IsIn token tokens → Allows (from tokens) token
token_from tokens (a_character c) i = inl i
token_from tokens (a_start g t closes) i = record {
  opens = λ _. started g t closes i;
  alone = started g t closes i;
  image = image_from tokens g t closes i;
  math = math_from tokens g t closes i;
  svg = svg_from tokens g t closes i;
  foreign = λ own e _. adjusted g t closes own.space e i;
  more = λ e. (g, t, closes, e, i, refl);
  inside = λ _. tt;
  scripted = λ _. tt;
  after = tt;
  listed = λ y _. absurd y;
}
token_from tokens (an_end g name) i = tt
token_from tokens (a_comment bytes) i = i
token_from tokens (a_doctype own) i = i
token_from tokens end_of_file i = tt

each_from : (tokens some : List Token) → ((token : Token) → IsIn token some → IsIn token tokens) → Each (Allows (from tokens)) some
each_from tokens [] w = tt
each_from tokens (token ∷ some) w = (token_from tokens token (w token (inl refl)), each_from tokens some (λ other i. w other (inr i)))

pub tokens_from : (tokens : List Token) → Each (Allows (from tokens)) tokens
tokens_from tokens = each_from tokens tokens (λ _ i. i)

some_tag : (tokens : List Token) (tag : Tag) (below : HtmlForest) → Owned (from tokens) tag below → IsTagOf tokens tag
some_tag tokens tag below (inl o) = o
some_tag tokens tag below (inr s) = s.0

characters_from : (P : ℕ → Type 0) (bytes : List ℕ) → Each P bytes → EachCharacter P bytes
characters_from P [] h = tt
characters_from P (c ∷ bytes) h = (h.0, characters_from P bytes h.1)

pub sources_of : (tokens : List Token) (trees : HtmlForest) → Follows (from tokens) trees → ComeFrom tokens trees
sources_of tokens trees f = record {
  elements = elements-weaken (Owned (from tokens)) (λ tag below. IsTagOf tokens tag) trees (some_tag tokens) f.elements;
  texts = texts-weaken (IsText (from tokens)) (λ own. EachCharacter (from tokens).Says own.said) trees (λ own t. characters_from (from tokens).Says own.said t.0.1) f.texts;
  comments = f.comments;
  doctypes = f.doctypes;
}

pub built_sources : (flags : Flags) (tokens : List Token) → ComeFrom (all_numbered 0 tokens) (page_built flags tokens).trees
built_sources flags tokens = sources_of (all_numbered 0 tokens) (page_built flags tokens).trees (page-Follows (from (all_numbered 0 tokens)) flags tokens tt tt (tokens_from (all_numbered 0 tokens)) (λ _ _. tt))

pub built_fragment_sources : (flags : Flags) (context : Context) (tokens : List Token) → ComeFrom (all_numbered 0 tokens) (fragment_built flags context tokens)
built_fragment_sources flags context tokens =
    sources_of (all_numbered 0 tokens) (fragment_built flags context tokens) (fragment-Follows (from (all_numbered 0 tokens)) flags context tokens tt tt tt (tokens_from (all_numbered 0 tokens)) (λ _ _. tt))

pub page_sources : (flags : Flags) (page : List ℕ) → ComeFrom (all_numbered 0 (tokens_of_page flags page)) (html_tree_by flags page).trees
page_sources flags page =
    subst (λ d. ComeFrom (all_numbered 0 (tokens_of_page flags page)) d.trees) (sym (page_is flags page)) (built_sources flags (tokens_of_page flags page))

pub fragment_sources : (flags : Flags) (context : Context) (bytes : List ℕ) → ComeFrom (all_numbered 0 (tokens_of_fragment flags context bytes)) (html_fragment_by flags context bytes)
fragment_sources flags context bytes =
    subst (ComeFrom (all_numbered 0 (tokens_of_fragment flags context bytes))) (sym (fragment_is flags context bytes))
    (built_fragment_sources flags context (tokens_of_fragment flags context bytes))
