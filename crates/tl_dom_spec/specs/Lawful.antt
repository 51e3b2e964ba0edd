-- Laws of trees that are built of tokens: what holds of each element, text and comment in them.
use Rattle.std.specs.Prelude.{Bool, List, None, Option, Some, [], codes, false, map, not, suc, true, zero, ℕ, ◌<◌, ◌≤◌, ◌||◌, ◌∷◌, ◌≡◌, ◌⊎◌, ⊤}
use Rattle.tl_names.specs.Elements.{is_among, rcdata_names}
use Rattle.tl_html_spec.specs.Balanced.{is_one_of}
use Rattle.tl_html_spec.specs.HtmlTokenizer.{HtmlToken, StartTag, data_state, replacement, without_mark}
use Rattle.tl_html_spec.specs.Sound.{IsSome}
use Rattle.tl_html_spec.specs.Doctypes.{Doctype}
use Rattle.tl_html_spec.specs.Driven.{Emission, by_name, doctype_of, driven_tokens, driving, in_state, no_tokens}
use Rattle.tl_dom_spec.specs.Tags.{Namespace, Tag, bare_tag, by_space, is_any, is_table, is_template, math_space, svg_space}
use Rattle.tl_dom_spec.specs.Marks.{Marked}
use Rattle.tl_dom_spec.specs.Path.{Path}
use Rattle.tl_dom_spec.specs.Groups.{Group, a_math, an_image, an_svg, the_body, the_html}
use Rattle.tl_dom_spec.specs.Builder.{Again, Builder, Done, Entry, Flags, Mode, Outcome, Token, a_character, a_comment, a_doctype, a_start, end_of_file, formatting, in_body, in_column_group, in_row, in_table, in_table_body, in_table_text, in_template, marker, text_mode, with_more}
use Rattle.tl_dom_spec.specs.Adjusted.{foreign_name, foreign_tag}
use Rattle.tl_dom_spec.specs.Dispatcher.{bound, calm, dispatch, marks_behind, numbered, token_done, tokens_done}
use Rattle.tl_dom_spec.specs.Driver.{builder, emitted_token, html_doctype}
use Rattle.tl_dom_spec.specs.HtmlForest.{HtmlForest, comment, doctype, element, no_trees, text}
use Rattle.tl_dom_spec.specs.HtmlTree.{Context, Document, children_of, context_state, document_of, fragment_start, is_raw_in, page_start}

-- what holds of each element, with what stands below it
abbrev pub EachElement : (Tag → HtmlForest → Type 0) → HtmlForest → Type 0
EachElement P no_trees = ⊤
EachElement P (text bytes more) = EachElement P more
EachElement P (comment bytes more) = EachElement P more
EachElement P (doctype own more) = EachElement P more
EachElement P (element tag below more) =
    P tag below × EachElement P below × EachElement P more

-- what holds of each text
abbrev pub EachText : (Marked (List ℕ) → Type 0) → HtmlForest → Type 0
EachText P no_trees = ⊤
EachText P (text own more) = P own × EachText P more
EachText P (comment bytes more) = EachText P more
EachText P (doctype own more) = EachText P more
EachText P (element tag below more) = EachText P below × EachText P more

-- what holds of each comment
abbrev pub EachComment : (Marked (List ℕ) → Type 0) → HtmlForest → Type 0
EachComment P no_trees = ⊤
EachComment P (text bytes more) = EachComment P more
EachComment P (comment own more) = P own × EachComment P more
EachComment P (doctype own more) = EachComment P more
EachComment P (element tag below more) = EachComment P below × EachComment P more

-- what holds of each doctype
abbrev pub EachDoctype : (Marked Doctype → Type 0) → HtmlForest → Type 0
EachDoctype P no_trees = ⊤
EachDoctype P (text bytes more) = EachDoctype P more
EachDoctype P (comment bytes more) = EachDoctype P more
EachDoctype P (doctype own more) = P own × EachDoctype P more
EachDoctype P (element tag below more) = EachDoctype P below × EachDoctype P more

-- what holds of each character of a text
abbrev pub EachCharacter : (ℕ → Type 0) → List ℕ → Type 0
EachCharacter P [] = ⊤
EachCharacter P (c ∷ bytes) = P c × EachCharacter P bytes

-- Texts

abbrev pub begins_with_text : HtmlForest → Bool
begins_with_text (text bytes more) = true
begins_with_text _ = false

-- no text stands right beside another one
abbrev pub AreApart : HtmlForest → Type 0
AreApart no_trees = ⊤
AreApart (text bytes more) = (begins_with_text more ≡ false) × AreApart more
AreApart (comment bytes more) = AreApart more
AreApart (doctype own more) = AreApart more
AreApart (element tag below more) = AreApart below × AreApart more

-- no text is empty, or stands right beside another one
abbrev pub AreTexts : HtmlForest → Type 0
AreTexts trees = EachText (λ own. IsSome own.said) trees × AreApart trees

-- Void elements

-- elements that are written without an end tag (13.3), so that nothing can stand below them
abbrev pub void_names : List ℕ
void_names =
    codes "area base basefont bgsound br col embed frame hr img input keygen link meta param source track wbr"

abbrev pub is_void : Tag → Bool
is_void t = is_any void_names t

abbrev pub AreVoidEmpty : HtmlForest → Type 0
AreVoidEmpty trees = EachElement (λ tag below. is_void tag ≡ true → below ≡ no_trees) trees

-- Names

abbrev pub AreNamed : HtmlForest → Type 0
AreNamed trees = EachElement (λ tag below. IsSome tag.name) trees

-- the names of start tags are not empty
abbrev pub HaveNames : List Token → Type 0
HaveNames [] = ⊤
HaveNames (a_start g t closes ∷ tokens) = IsSome t.name × HaveNames tokens
HaveNames (token ∷ tokens) = HaveNames tokens

-- Where it all comes from

-- tokens whose marks are numbered from a number on
abbrev pub all_numbered : ℕ → List Token → List Token
all_numbered n [] = []
all_numbered n (token ∷ tokens) =
    numbered n token ∷ all_numbered (marks_behind n token) tokens

abbrev pub IsIn : {X : Type 0} → X → List X → Type 0
IsIn x [] = ⊥
IsIn x (y ∷ ys) = (x ≡ y) ⊎ IsIn x ys

-- the names of the elements that are put in where their start tags are missing
abbrev pub put_in_names : List ℕ
put_in_names = codes "html head body tbody tr colgroup p br"

-- `html` and `body`, whose start tags add attributes to the elements that are open already
abbrev pub adds_attributes : Group → Bool
adds_attributes the_html = true
adds_attributes the_body = true
adds_attributes _ = false

-- what the tag of an element is by the tokens
pub data IsTagOf (tokens : List Token) : Tag → Type 0 where
  -- that of a start tag
  started : (g : Group) (t : Tag) (closes : Bool) →
      IsIn (a_start g t closes) tokens → IsTagOf tokens t
  -- `img` for `image`
  as_image : (t : Tag) (closes : Bool) →
      IsIn (a_start an_image t closes) tokens → IsTagOf tokens (record t { name = codes "img" })
  -- of the start tag of `math` or `svg`
  as_math : (t : Tag) (closes : Bool) →
      IsIn (a_start a_math t closes) tokens → IsTagOf tokens (foreign_tag math_space t)
  as_svg : (t : Tag) (closes : Bool) →
      IsIn (a_start an_svg t closes) tokens → IsTagOf tokens (foreign_tag svg_space t)
  -- of a start tag in foreign content, adjusted
  adjusted : (g : Group) (t : Tag) (closes : Bool) (space : Namespace) →
      by_space space true false false ≡ false →
      IsIn (a_start g t closes) tokens →
      IsTagOf tokens (foreign_tag space (record t { name = foreign_name space t.name }))
  -- of an element that is put in
  put_in : (name : List ℕ) → is_one_of put_in_names name ≡ true → IsTagOf tokens (bare_tag name)
  -- one of these with the attributes of a start tag of `html` or `body` that it had not
  with_added : (g : Group) (t own : Tag) (closes : Bool) → adds_attributes g ≡ true →
      IsIn (a_start g t closes) tokens → IsTagOf tokens own →
      IsTagOf tokens (with_more t.attributes own)

-- each element, comment and doctype comes from a token, or is an element that is put in; and each
-- character of a text is one of a character token, or of U+FFFD
pub record ComeFrom (tokens : List Token) (trees : HtmlForest) : Type 0 where
  pub elements : EachElement (λ tag below. IsTagOf tokens tag) trees
  pub texts : EachText
      (λ own. EachCharacter (λ c. IsIn (a_character c) tokens ⊎ IsIn c replacement) own.said)
      trees
  pub comments : EachComment (λ own. IsIn (a_comment own) tokens) trees
  pub doctypes : EachDoctype (λ own. IsIn (a_doctype own) tokens) trees

-- where an element has the number of a mark, it is one of so many
abbrev pub IsBelow : ℕ → Option ℕ → Type 0
IsBelow count None = ⊤
IsBelow count (Some n) = n < count

-- the marks that elements, comments and doctypes come from are some of so many, and no more stand
-- before a text
pub record AreNumberedBelow (count : ℕ) (trees : HtmlForest) : Type 0 where
  pub elements : EachElement (λ tag below. IsBelow count tag.source) trees
  pub texts : EachText (λ own. own.source ≤ count) trees
  pub comments : EachComment (λ own. own.source < count) trees
  pub doctypes : EachDoctype (λ own. own.source < count) trees

-- Tokens of pages: as tree construction drives the tokenizer

abbrev pub tokens_of_page : Flags → List ℕ → List Token
tokens_of_page flags page =
    map emitted_token
    (driven_tokens builder (driving (page_start flags) (in_state data_state)) (without_mark page))

abbrev pub tokens_of_fragment : Flags → Context → List ℕ → List Token
tokens_of_fragment flags context bytes =
    map emitted_token
    (driven_tokens builder
    (driving (fragment_start flags context) (in_state (context_state flags context.tag)))
    bytes)

-- what is built of tokens

abbrev pub page_built : Flags → List Token → Document
page_built flags tokens =
    document_of (token_done (tokens_done (page_start flags) tokens) end_of_file)

abbrev pub fragment_built : Flags → Context → List Token → HtmlForest
fragment_built flags context tokens =
    children_of (token_done (tokens_done (fragment_start flags context) tokens) end_of_file)

-- Pages

-- comments alone
abbrev pub EndsWithComments : HtmlForest → Type 0
EndsWithComments no_trees = ⊤
EndsWithComments (text bytes more) = ⊥
EndsWithComments (comment bytes more) = EndsWithComments more
EndsWithComments (doctype own more) = ⊥
EndsWithComments (element tag below more) = ⊥

-- comments and texts, and then `body` or `frameset`
abbrev pub GoesOnWithBody : HtmlForest → Type 0
GoesOnWithBody no_trees = ⊥
GoesOnWithBody (text bytes more) = GoesOnWithBody more
GoesOnWithBody (comment bytes more) = GoesOnWithBody more
GoesOnWithBody (doctype own more) = ⊥
GoesOnWithBody (element tag below more) = is_any (codes "body frameset") tag ≡ true

-- comments, then `head`, and behind it the body
abbrev pub BeginsWithHead : HtmlForest → Type 0
BeginsWithHead no_trees = ⊥
BeginsWithHead (text bytes more) = ⊥
BeginsWithHead (comment bytes more) = BeginsWithHead more
BeginsWithHead (doctype own more) = ⊥
BeginsWithHead (element tag below more) =
    (is_any (codes "head") tag ≡ true) × GoesOnWithBody more

-- doctypes and comments, then `html` with its head and body, and comments behind it
abbrev pub IsPage : HtmlForest → Type 0
IsPage no_trees = ⊥
IsPage (text bytes more) = ⊥
IsPage (comment bytes more) = IsPage more
IsPage (doctype own more) = IsPage more
IsPage (element tag below more) =
    (is_any (codes "html") tag ≡ true) × BeginsWithHead below × EndsWithComments more

-- Tokens of texts: as the names of start tags drive the tokenizer

-- doctypes have their parts
abbrev pub driven_by_names : List ℕ → List Emission
driven_by_names bytes = driven_tokens by_name (driving no_tokens (in_state data_state)) bytes

-- neither foreign content nor raw text begins with a start tag of the name
abbrev pub is_plain_name : Flags → List ℕ → Bool
is_plain_name flags name =
    not (is_one_of (codes "math svg") name || is_among rcdata_names name
    || is_raw_in flags (bare_tag name))

-- the names of start tags are plain
abbrev pub HavePlainNames : Flags → List HtmlToken → Type 0
HavePlainNames flags [] = ⊤
HavePlainNames flags (StartTag name attributes closes ∷ tokens) =
    (is_plain_name flags name ≡ true) × HavePlainNames flags tokens
HavePlainNames flags (token ∷ tokens) = HavePlainNames flags tokens

-- each doctype is `<!DOCTYPE html>`
abbrev pub HaveHtmlDoctypes : List Emission → Type 0
HaveHtmlDoctypes [] = ⊤
HaveHtmlDoctypes (doctype_of own ∷ emissions) =
    (own ≡ html_doctype) × HaveHtmlDoctypes emissions
HaveHtmlDoctypes (e ∷ emissions) = HaveHtmlDoctypes emissions

-- Reprocessing

-- whether steps end with one that asks for no other, where so many are taken at most
abbrev pub is_done_within : ℕ → (Builder → Outcome) → Outcome → Bool
is_done_within n step (Done b) = true
is_done_within zero step (Again b) = false
is_done_within (suc n) step (Again b) = is_done_within n step (step b)

-- a token is reprocessed less often than it may be
abbrev pub IsDoneWith : Builder → Token → Type 0
IsDoneWith b token = is_done_within (bound b) (dispatch token) (Again (calm b)) ≡ true

-- the last frame is not open: the document
abbrev pub IsRooted : Path → Type 0
IsRooted [] = ⊥
IsRooted (f ∷ []) = f.is_open ≡ false
IsRooted (f ∷ g ∷ path) = IsRooted (g ∷ path)

-- modes that end with a change to the original insertion mode
abbrev pub is_text_mode : Mode → Bool
is_text_mode text_mode = true
is_text_mode in_table_text = true
is_text_mode _ = false

-- modes that a start tag sets in a template, and the first one there
abbrev pub is_template_mode : Mode → Bool
is_template_mode in_template = true
is_template_mode in_table = true
is_template_mode in_column_group = true
is_template_mode in_table_body = true
is_template_mode in_row = true
is_template_mode in_body = true
is_template_mode _ = false

abbrev pub AreTemplateModes : List Mode → Type 0
AreTemplateModes [] = ⊤
AreTemplateModes (m ∷ modes) = (is_template_mode m ≡ true) × AreTemplateModes modes

-- no table and no template is in the list of active formatting elements
abbrev pub AreFormatting : List Entry → Type 0
AreFormatting [] = ⊤
AreFormatting (marker ∷ entries) = AreFormatting entries
AreFormatting (formatting k tag ∷ entries) =
    ((is_table tag ≡ false) × (is_template tag ≡ false)) × AreFormatting entries

-- what holds before the first token, and is enough for `bound` to suffice
abbrev pub IsSteady : Builder → Type 0
IsSteady b =
    IsRooted b.path × (is_text_mode b.original ≡ false) × AreTemplateModes b.templates
    × AreFormatting b.active
