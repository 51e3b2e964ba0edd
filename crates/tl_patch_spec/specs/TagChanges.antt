-- Changes of one tag: of its attributes, or of its name.
use Rattle.std.specs.Prelude.{◌≡◌, ℕ, Bool, true, false, List, [], ◌∷◌, map, if◌then◌else◌, ⊤}
use Rattle.std.specs.List.{list_any}
use Rattle.std.specs.Str.{bytes_eq}
use Rattle.tl_html_spec.specs.HtmlTokenizer.{HtmlAttribute, HtmlToken, OpenTag, StartTag, EndTag, after_start}

abbrev pub has_key : List ℕ → HtmlAttribute → Bool
has_key key a = bytes_eq a.0 key

abbrev pub value_if : Bool → List ℕ → HtmlAttribute → HtmlAttribute
value_if true value a = (a.0, value)
value_if false value a = a

abbrev pub with_value : List ℕ → List ℕ → HtmlAttribute → HtmlAttribute
with_value key value a = value_if (has_key key a) value a

-- a key that is there gets the value in its place; one that isn't stands first
abbrev pub with_key : List ℕ → List ℕ → List HtmlAttribute → List HtmlAttribute
with_key key value attributes =
    if list_any (has_key key) attributes then map (with_value key value) attributes
    else (key, value) ∷ attributes

abbrev pub without_key : List ℕ → List HtmlAttribute → List HtmlAttribute
without_key key [] = []
without_key key (a ∷ attributes) =
    if has_key key a then without_key key attributes else a ∷ without_key key attributes

pub data TagChange : Type 0 where
  Set : List ℕ → List ℕ → TagChange
  Unset : List ℕ → TagChange
  Rename : List ℕ → TagChange

-- a tag with the change; another token as it is
abbrev pub changed_token : TagChange → HtmlToken → HtmlToken
changed_token (Set key value) (StartTag name attributes closes) =
    StartTag name (with_key key value attributes) closes
changed_token (Unset key) (StartTag name attributes closes) =
    StartTag name (without_key key attributes) closes
changed_token (Rename new) (StartTag name attributes closes) = StartTag new attributes closes
changed_token (Rename new) (EndTag name) = EndTag new
changed_token _ token = token

-- tokens, of which the first is changed
abbrev pub changed_first : TagChange → List HtmlToken → List HtmlToken
changed_first change [] = []
changed_first change (token ∷ tokens) = changed_token change token ∷ tokens

-- whether a tag that is being made has a key
abbrev pub has_attribute : List ℕ → OpenTag → Bool
has_attribute key tag = list_any (has_key key) tag.attributes

-- the first token is no start tag with this key
abbrev pub FirstLacks : List ℕ → List HtmlToken → Type 0
FirstLacks key (StartTag name attributes closes ∷ tokens) =
    list_any (has_key key) attributes ≡ false
FirstLacks key _ = ⊤

-- the first token is no start tag that another state follows than a start tag of this name
abbrev pub FirstGoesOnAs : List ℕ → List HtmlToken → Type 0
FirstGoesOnAs new (StartTag name attributes closes ∷ tokens) = after_start new ≡ after_start name
FirstGoesOnAs new _ = ⊤

-- a token without attributes: what `balanced` looks at
abbrev pub without_attributes : HtmlToken → HtmlToken
without_attributes (StartTag name attributes closes) = StartTag name [] closes
without_attributes token = token
