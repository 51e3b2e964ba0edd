-- What the tokenizer of the standard reads of a print: the tags, texts and comments of the trees in
-- their order, where these can be read again.
use Rattle.std.specs.Char.{is_ascii_alphabetic, to_ascii_lowercase}
use Rattle.std.specs.List.{list_all, list_any}
use Rattle.std.specs.Prelude.{Bool, List, Option, [], false, if◌then◌else◌, map, not, true, ℕ, ◌&&◌, ◌++◌, ◌==◌, ◌||◌, ◌≡◌, ◌⊎◌, ◌∷◌, ⊤}
use Rattle.std.specs.Str.{bytes_eq}
use Rattle.tl_dom_spec.specs.HtmlForest.{HtmlForest, comment, doctype, element, no_trees, text}
use Rattle.tl_dom_spec.specs.Lawful.{is_void}
use Rattle.tl_dom_spec.specs.Tags.{Attribute, Tag, html_space}
use Rattle.tl_html_print.specs.Serialized.{end_tag, is_literal, parent_below, serialized, serialized_comment, serialized_name, unless_void}
use Rattle.tl_html_spec.specs.HtmlTokenizer.{Character, CommentToken, DoctypeToken, EndTag, HtmlAttribute, HtmlToken, StartTag, State, after_start, data_state, ends_name}
use Rattle.tl_html_spec.specs.Reader.{after, at, emitted}

-- The tokens

-- names and keys are read in lower case
abbrev pub lowered : List ℕ → List ℕ
lowered name = map to_ascii_lowercase name

abbrev pub attribute_read : Attribute → HtmlAttribute
attribute_read a = (lowered (serialized_name a.space a.key), a.value)

abbrev pub end_tokens : Tag → List HtmlToken
end_tokens tag = if is_void tag then [] else EndTag (lowered tag.name) ∷ []

abbrev pub unless_empty : Tag → List HtmlToken → List HtmlToken
unless_empty tag inner = if is_void tag then [] else inner

abbrev pub tokens_of_trees : HtmlForest → List HtmlToken
tokens_of_trees no_trees = []
tokens_of_trees (text own more) = map Character own.said ++ tokens_of_trees more
tokens_of_trees (comment own more) = CommentToken own.said ∷ tokens_of_trees more
tokens_of_trees (doctype own more) = DoctypeToken ∷ tokens_of_trees more
tokens_of_trees (element tag below more) =
    StartTag (lowered tag.name) (map attribute_read tag.attributes) false
    ∷ (unless_empty tag (tokens_of_trees below) ++ (end_tokens tag ++ tokens_of_trees more))

-- What can be read again

-- a text goes from a state to the data state, and emits these tokens
abbrev pub IsReadAs : State → List ℕ → List HtmlToken → Type 0
IsReadAs state bytes tokens =
    (emitted (at state) bytes ≡ tokens) × (after (at state) bytes ≡ at data_state)

-- no carriage return, which is read as a line feed
abbrev pub is_kept : ℕ → Bool
is_kept b = not (b == 13)

-- nor a NUL, which is replaced in values
abbrev pub is_kept_in_value : ℕ → Bool
is_kept_in_value b = not (b == 13 || b == 0)

-- what a name goes on with
abbrev pub is_in_name : ℕ → Bool
is_in_name b = not (ends_name b || (b == 13 || b == 0))

abbrev pub is_in_key : ℕ → Bool
is_in_key b = not ((ends_name b || b == 61) || (b == 13 || b == 0))

abbrev pub is_in_doctype : ℕ → Bool
is_in_doctype b = not (b == 62 || b == 13)

-- a letter, and what a name goes on with
abbrev pub is_name : List ℕ → Bool
is_name [] = false
is_name (b ∷ name) = if is_ascii_alphabetic b then list_all is_in_name (b ∷ name) else false

-- a key may begin with `=`, and go on with none
abbrev pub begins_key : ℕ → Bool
begins_key b = is_in_key b || b == 61

abbrev pub is_key : List ℕ → Bool
is_key [] = false
is_key (b ∷ key) = begins_key b && list_all is_in_key key

-- keys and values that are read as they are, of which no key comes twice
abbrev pub AreReadable : List HtmlAttribute → List Attribute → Type 0
AreReadable before [] = ⊤
AreReadable before (a ∷ attributes) =
    (is_key (serialized_name a.space a.key) ≡ true)
    × (list_all is_kept_in_value a.value ≡ true)
    × (list_any (λ (b : HtmlAttribute). bytes_eq b.0 (attribute_read a).0) before ≡ false)
    × AreReadable (before ++ attribute_read a ∷ []) attributes

abbrev pub IsReadable : Tag → Type 0
IsReadable tag = (is_name tag.name ≡ true) × AreReadable [] tag.attributes

-- an element in which markup is read, and texts are escaped
abbrev pub HoldsMarkup : Tag → Type 0
HoldsMarkup tag = (after_start (lowered tag.name) ≡ data_state) × (is_literal false tag ≡ false)

-- what is in an element, up to its end tag, is read as that from the state after its start tag: so
-- of a script that its text doesn't leave `<!--<script` open, of raw texts that none holds its own
-- end tag; of `plaintext` it never is
abbrev pub HoldsItself : Tag → HtmlForest → Type 0
HoldsItself tag below =
    IsReadAs (after_start (lowered tag.name))
    (unless_void tag (serialized false (parent_below tag) below) ++ end_tag tag)
    (unless_empty tag (tokens_of_trees below) ++ end_tokens tag)

abbrev pub CanBeReadAgain : HtmlForest → Type 0
CanBeReadAgain no_trees = ⊤
CanBeReadAgain (text own more) = (list_all is_kept own.said ≡ true) × CanBeReadAgain more
CanBeReadAgain (comment own more) =
    IsReadAs data_state (serialized_comment own.said) (CommentToken own.said ∷ [])
    × CanBeReadAgain more
CanBeReadAgain (doctype own more) =
    (list_all is_in_doctype own.said.name ≡ true) × CanBeReadAgain more
CanBeReadAgain (element tag below more) =
    IsReadable tag × ((HoldsMarkup tag × CanBeReadAgain below) ⊎ HoldsItself tag below)
    × CanBeReadAgain more

-- Elements whose texts have no markup

-- of any source
abbrev pub html_element : List ℕ → List Attribute → Option ℕ → Tag
html_element name attributes source = record {
  space = html_space;
  name = name;
  attributes = attributes;
  source = source;
}

-- bytes that are kept, and among them no `</`, as an end tag has it, and no `<!`, by which a script
-- may go on behind its end tag
abbrev pub is_plain_raw : List ℕ → Bool
is_plain_raw [] = true
is_plain_raw (b ∷ []) = is_kept_in_value b
is_plain_raw (b ∷ c ∷ bytes) =
    (is_kept_in_value b && not (b == 60 && (c == 47 || c == 33))) && is_plain_raw (c ∷ bytes)

-- Comments

-- bytes that are kept, among them no `--`, and no `-` at the end
abbrev pub goes_on : List ℕ → Bool
goes_on [] = true
goes_on (b ∷ []) = is_kept_in_value b && not (b == 45)
goes_on (b ∷ c ∷ bytes) =
    (is_kept_in_value b && not (b == 45 && c == 45)) && goes_on (c ∷ bytes)

-- such bytes, which begin neither with `>` nor with `->`
abbrev pub is_plain_comment : List ℕ → Bool
is_plain_comment [] = true
is_plain_comment (b ∷ []) = not (b == 62) && goes_on (b ∷ [])
is_plain_comment (b ∷ c ∷ bytes) =
    not (b == 62 || (b == 45 && c == 62)) && goes_on (b ∷ c ∷ bytes)
