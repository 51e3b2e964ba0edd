-- The HTML fragment serialization algorithm (13.3) of trees, as the living standard has it since
-- May 2025: in values of attributes `<` and `>` are escaped too, as Chromium does from 138 on.
--
-- Texts are bytes: U+00A0 is C2 A0, and bytes that are no UTF-8 are kept as they are. An element
-- that was read has no "is value", and no shadow root.
use Rattle.std.specs.Prelude.{Bool, List, None, Option, Some, [], codes, false, flat_map, if◌then◌else◌, true, ℕ, ◌&&◌, ◌++◌, ◌==◌, ◌||◌, ◌∷◌}
use Rattle.std.specs.Str.{bytes_eq}
use Rattle.tl_dom_spec.specs.HtmlForest.{HtmlForest, comment, doctype, element, has_contents, no_trees, text}
use Rattle.tl_dom_spec.specs.Lawful.{is_void}
use Rattle.tl_dom_spec.specs.Tags.{Attribute, AttributeSpace, Tag, is_any, no_space, xlink_space, xml_space, xmlns_space}

-- Escaping a string

-- a character but U+00A0, of a text or in the attribute mode
abbrev pub escape : Bool → ℕ → List ℕ
escape in_attribute b =
    if b == 38 then codes "&amp;"
    else if b == 60 then codes "&lt;"
    else if b == 62 then codes "&gt;"
    else if in_attribute && b == 34 then codes "&quot;"
    else b ∷ []

abbrev pub escaped : Bool → List ℕ → List ℕ
escaped in_attribute [] = []
escaped in_attribute (b ∷ []) = escape in_attribute b
escaped in_attribute (b ∷ c ∷ bytes) =
    elim (b == 194 && c == 160) as (λ _. List ℕ) [
      | true ↦ codes "&nbsp;" ++ escaped in_attribute bytes
      | false ↦ escape in_attribute b ++ escaped in_attribute (c ∷ bytes)
    ]

-- Elements

abbrev pub serialized_name : AttributeSpace → List ℕ → List ℕ
serialized_name no_space key = key
serialized_name xml_space key = codes "xml:" ++ key
serialized_name xmlns_space key =
    if bytes_eq key (codes "xmlns") then codes "xmlns" else codes "xmlns:" ++ key
serialized_name xlink_space key = codes "xlink:" ++ key

abbrev pub serialized_attribute : Attribute → List ℕ
serialized_attribute a =
    codes " "
    ++ (serialized_name a.space a.key ++ (codes "=\"" ++ (escaped true a.value ++ codes "\"")))

abbrev pub start_tag : Tag → List ℕ
start_tag tag =
    codes "<" ++ (tag.name ++ (flat_map serialized_attribute tag.attributes ++ codes ">"))

-- none where the element serializes as void
abbrev pub end_tag : Tag → List ℕ
end_tag tag = if is_void tag then [] else codes "</" ++ (tag.name ++ codes ">")

-- the element in which what is below an element stands: the contents of a `template` are in none
abbrev pub parent_below : Tag → Option Tag
parent_below tag = if has_contents tag then None else Some tag

-- Texts

-- whether the texts in an element are written as they are
abbrev pub is_literal : Bool → Tag → Bool
is_literal is_scripting tag =
    is_any (codes "style script xmp iframe noembed noframes plaintext") tag
    || (is_scripting && is_any (codes "noscript") tag)

-- the same of what may be in no element
abbrev pub is_literal_in : Bool → Option Tag → Bool
is_literal_in is_scripting None = false
is_literal_in is_scripting (Some parent) = is_literal is_scripting parent

abbrev pub serialized_text : Bool → Option Tag → List ℕ → List ℕ
serialized_text is_scripting parent bytes =
    if is_literal_in is_scripting parent then bytes else escaped false bytes

abbrev pub serialized_comment : List ℕ → List ℕ
serialized_comment bytes = codes "<!--" ++ (bytes ++ codes "-->")

abbrev pub serialized_doctype : List ℕ → List ℕ
serialized_doctype name = codes "<!DOCTYPE " ++ (name ++ codes ">")

-- Trees

-- what is in an element: nothing where it serializes as void
abbrev pub unless_void : Tag → List ℕ → List ℕ
unless_void tag inner = if is_void tag then [] else inner

-- trees that stand in an element, or in none: in the document, in a fragment or in the contents of
-- a `template`
abbrev pub serialized : Bool → Option Tag → HtmlForest → List ℕ
serialized is_scripting parent no_trees = []
serialized is_scripting parent (text own more) =
    serialized_text is_scripting parent own.said ++ serialized is_scripting parent more
serialized is_scripting parent (comment own more) =
    serialized_comment own.said ++ serialized is_scripting parent more
serialized is_scripting parent (doctype own more) =
    serialized_doctype own.said.name ++ serialized is_scripting parent more
serialized is_scripting parent (element tag below more) =
    start_tag tag
    ++ (unless_void tag (serialized is_scripting (parent_below tag) below)
    ++ (end_tag tag ++ serialized is_scripting parent more))
