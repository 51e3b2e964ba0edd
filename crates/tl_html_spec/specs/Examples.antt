-- Words for worked rows: what a row says is written out, and a quoted text stands for its bytes. No
-- contract cites them.
use Prim.Native.String.{String}
use Rattle.std.specs.Prelude.{ℕ, Bool, true, false, List, [], ◌∷◌, ◌++◌, Option, option_map, map, codes}
use Rattle.tl_html_spec.specs.HtmlTokenizer.{HtmlAttribute, HtmlToken, Character, StartTag, EndTag, CommentToken, DoctypeToken, data_state, html_tokens, with_feeds}
use Rattle.tl_html_spec.specs.Balanced.{balanced}
use Rattle.tl_html_spec.specs.Driven.{Driver, Emission, doctype_of, driven, in_state, plain}
use Rattle.tl_html_spec.specs.Pieces.{Piece, pieces, placed, runs}

-- the tokens of a page
abbrev pub read : String → List HtmlToken
read page = html_tokens (codes page)

-- these tokens with their end tags
abbrev pub read_balanced : String → List HtmlToken
read_balanced page = balanced (html_tokens (codes page))

-- characters by their bytes
abbrev pub characters : List ℕ → List HtmlToken
characters bytes = map Character bytes

abbrev pub text : String → List HtmlToken
text bytes = map Character (codes bytes)

abbrev pub pair : String → String → HtmlAttribute
pair key value = (codes key, codes value)

abbrev pub start : String → List HtmlAttribute → List HtmlToken
start name attributes = StartTag (codes name) attributes false ∷ []

-- with the self-closing flag
abbrev pub closed : String → List HtmlAttribute → List HtmlToken
closed name attributes = StartTag (codes name) attributes true ∷ []

abbrev pub end : String → List HtmlToken
end name = EndTag (codes name) ∷ []

abbrev pub comment : String → List HtmlToken
comment bytes = CommentToken (codes bytes) ∷ []

abbrev pub doctype : List HtmlToken
doctype = DoctypeToken ∷ []

-- the bytes of a page's pieces, characters joined
abbrev pub cut : String → List (List ℕ)
cut page = map (λ (p : Piece). p.bytes) (runs (pieces (codes page)))

-- and where they begin
abbrev pub places : String → List ℕ
places page = map (λ (p : ℕ × Piece). p.0) (placed 0 (runs (pieces (codes page))))

-- a driver that remembers the tokens, and finds foreign what stands anywhere or nothing; after a
-- start tag it goes on with data, whatever its name is
abbrev pub data_driver : Bool → Driver (List Emission)
data_driver is_foreign = record {
  take = λ emissions e. emissions ++ e ∷ [];
  sets = λ emissions. data_state;
  is_foreign = λ emissions. is_foreign;
}

-- what is read of a text that is driven so, in foreign content and in HTML
abbrev pub read_foreign : String → List Emission
read_foreign text = driven (data_driver true) [] (in_state data_state) (with_feeds (codes text))

abbrev pub read_driven : String → List Emission
read_driven text = driven (data_driver false) [] (in_state data_state) (with_feeds (codes text))

abbrev pub these : List HtmlToken → List Emission
these tokens = map plain tokens

-- a doctype with its name and identifiers, and whether it asks for quirks mode by its form
abbrev pub parts : String → Option String → Option String → Bool → List Emission
parts name public_id system_id forces_quirks =
    doctype_of (record {
      name = codes name;
      public_id = option_map codes public_id;
      system_id = option_map codes system_id;
      forces_quirks = forces_quirks;
    })
    ∷ []
