-- What pieces say, of tags with the bytes that say it.
use Rattle.std.specs.Prelude.{◌≡◌, ℕ, Bool, true, false, List, [], ◌∷◌, flat_map, map, if◌then◌else◌, ⊤}
use Rattle.tl_html_spec.specs.HtmlTokenizer.{Character, EndTag, HtmlToken, StartTag}
use Rattle.tl_html_spec.specs.Pieces.{Piece}
use Rattle.tl_html_tokens.specs.Fronts.{pieces_at}

-- a tag as the piece that it is, or another token
pub data Saying : Type 0 where
  Tag : Piece → Saying
  Other : HtmlToken → Saying

abbrev pub is_tag : List HtmlToken → Bool
is_tag (StartTag name attributes closes ∷ []) = true
is_tag (EndTag name ∷ []) = true
is_tag _ = false

abbrev pub said_by : Piece → List Saying
said_by p = if is_tag p.tokens then Tag p ∷ [] else map Other p.tokens

abbrev pub sayings : List Piece → List Saying
sayings ps = flat_map said_by ps

abbrev pub character : ℕ → Saying
character b = Other (Character b)

-- each tag is read so by itself
abbrev pub AreWhole : List Saying → Type 0
AreWhole [] = ⊤
AreWhole (Tag p ∷ said) = (pieces_at p.rest p.bytes ≡ p ∷ []) × AreWhole said
AreWhole (Other token ∷ said) = AreWhole said
