-- Tokens that say UTF-8: each value, each comment, and all characters between two other tokens.
-- Names may be any bytes.
use Rattle.std.specs.Prelude.{ℕ, List, [], ◌∷◌, ◌++◌, IsUtf8, ⊤}
use Rattle.tl_html_spec.specs.HtmlTokenizer.{HtmlAttribute, HtmlToken, Character, StartTag, EndTag, CommentToken, DoctypeToken}

abbrev pub HaveUtf8Values : List HtmlAttribute → Type 0
HaveUtf8Values [] = ⊤
HaveUtf8Values (a ∷ more) = IsUtf8 a.1 × HaveUtf8Values more

-- behind characters of these bytes
abbrev pub AreUtf8After : List ℕ → List HtmlToken → Type 0
AreUtf8After front [] = IsUtf8 front
AreUtf8After front (Character b ∷ tokens) = AreUtf8After (front ++ b ∷ []) tokens
AreUtf8After front (StartTag name attributes closes ∷ tokens) =
    IsUtf8 front × HaveUtf8Values attributes × AreUtf8After [] tokens
AreUtf8After front (EndTag name ∷ tokens) = IsUtf8 front × AreUtf8After [] tokens
AreUtf8After front (CommentToken bytes ∷ tokens) =
    IsUtf8 front × IsUtf8 bytes × AreUtf8After [] tokens
AreUtf8After front (DoctypeToken ∷ tokens) = IsUtf8 front × AreUtf8After [] tokens

abbrev pub AreUtf8 : List HtmlToken → Type 0
AreUtf8 tokens = AreUtf8After [] tokens
