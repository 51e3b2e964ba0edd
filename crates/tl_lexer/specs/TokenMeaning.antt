-- What a token of the lexer says.
use Rattle.std.specs.Prelude.{ℕ, true, false, List, drop, ⊤}
use Rattle.tl_spec.specs.Lex.Attribute.{Pair, attributes}
use Rattle.tl_spec.specs.Lex.Token.{Token as Meant, Nothing, Text, End, Comment, Doctype, Start, token_after_attributes}
use Rattle.tl_lexer.specs.Span.{bytes_at, IsIn}
use Rattle.tl_lexer.specs.declared.tag.TagEnd.{TagEnd}
use Rattle.tl_lexer.specs.declared.tag.TagEnd.TheVariants.{Opens, Alone, Broken}
use Rattle.tl_lexer.specs.declared.token.Token.{Token}
use Rattle.tl_lexer.specs.declared.token.Token.TheVariants.{Text as TextToken, End as EndToken, Comment as CommentToken, Doctype as DoctypeToken, Start as StartToken, Nothing as NothingToken}

-- what the end of a start tag makes of its name and its attributes
abbrev pub ended : List ℕ → List Pair → TagEnd → Meant
ended name pairs Opens = Start name pairs false
ended name pairs Alone = Start name pairs true
ended name pairs Broken = Nothing

-- a start tag whose attributes are those at the front of s, and what stands after it
abbrev pub start_tag_of : List ℕ → List ℕ → Meant × List ℕ
start_tag_of name s = let a = attributes s in token_after_attributes name a.0 a.1

-- what the token says that stands in t before the place `end`, and what stands after it: after a
-- tag's name and blanks its attributes and its end follow
abbrev pub meant : List ℕ → Token → ℕ → Meant × List ℕ
meant t (TextToken s) end = (Text (bytes_at t s), drop end t)
meant t (EndToken name) end = (End (bytes_at t name), drop end t)
meant t (CommentToken s) end = (Comment (bytes_at t s), drop end t)
meant t (DoctypeToken html) end = (Doctype html, drop end t)
meant t (StartToken name) end = start_tag_of (bytes_at t name) (drop end t)
meant t NothingToken end = (Nothing, drop end t)

-- the spans of a token are in the text
abbrev pub IsTokenIn : List ℕ → Token → Type 0
IsTokenIn t (TextToken s) = IsIn t s
IsTokenIn t (EndToken name) = IsIn t name
IsTokenIn t (CommentToken s) = IsIn t s
IsTokenIn t (DoctypeToken html) = ⊤
IsTokenIn t (StartToken name) = IsIn t name
IsTokenIn t NothingToken = ⊤
