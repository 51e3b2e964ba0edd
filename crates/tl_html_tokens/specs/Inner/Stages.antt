-- What is known of a stage by itself.
use Rattle.std.specs.Prelude.{Bool, true, false}
use Rattle.tl_html_tokens.specs.declared.stage.TokenKind.{TokenKind}
use Rattle.tl_html_tokens.specs.declared.stage.TokenKind.TheVariants as kind
use Rattle.tl_html_tokens.specs.declared.stage.Place.{Place}
use Rattle.tl_html_tokens.specs.declared.stage.Place.TheVariants as place
use Rattle.tl_html_tokens.specs.declared.stage.Stage.{Stage}
use Rattle.tl_html_tokens.specs.declared.stage.Stage.TheVariants as stage

-- whether a word is being read
abbrev pub has_word : Stage → Bool
has_word (stage.TagName is_end) = true
has_word (stage.RawEndTagName mode) = true
has_word stage.DoubleEscapeStart = true
has_word stage.DoubleEscapeEnd = true
has_word stage.Declaration = true
has_word _ = false

abbrev pub place_at_end : Place → TokenKind
place_at_end (place.Text mode) = kind.Text
place_at_end (place.Value quote tag) = kind.Nothing

-- what a piece is that the end of the page ends
abbrev pub kind_at_end : Stage → TokenKind
kind_at_end (stage.Whole k mode) = k
kind_at_end (stage.Reference p) = place_at_end p
kind_at_end (stage.NamedReference p) = place_at_end p
kind_at_end (stage.NumericReference p) = place_at_end p
kind_at_end (stage.HexadecimalStart p) = place_at_end p
kind_at_end (stage.DecimalStart p) = place_at_end p
kind_at_end (stage.Hexadecimal p) = place_at_end p
kind_at_end (stage.Decimal p) = place_at_end p
kind_at_end (stage.TagName is_end) = kind.Nothing
kind_at_end (stage.BeforeKey tag) = kind.Nothing
kind_at_end (stage.Key tag) = kind.Nothing
kind_at_end (stage.AfterKey tag) = kind.Nothing
kind_at_end (stage.BeforeValue tag) = kind.Nothing
kind_at_end (stage.Value quote tag) = kind.Nothing
kind_at_end (stage.AfterValue tag) = kind.Nothing
kind_at_end (stage.SelfClosing tag) = kind.Nothing
kind_at_end stage.BogusComment = kind.Comment
kind_at_end stage.Declaration = kind.Comment
kind_at_end stage.CommentStart = kind.Comment
kind_at_end stage.CommentStartDash = kind.Comment
kind_at_end stage.Comment = kind.Comment
kind_at_end stage.CommentLessThan = kind.Comment
kind_at_end stage.CommentBang = kind.Comment
kind_at_end stage.CommentBangDash = kind.Comment
kind_at_end stage.CommentBangDashDash = kind.Comment
kind_at_end stage.CommentEndDash = kind.Comment
kind_at_end stage.CommentEnd = kind.Comment
kind_at_end stage.CommentEndBang = kind.Comment
kind_at_end stage.Doctype = kind.Doctype
kind_at_end _ = kind.Text
