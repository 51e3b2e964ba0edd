-- A tag that stands in front of a page, with its parts.
use Rattle.std.specs.Prelude.{◌≡◌, ◌-◌, ℕ, false, List, [], ◌∷◌, drop, take, ⊤}
use Rattle.tl_html_spec.specs.HtmlTokenizer.{EndTag, HtmlToken, StartTag}
use Rattle.tl_html_tokens.specs.Driving.{is_start}
use Rattle.tl_html_tokens.specs.Fronts.{IsFront}
use Rattle.tl_html_tokens.specs.Kinds.{IsEndTag, IsStartTag}
use Rattle.tl_html_tokens.specs.Whole.{IsWhole}
use Rattle.tl_html_tokens.specs.declared.mode.Mode.{Mode}
use Rattle.tl_html_tokens.specs.declared.mode.Mode.TheVariants.{Data}
use Rattle.tl_html_tokens.specs.declared.stage.TokenKind.{TokenKind}
use Rattle.tl_html_tokens.specs.declared.stage.TokenKind.TheVariants as kind
use Rattle.tl_html_parts.specs.Parts.{attributes_of, name_of}
use Rattle.tl_html_parts.specs.Places.{AreParts, IsPart, pairs_in, part_in}
use Rattle.tl_html_parts.specs.declared.place.AttributePlace.{AttributePlace}
use Rattle.tl_html_parts.specs.declared.tag_front.TagFront.{TagFront}

-- of a tag, or of one in which the page ends
abbrev pub IsTagKind : TokenKind → Type 0
IsTagKind kind.StartTag = ⊤
IsTagKind kind.EndTag = ⊤
IsTagKind kind.Nothing = ⊤
IsTagKind _ = ⊥

-- where markup is read this stands in front: how reading goes on behind a start tag isn't said
pub record IsMarkupFront (page : List ℕ) (start : ℕ) (kind : TokenKind) (end : ℕ) : Type 0 where
  pub mode : Mode
  pub tag : IsTagKind kind
  pub plain : is_start kind ≡ false → mode ≡ Data
  pub front : IsFront page start Data (record { kind = kind; end = end; mode = mode })

-- the bytes of a tag say its parts, where they are a tag by themselves
pub record IsTagSaid (page : List ℕ) (start : ℕ) (mode : Mode) (places : List AttributePlace)
    (tag : TagFront) : Type 0 where
  pub name : IsPart name_of page tag.name
  pub attributes : AreParts page places
  pub start_told : (tokens : List HtmlToken) →
      IsWhole mode (take (tag.end - start) (drop start page)) tokens → IsStartTag tokens →
      tokens ≡ StartTag (name_of (part_in page tag.name)) (attributes_of (pairs_in page places))
      tag.closes ∷ []
  pub end_told : (tokens : List HtmlToken) →
      IsWhole mode (take (tag.end - start) (drop start page)) tokens → IsEndTag tokens →
      tokens ≡ EndTag (name_of (part_in page tag.name)) ∷ []

-- the tag that stands in front where markup is read, with its parts
pub record IsTagRead (page : List ℕ) (start : ℕ) (places : List AttributePlace) (tag : TagFront)
    : Type 0 where
  pub front : IsMarkupFront page start tag.kind tag.end
  pub said : IsTagSaid page start Data places tag
