-- What any driver of the tokenizer takes of what stands in front of a page.
use Rattle.std.specs.Prelude.{◌≡◌, ◌-◌, ℕ, Bool, List, [], ◌∷◌, drop, take}
use Rattle.tl_html_spec.specs.HtmlTokenizer.{CommentToken, EndTag, HtmlAttribute, StartTag, with_feeds}
use Rattle.tl_html_spec.specs.Driven.{Driver, Emission, characters, doctype_of, driven, in_state, plain, taken}
use Rattle.tl_html_tokens.specs.Characters.{characters_of}
use Rattle.tl_html_tokens.specs.Comments.{comment_of}
use Rattle.tl_html_tokens.specs.Doctypes.{doctype_said}
use Rattle.tl_html_tokens.specs.Driving.{state_set}
use Rattle.tl_html_tokens.specs.Modes.{state_of}
use Rattle.tl_html_tokens.specs.Whole.{IsWhole}
use Rattle.tl_html_tokens.specs.declared.front.Front.{Front}
use Rattle.tl_html_tokens.specs.declared.mode.Mode.{Mode}
use Rattle.tl_html_tokens.specs.declared.stage.TokenKind.{TokenKind}
use Rattle.tl_html_tokens.specs.declared.stage.TokenKind.TheVariants as kind

-- a tag that these bytes are by themselves
pub record IsStartSaid (mode : Mode) (bytes : List ℕ) (emits : List Emission) : Type 0 where
  pub name : List ℕ
  pub attributes : List HtmlAttribute
  pub closes : Bool
  pub emits_are : emits ≡ plain (StartTag name attributes closes) ∷ []
  pub whole : IsWhole mode bytes (StartTag name attributes closes ∷ [])

pub record IsEndSaid (mode : Mode) (bytes : List ℕ) (emits : List Emission) : Type 0 where
  pub name : List ℕ
  pub emits_are : emits ≡ plain (EndTag name) ∷ []
  pub whole : IsWhole mode bytes (EndTag name ∷ [])

-- what bytes of this kind emit in this mode
abbrev pub AreEmits : Mode → List ℕ → TokenKind → List Emission → Type 0
AreEmits mode bytes kind.Text emits = emits ≡ characters (characters_of mode bytes)
AreEmits mode bytes kind.StartTag emits = IsStartSaid mode bytes emits
AreEmits mode bytes kind.EndTag emits = IsEndSaid mode bytes emits
AreEmits mode bytes kind.Comment emits = emits ≡ plain (CommentToken (comment_of bytes)) ∷ []
AreEmits mode bytes kind.Doctype emits = emits ≡ doctype_of (doctype_said bytes) ∷ []
AreEmits mode bytes kind.Nothing emits = emits ≡ []

-- the bytes of what stands in front
abbrev pub front_bytes : List ℕ → ℕ → Front → List ℕ
front_bytes page start front = take (front.end - start) (drop start page)

-- the driver takes just this, and goes on behind it
pub record IsTold {M : Type 0} (d : Driver M) (memory : M) (page : List ℕ) (start : ℕ) (mode : Mode)
    (front : Front) : Type 0 where
  pub emits : List Emission
  pub told : AreEmits mode (front_bytes page start front) front.kind emits
  pub goes_on : driven d memory (in_state (state_of mode)) (with_feeds (drop start page))
      ≡ driven d (taken d memory emits)
      (in_state (state_set d (taken d memory emits) front)) (with_feeds (drop front.end page))
