-- What stands in front of a page, as any driver of the tokenizer reads it.
use Rattle.std.specs.Prelude.{◌≡◌, ℕ, Bool, true, false, List, codes, drop, map, ◌&&◌, ◌==◌, if◌then◌else◌}
use Rattle.std.specs.List.{starts_with}
use Rattle.tl_html_spec.specs.HtmlTokenizer.{HtmlToken, State, data_state, with_feeds}
use Rattle.tl_html_spec.specs.Driven.{Driver, Emission, bare, driven, in_state, taken}
use Rattle.tl_html_tokens.specs.Modes.{state_of}
use Rattle.tl_html_tokens.specs.declared.front.Front.{Front}
use Rattle.tl_html_tokens.specs.declared.mode.Mode.{Mode}
use Rattle.tl_html_tokens.specs.declared.stage.TokenKind.{TokenKind}
use Rattle.tl_html_tokens.specs.declared.stage.TokenKind.TheVariants as kind

-- what begins a CDATA section where the driver says that it is foreign
abbrev pub begins_section : List ℕ → Bool
begins_section text = starts_with ◌==◌ text (codes "<![CDATA[")

abbrev pub is_data : State → Bool
is_data data_state = true
is_data _ = false

-- whether one begins there, which is read in markup alone
abbrev pub opens_section : {M : Type 0} → Driver M → M → List ℕ → ℕ → Mode → Bool
opens_section d memory page start mode =
    is_data (state_of mode) && (d.is_foreign memory && begins_section (drop start page))

abbrev pub is_start : TokenKind → Bool
is_start kind.StartTag = true
is_start _ = false

-- the state of rest after it: after a start tag that which the driver sets
abbrev pub state_set : {M : Type 0} → Driver M → M → Front → State
state_set d memory front = if is_start front.kind then d.sets memory else state_of front.mode

-- the driver takes these tokens, in which doctypes have their parts, and goes on behind them
pub record IsDriven {M : Type 0} (d : Driver M) (memory : M) (page : List ℕ) (start : ℕ)
    (mode : Mode) (front : Front) (tokens : List HtmlToken) : Type 0 where
  pub emits : List Emission
  pub tokens_are : map bare emits ≡ tokens
  pub goes_on : driven d memory (in_state (state_of mode)) (with_feeds (drop start page))
      ≡ driven d (taken d memory emits)
      (in_state (state_set d (taken d memory emits) front)) (with_feeds (drop front.end page))
