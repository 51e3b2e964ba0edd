-- Raw texts that browsers may read as markup, in the terms of the code.
use Rattle.std.specs.Prelude.{◌≡◌, ℕ, Bool, true, false, ◌||◌, ◌&&◌, nat_lt, List, Option, Some, None, ⊤}
use Rattle.std.specs.List.{All, list_any, slice_get}
use Rattle.tl_html_spec.specs.Pieces.{Piece}
use Rattle.tl_html_tokens.specs.Modes.{state_of}
use Rattle.tl_html_tokens.specs.declared.stage.TokenKind.{TokenKind}
use Rattle.tl_html_tokens.specs.declared.stage.TokenKind.TheVariants as kind
use Rattle.tl_html_tokens.specs.declared.token.Token.{Token}
use Rattle.tl_patch_spec.specs.Patches.{Put}
use Rattle.tl_patch_spec.specs.RawTexts.{cause_of, is_markup_put, is_misread, is_unescaped, is_unsure_put, raw_until, unsure_from, unsure_with}
use Rattle.tl_patch_spec.specs.Splices.{Splice}
use Rattle.tl_patch_edit.specs.Asks.{ask_view, asks_view}
use Rattle.tl_patch_edit.specs.Inner.Causes.{IsOneAt}
use Rattle.tl_patch_edit.specs.declared.ask.PlacedAsk.{PlacedAsk}
use Rattle.tl_patch_edit.specs.declared.error.EditError.{EditError}
use Rattle.tl_patch_edit.specs.declared.error.EditError.TheVariants as error
use Rattle.tl_patch_edit.specs.declared.raw_text.Limits.{Limits}

abbrev pub is_start_kind : TokenKind → Bool
is_start_kind kind.StartTag = true
is_start_kind _ = false

pub record AreLimits (ps : List Piece) (asks : List (Splice Put)) (limits : Limits) : Type 0 where
  pub unsure : limits.unsure ≡ unsure_with (unsure_from 0 ps) asks
  pub raw_until : limits.raw_until ≡ raw_until 0 0 ps

abbrev pub is_raw_token : Option Token → Bool
is_raw_token None = false
is_raw_token (Some token) = is_unescaped (state_of token.mode)

abbrev pub is_raw_at : List Token → ℕ → Bool
is_raw_at tokens number = is_raw_token (slice_get tokens number)

-- whether a browser may read an ask as markup
abbrev pub is_misread_in : List Token → Limits → Splice Put → Bool
is_misread_in tokens limits ask =
    (list_any is_markup_put ask.put
    && (is_raw_at tokens ask.from && nat_lt limits.unsure ask.from))
    || (list_any is_unsure_put ask.put && nat_lt ask.from limits.raw_until)

-- what is asked for is read as markup in no page: no text that would be is put, and no such name
pub record IsDoubtless (one : PlacedAsk) : Type 0 where
  pub text : list_any is_markup_put (ask_view one.ask).put ≡ false
  pub name : list_any is_unsure_put (ask_view one.ask).put ≡ false

abbrev pub AreKept : List Piece → List PlacedAsk → Type 0
AreKept ps asks =
    All (λ (one : PlacedAsk). is_misread ps (asks_view asks) (ask_view one.ask) ≡ false) asks

-- the token of this number begins at a place
abbrev pub BeginsToken : List Token → ℕ → ℕ → Type 0
BeginsToken tokens number place =
    (token : Token) × (slice_get tokens number ≡ Some token) × (token.start ≡ place)

-- a browser may read this ask as markup, and that tag is the one behind which it may
abbrev pub IsMisreadBy : List Piece → List Token → List PlacedAsk → PlacedAsk → ℕ → Type 0
IsMisreadBy ps tokens asks one place =
    (is_misread ps (asks_view asks) (ask_view one.ask) ≡ true)
    × BeginsToken tokens (cause_of ps (asks_view asks) (ask_view one.ask)) place

abbrev pub IsMisreadError : List Piece → List Token → List PlacedAsk → EditError → Type 0
IsMisreadError ps tokens asks error.OutOfMemory = ⊤
IsMisreadError ps tokens asks (error.Misread place cause) =
    (one : PlacedAsk) × IsOneAt asks place one × IsMisreadBy ps tokens asks one cause
IsMisreadError ps tokens asks _ = ⊥
