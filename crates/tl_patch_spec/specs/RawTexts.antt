-- Raw texts that browsers may read as markup. A text is put into a `style` or `script` as it
-- stands, since it can't be escaped there. Whether a browser reads a raw text there is up to its
-- tree construction: in `svg` and `math` it reads markup (13.2.6.5); it drops the tags of raw texts
-- at a `frameset`, and may in a `template` or `select`; and where scripts run a `noscript` is a raw
-- text itself, up to the first `</noscript>`. No token says where such an element ends to it, so
-- each start tag with one of these names counts for all that stands behind it.
use Rattle.std.specs.Prelude.{ℕ, suc, Bool, true, false, ◌||◌, ◌&&◌, ◌==◌, nat_lt, List, [], ◌∷◌, Option, Some, None, codes, if◌then◌else◌}
use Rattle.std.specs.List.{list_any, slice_get}
use Rattle.tl_html_spec.specs.HtmlTokenizer.{Character, HtmlToken, StartTag, State, plaintext, raw, rcdata}
use Rattle.tl_html_spec.specs.Balanced.{is_one_of}
use Rattle.tl_html_spec.specs.Pieces.{Piece}
use Rattle.tl_patch_spec.specs.Patches.{Changed, NewContent, Put, Text, with_end}
use Rattle.tl_patch_spec.specs.Splices.{Splice}
use Rattle.tl_patch_spec.specs.TagChanges.{Rename}

abbrev pub is_unsure_name : List ℕ → Bool
is_unsure_name name = is_one_of (codes "svg math frameset template noscript select") name

-- a start tag with such a name
abbrev pub begins_unsure : List HtmlToken → Bool
begins_unsure (StartTag name attributes closes ∷ []) = is_unsure_name name
begins_unsure _ = false

-- the number of the first such start tag, or of the end of the page
abbrev pub unsure_from : ℕ → List Piece → ℕ
unsure_from n [] = n
unsure_from n (p ∷ ps) = if begins_unsure p.tokens then n else unsure_from (suc n) ps

-- a tag gets such a name
abbrev pub is_unsure_put : Put → Bool
is_unsure_put (Changed (Rename name)) = is_unsure_name name
is_unsure_put _ = false

-- this number, or that of the tag which gets such a name if it stands before
abbrev pub unsure_at : ℕ → Splice Put → ℕ
unsure_at n ask = if list_any is_unsure_put ask.put && nat_lt ask.from n then ask.from else n

-- the same of several
abbrev pub unsure_with : ℕ → List (Splice Put) → ℕ
unsure_with n [] = n
unsure_with n (ask ∷ asks) = unsure_with (unsure_at n ask) asks

-- a text isn't escaped where the tokenizer is in this state
abbrev pub is_unescaped : State → Bool
is_unescaped (raw (rcdata name)) = false
is_unescaped (raw r) = true
is_unescaped plaintext = true
is_unescaped _ = false

-- `&` and `<`
abbrev pub is_markup_byte : ℕ → Bool
is_markup_byte b = (b == 38) || (b == 60)

abbrev pub is_markup : List ℕ → Bool
is_markup text = list_any is_markup_byte text

abbrev pub is_markup_token : HtmlToken → Bool
is_markup_token (Character b) = is_markup_byte b
is_markup_token _ = false

-- a text that its own end tag alone ends is read in this state, a title too
abbrev pub is_raw : State → Bool
is_raw (raw r) = true
is_raw plaintext = true
is_raw _ = false

-- such a text that has one of them
abbrev pub is_raw_markup : Piece → Bool
is_raw_markup p = is_raw p.rest && list_any is_markup_token p.tokens

-- the number behind the last such raw text of pieces from a number on; `last` where there is none
abbrev pub raw_until : ℕ → ℕ → List Piece → ℕ
raw_until last n [] = last
raw_until last n (p ∷ ps) = raw_until (if is_raw_markup p then suc n else last) (suc n) ps

-- a text that has one of them is put
abbrev pub is_markup_put : Put → Bool
is_markup_put (NewContent (Text text)) = is_markup text
is_markup_put _ = false

abbrev pub is_raw_place : Option Piece → Bool
is_raw_place None = false
is_raw_place (Some p) = is_unescaped p.rest

-- what is put in these pieces may be read as markup: a text with `&` or `<` comes into a raw text
-- behind such a start tag, of which the first has this number; or a tag gets such a name, and such
-- raw texts, which end at that number, stand behind it
abbrev pub is_misread_at : List Piece → ℕ → ℕ → Splice Put → Bool
is_misread_at ps unsure until ask =
    (list_any is_markup_put ask.put
    && (is_raw_place (slice_get (with_end ps) ask.from) && nat_lt unsure ask.from))
    || (list_any is_unsure_put ask.put && nat_lt ask.from until)

-- so it may where all of these splices are asked for
abbrev pub is_misread : List Piece → List (Splice Put) → Splice Put → Bool
is_misread ps asks ask =
    is_misread_at ps (unsure_with (unsure_from 0 ps) asks) (raw_until 0 0 ps) ask

-- the number of the start tag behind which it may be read so: one that stands there, or the tag
-- that gets such a name
abbrev pub cause_at : ℕ → Splice Put → ℕ
cause_at unsure ask = if list_any is_unsure_put ask.put then ask.from else unsure

abbrev pub cause_of : List Piece → List (Splice Put) → Splice Put → ℕ
cause_of ps asks ask = cause_at (unsure_with (unsure_from 0 ps) asks) ask
