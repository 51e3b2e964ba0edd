-- Tags stay what they are, whatever byte comes.
use Rattle.std.proofs.Common.{◌≡◌, ℕ, Bool, true, false, ◌==◌, List, [], ◌∷◌, ◌++◌, refl, if◌then◌else◌}
use Rattle.std.specs.Char.{is_ascii_alphanumeric, is_ascii_digit, is_ascii_hexdigit, to_ascii_lowercase}
use Rattle.std.proofs.lemmas.Bool.{cond_both}
use Rattle.tl_html_spec.specs.HtmlTokenizer as T
use Rattle.tl_html_spec.specs.HtmlTokenizer.{HtmlToken, State, ends_name, is_white_space}
use Rattle.tl_html_tokens.specs.Inner.Machine as M
use Rattle.tl_html_tokens.specs.declared.mode.Mode.{Mode}
use Rattle.tl_html_tokens.specs.declared.stage.TokenKind.{TokenKind}
use Rattle.tl_html_tokens.specs.declared.stage.TokenKind.TheVariants as kind
use Rattle.tl_html_tokens.specs.declared.stage.Tag.{Tag}
use Rattle.tl_html_tokens.specs.declared.stage.Quote.{Quote}
use Rattle.tl_html_tokens.specs.declared.stage.Quote.TheVariants as quote
use Rattle.tl_html_tokens.specs.declared.stage.Place.{Place}
use Rattle.tl_html_tokens.specs.declared.stage.Place.TheVariants as place
use Rattle.tl_html_tokens.specs.declared.stage.Stage.{Stage}
use Rattle.tl_html_tokens.specs.declared.stage.Stage.TheVariants as stage
use Rattle.tl_html_tokens.specs.declared.stage.Turn.{Turn}
use Rattle.tl_html_tokens.specs.declared.stage.Turn.TheVariants.{Goes, Ends}
use Rattle.tl_html_tokens.proofs.Content.{BeginsLess, Content, Kept, begins_more}
use Rattle.tl_html_tokens.proofs.Steps.{next_word}
use Rattle.std.proofs.Common.{true≢false, sym}

-- neither a text nor a comment nor a doctype
abbrev pub is_other : TokenKind → Bool
is_other kind.Text = false
is_other kind.Comment = false
is_other kind.Doctype = false
is_other _ = true

abbrev in_value : Place → Bool
in_value (place.Text m) = false
in_value (place.Value q tag) = true

abbrev pub is_markup : Stage → Bool
is_markup (stage.Whole k m) = is_other k
is_markup (stage.Reference p) = in_value p
is_markup (stage.NamedReference p) = in_value p
is_markup (stage.NumericReference p) = in_value p
is_markup (stage.HexadecimalStart p) = in_value p
is_markup (stage.DecimalStart p) = in_value p
is_markup (stage.Hexadecimal p) = in_value p
is_markup (stage.Decimal p) = in_value p
is_markup (stage.TagName is_end) = true
is_markup (stage.BeforeKey tag) = true
is_markup (stage.Key tag) = true
is_markup (stage.AfterKey tag) = true
is_markup (stage.BeforeValue tag) = true
is_markup (stage.Value q tag) = true
is_markup (stage.AfterValue tag) = true
is_markup (stage.SelfClosing tag) = true
is_markup _ = false

abbrev stays : Turn → Bool
stays (Goes c) = is_markup c
stays (Ends k m) = is_other k

either : (v : Bool) (o p : Turn) → stays o ≡ true → stays p ≡ true → stays (if v then o else p) ≡ true
either true o p h k = h
either false o p h k = k

tag_end : (tag : Tag) → stays (M.tag_end tag) ≡ true
tag_end tag = cond_both tag.is_end _ _ (λ k. is_other k ≡ true) (λ _. refl) (λ _. refl)

module _ (b : ℕ) where
  before_key : (tag : Tag) → stays (M.before_key tag b) ≡ true
  before_key tag = either (is_white_space b) _ _ refl (either (b == 47) _ _ refl (either (b == 62) _ _ (tag_end tag) refl))

  after_key : (tag : Tag) → stays (M.after_key tag b) ≡ true
  after_key tag =
      either (is_white_space b) _ _ refl (either (b == 47) _ _ refl (either (b == 61) _ _ refl (either (b == 62) _ _ (tag_end tag) refl)))

  value : (q : Quote) (tag : Tag) → stays (M.value q tag b) ≡ true
  value quote.Double tag = either (b == 34) _ _ refl (either (b == 38) _ _ refl refl)
  value quote.Single tag = either (b == 39) _ _ refl (either (b == 38) _ _ refl refl)
  value quote.Absent tag = either (is_white_space b) _ _ refl (either (b == 38) _ _ refl (either (b == 62) _ _ (tag_end tag) refl))

  before_value : (tag : Tag) → stays (M.before_value tag b) ≡ true
  before_value tag =
      either (is_white_space b) _ _ refl (either (b == 34) _ _ refl (either (b == 39) _ _ refl (either (b == 62) _ _ (tag_end tag) (value quote.Absent tag))))

  number_end : (q : Quote) (tag : Tag) → stays (M.number_end (place.Value q tag) b) ≡ true
  number_end q tag = either (b == 59) _ _ refl (value q tag)

  pub turn_stays : (c : Stage) (w : List ℕ) → is_markup c ≡ true → stays (M.turn c w b) ≡ true
  turn_stays (stage.Whole k m) w h = h
  turn_stays (stage.Reference (place.Value q tag)) w h = either (is_ascii_alphanumeric b) _ _ refl (either (b == 35) _ _ refl (value q tag))
  turn_stays (stage.NamedReference (place.Value q tag)) w h = either (is_ascii_alphanumeric b) _ _ refl (either (b == 59) _ _ refl (value q tag))
  turn_stays (stage.NumericReference (place.Value q tag)) w h =
      either (to_ascii_lowercase b == 120) _ _ refl (either (is_ascii_digit b) _ _ refl (value q tag))
  turn_stays (stage.HexadecimalStart (place.Value q tag)) w h = either (is_ascii_hexdigit b) _ _ refl (value q tag)
  turn_stays (stage.DecimalStart (place.Value q tag)) w h = either (is_ascii_digit b) _ _ refl (value q tag)
  turn_stays (stage.Hexadecimal (place.Value q tag)) w h = either (is_ascii_hexdigit b) _ _ refl (number_end q tag)
  turn_stays (stage.Decimal (place.Value q tag)) w h = either (is_ascii_digit b) _ _ refl (number_end q tag)
  turn_stays (stage.TagName is_end) w h =
      either (is_white_space b) _ _ refl (either (b == 47) _ _ refl (either (b == 62) _ _ (tag_end (M.named_tag is_end w)) refl))
  turn_stays (stage.BeforeKey tag) w h = before_key tag
  turn_stays (stage.Key tag) w h = either (ends_name b) _ _ (after_key tag) (either (b == 61) _ _ refl refl)
  turn_stays (stage.AfterKey tag) w h = after_key tag
  turn_stays (stage.BeforeValue tag) w h = before_value tag
  turn_stays (stage.Value q tag) w h = value q tag
  turn_stays (stage.AfterValue tag) w h = either (is_white_space b) _ _ refl (either (b == 47) _ _ refl (either (b == 62) _ _ (tag_end tag) (before_key tag)))
  turn_stays (stage.SelfClosing tag) w h = either (b == 62) _ _ (tag_end tag) (before_key tag)
  turn_stays _ w h = absurd (true≢false (sym h))

-- and each begins with a `<`

module _ (m : Mode) where
  other_passes : (k : TokenKind) (n : Mode) (z : List ℕ) (ts : List HtmlToken) → is_other k ≡ true → BeginsLess z → Content m (stage.Whole k n) z [] (T.data_state) ts
  other_passes kind.Text n z ts h g = absurd (true≢false (sym h))
  other_passes kind.Comment n z ts h g = absurd (true≢false (sym h))
  other_passes kind.Doctype n z ts h g = absurd (true≢false (sym h))
  other_passes _ n z ts h g = (g, λ y. absurd (true≢false (sym y)))

  content_markup : (c : Stage) (z w : List ℕ) (s : State) (ts : List HtmlToken) → is_markup c ≡ true → BeginsLess z → Content m c z w s ts
  content_markup (stage.Whole k n) z w s ts h g = other_passes k n z ts h g
  content_markup (stage.Reference (place.Value q tag)) z w s ts h g = g
  content_markup (stage.NamedReference (place.Value q tag)) z w s ts h g = g
  content_markup (stage.NumericReference (place.Value q tag)) z w s ts h g = g
  content_markup (stage.HexadecimalStart (place.Value q tag)) z w s ts h g = g
  content_markup (stage.DecimalStart (place.Value q tag)) z w s ts h g = g
  content_markup (stage.Hexadecimal (place.Value q tag)) z w s ts h g = g
  content_markup (stage.Decimal (place.Value q tag)) z w s ts h g = g
  content_markup (stage.TagName is_end) z w s ts h g = g
  content_markup (stage.BeforeKey tag) z w s ts h g = g
  content_markup (stage.Key tag) z w s ts h g = g
  content_markup (stage.AfterKey tag) z w s ts h g = g
  content_markup (stage.BeforeValue tag) z w s ts h g = g
  content_markup (stage.Value q tag) z w s ts h g = g
  content_markup (stage.AfterValue tag) z w s ts h g = g
  content_markup (stage.SelfClosing tag) z w s ts h g = g
  content_markup _ z w s ts h g = absurd (true≢false (sym h))

  kept_by_turn : (b : ℕ) (z w : List ℕ) (s : State) (ts : List HtmlToken) (o : Turn) → stays o ≡ true → BeginsLess z → Kept m b z w s ts o
  kept_by_turn b z w s ts (Goes c) h g = content_markup c (z ++ b ∷ []) (next_word c w b) _ _ h (begins_more z (b ∷ []) g)
  kept_by_turn b z w s ts (Ends k n) h g = λ es _. other_passes k n z (ts ++ es) h g

  pub kept_markup : (b : ℕ) (c : Stage) (z w : List ℕ) (s : State) (ts : List HtmlToken) → is_markup c ≡ true → BeginsLess z → Kept m b z w s ts (M.turn c w b)
  kept_markup b c z w s ts h g = kept_by_turn b z w s ts (M.turn c w b) (turn_stays b c w h) g
