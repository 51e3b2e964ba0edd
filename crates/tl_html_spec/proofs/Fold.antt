-- The tokenizer is a fold: what it reads of a text is what it reads of its front, and then of the rest.
use Rattle.std.proofs.Common.{◌≡◌, ℕ, Bool, false, ◌==◌, ◌&&◌, List, [], ◌∷◌, ◌++◌, refl, ap, sym, ◌∙◌, inl, inr, append_assoc, if◌then◌else◌}
use Rattle.std.proofs.lemmas.Bool.{and_parts, cases_Bool, eqb-true}
use Rattle.tl_html_spec.specs.HtmlTokenizer.{HtmlToken, State, data_state, html_tokens, tokens_from, whole_step, with_feeds, without_mark}
use Rattle.tl_html_spec.specs.Reader.{Reader, after, byte_step, emitted, feed, next, page_tokens, read, tokens_of}

pub after_append : (r : Reader) (a b : List ℕ) → after r (a ++ b) ≡ after (after r a) b
after_append r [] b = refl
after_append r (x ∷ a) b = after_append (next r x) a b

pub emitted_append : (r : Reader) (a b : List ℕ) → emitted r (a ++ b) ≡ emitted r a ++ emitted (after r a) b
emitted_append r [] b = refl
emitted_append r (x ∷ a) b =
    ap (λ ts. (read r x).emits ++ ts) (emitted_append (next r x) a b)
    ∙ sym (append_assoc (read r x).emits (emitted (next r x) a) (emitted (after (next r x) a) b))

pub tokens_append : (r : Reader) (a b : List ℕ) → tokens_of r (a ++ b) ≡ emitted r a ++ tokens_of (after r a) b
tokens_append r [] b = refl
tokens_append r (x ∷ a) b =
    ap (λ ts. (read r x).emits ++ ts) (tokens_append (next r x) a b)
    ∙ sym (append_assoc (read r x).emits (emitted (next r x) a) (tokens_of (after (next r x) a) b))

-- where two texts bring the reader to the same state, what follows reads the same after both
pub replaced : (r : Reader) (x y c : List ℕ) → after r x ≡ after r y → tokens_of r (y ++ c) ≡ emitted r y ++ tokens_of (after r x) c
replaced r x y c e = tokens_append r y c ∙ ap (λ s. emitted r y ++ tokens_of s c) (sym e)

-- the reader over raw bytes is the tokenizer after line ends were made line feeds

-- after a carriage return, without a line feed
abbrev pub without_feed : Bool → List ℕ → List ℕ
without_feed v [] = []
without_feed v (c ∷ text) = if v && (c == 10) then text else c ∷ text

pub all_stays : (text : List ℕ) → without_feed false text ≡ text
all_stays [] = refl
all_stays (c ∷ text) = refl

feed_first : (text : List ℕ) → with_feeds (10 ∷ text) ≡ 10 ∷ with_feeds text
feed_first [] = refl
feed_first (c ∷ text) = refl

pub feeds_cons : (b : ℕ) (text : List ℕ) → with_feeds (b ∷ text) ≡ feed b ∷ with_feeds (without_feed (b == 13) text)
feeds_cons b [] = refl
feeds_cons b (c ∷ text) = elim (cases_Bool ((b == 13) && (c == 10))) [
  | inl y ↦ (
      let p = and_parts (b == 13) (c == 10) y in
      ap (λ (v : Bool). if v then with_feeds (c ∷ text) else feed b ∷ with_feeds (c ∷ text)) y
      ∙ ap (λ d. with_feeds (d ∷ text)) (eqb-true c 10 p.1)
      ∙ feed_first text
      ∙ sym (ap (λ (v : Bool). (if v then 10 else b) ∷ with_feeds text) p.0)
      ∙ sym (ap (λ (v : Bool). feed b ∷ with_feeds (if v then text else c ∷ text)) y))
  | inr n ↦ ap (λ (v : Bool). if v then with_feeds (c ∷ text) else feed b ∷ with_feeds (c ∷ text)) n
      ∙ sym (ap (λ (v : Bool). feed b ∷ with_feeds (if v then text else c ∷ text)) n)
]

abbrev reading : Bool → State → Bool → ℕ → List ℕ → List HtmlToken
reading passed s v b text = (byte_step passed s b).emits ++ tokens_of (record { state = (byte_step passed s b).next; after_return = v }) text

pub feeds_read : (v : Bool) (s : State) (text : List ℕ) → tokens_of (record { state = s; after_return = v }) text ≡ tokens_from s (with_feeds (without_feed v text))
unfolding read
feeds_read v s [] = refl
feeds_read v s (b ∷ text) = elim (cases_Bool (v && (b == 10))) [
  | inl y ↦ ap (λ (w : Bool). reading w s (b == 13) b text) y
      ∙ ap (λ d. tokens_of (record { state = s; after_return = d == 13 }) text) (eqb-true b 10 (and_parts v (b == 10) y).1)
      ∙ feeds_read false s text
      ∙ ap (λ t. tokens_from s (with_feeds t)) (all_stays text)
      ∙ sym (ap (λ (w : Bool). tokens_from s (with_feeds (if w then text else b ∷ text))) y)
  | inr n ↦ ap (λ (w : Bool). reading w s (b == 13) b text) n
      ∙ ap (λ ts. (whole_step s (feed b)).emits ++ ts) (feeds_read (b == 13) (whole_step s (feed b)).next text)
      ∙ sym (ap (tokens_from s) (feeds_cons b text))
      ∙ sym (ap (λ (w : Bool). tokens_from s (with_feeds (if w then text else b ∷ text))) n)
]

pub page_read : (page : List ℕ) → page_tokens page ≡ html_tokens page
page_read page =
    feeds_read false data_state (without_mark page)
    ∙ ap (λ t. tokens_from data_state (with_feeds t)) (all_stays (without_mark page))
