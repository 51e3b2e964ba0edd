-- How far bytes are read that are some and one more.
use Rattle.std.proofs.Common.{◌≡◌, ℕ, Bool, true, false, ◌==◌, ◌||◌, List, [], ◌∷◌, ◌++◌, refl, ap, sym, ◌∙◌, true≢false}
use Rattle.std.specs.Prelude.{⊤}
use Rattle.std.proofs.lemmas.Bool.{cond_both, eqb-true}
use Rattle.tl_html_spec.specs.HtmlTokenizer.{HtmlToken, Character, StartTag, EndTag, CommentToken, DoctypeToken}
use Rattle.tl_html_spec.specs.Driven.{opens_cdata}
use Rattle.tl_html_spec.specs.Reader.{Reader, after, emitted, feed, next, read}
use Rattle.tl_html_spec.proofs.Starts as S
use Rattle.tl_html_tokens.specs.Ends.{NoStart, StartsLast, opens}
use Rattle.tl_html_tokens.specs.Inner.Machine as M
use Rattle.tl_html_tokens.specs.Inner.Stages.{has_word}
use Rattle.tl_html_tokens.specs.declared.mode.Mode.{Mode}
use Rattle.tl_html_tokens.specs.declared.mode.Mode.TheVariants as mode
use Rattle.tl_html_tokens.specs.declared.stage.Stage.{Stage}
use Rattle.tl_html_tokens.specs.declared.stage.Stage.TheVariants as stage
use Rattle.tl_html_tokens.proofs.Early.{is_early}
use Rattle.tl_html_tokens.proofs.Places.{feed_plain}

-- tokens of which none is a start tag

pub quiet_of : (ts : List HtmlToken) → S.NoStart ts → NoStart ts
quiet_of [] h = tt
quiet_of (StartTag n a c ∷ ts) h = absurd h
quiet_of (Character c ∷ ts) h = quiet_of ts h
quiet_of (EndTag c ∷ ts) h = quiet_of ts h
quiet_of (CommentToken c ∷ ts) h = quiet_of ts h
quiet_of (DoctypeToken ∷ ts) h = quiet_of ts h

pub quiet_left : (ts us : List HtmlToken) → NoStart (ts ++ us) → NoStart ts
quiet_left [] us h = tt
quiet_left (StartTag n a c ∷ ts) us h = absurd h
quiet_left (Character c ∷ ts) us h = quiet_left ts us h
quiet_left (EndTag c ∷ ts) us h = quiet_left ts us h
quiet_left (CommentToken c ∷ ts) us h = quiet_left ts us h
quiet_left (DoctypeToken ∷ ts) us h = quiet_left ts us h

pub quiet_right : (ts us : List HtmlToken) → NoStart (ts ++ us) → NoStart us
quiet_right [] us h = h
quiet_right (StartTag n a c ∷ ts) us h = absurd h
quiet_right (Character c ∷ ts) us h = quiet_right ts us h
quiet_right (EndTag c ∷ ts) us h = quiet_right ts us h
quiet_right (CommentToken c ∷ ts) us h = quiet_right ts us h
quiet_right (DoctypeToken ∷ ts) us h = quiet_right ts us h

-- one byte more

or_assoc : (a c e : Bool) → (a || (c || e)) ≡ ((a || c) || e)
or_assoc true c e = refl
or_assoc false c e = refl

pub opens_append : (r : Reader) (x y : List ℕ) → opens r (x ++ y) ≡ (opens r x || opens (after r x) y)
opens_append r [] y = refl
opens_append r (b ∷ x) y =
    ap (λ v. opens_cdata r.state (feed b) || v) (opens_append (next r b) x y)
    ∙ or_assoc (opens_cdata r.state (feed b)) (opens (next r b) x) (opens (after (next r b) x) y)

pub starts_more : (r : Reader) (x : List ℕ) (b : ℕ) → StartsLast r x → NoStart (emitted r x) → StartsLast r (x ++ b ∷ [])
starts_more r [] b h n = tt
starts_more r (c ∷ []) b h n = (quiet_left (read r c).emits [] n, tt)
starts_more r (c ∷ e ∷ x) b h n = (h.0, starts_more (next r c) (e ∷ x) b h.1 (quiet_right (read r c).emits (emitted (next r c) (e ∷ x)) n))

-- what stands before a declaration

abbrev pub BegunBy : Mode → Stage → Bool → List ℕ → List ℕ → Type 0
BegunBy m stage.TagOpen v bytes w = (m ≡ mode.Data) × (bytes ≡ 60 ∷ w) × (v ≡ false)
BegunBy m stage.Declaration v bytes w = (m ≡ mode.Data) × (bytes ≡ 60 ∷ w)
BegunBy m _ v bytes w = ⊤

pub early_begun : (m : Mode) (c : Stage) (v : Bool) (bytes w : List ℕ) → BegunBy m c v bytes w → is_early c ≡ true → (m ≡ mode.Data) × (bytes ≡ 60 ∷ w)
early_begun m stage.TagOpen v bytes w h e = (h.0, h.1)
early_begun m stage.Declaration v bytes w h e = h
early_begun m _ v bytes w h e = absurd (true≢false (sym e))

pub begun_passed : (m : Mode) (c : Stage) (v : Bool) (bytes w : List ℕ) → BegunBy m c v bytes w → v ≡ true → has_word c ≡ false → (u : Bool) (x y : List ℕ) → BegunBy m c u x y
begun_passed m stage.TagOpen v bytes w h e p u x y = absurd (true≢false (sym e ∙ h.2))
begun_passed m stage.Declaration v bytes w h e p u x y = absurd (true≢false p)
begun_passed m _ v bytes w h e p u x y = tt

module _ (b : ℕ) where
  abbrev First : Mode → Stage → Type 0
  First m c = BegunBy m c (b == 13) (b ∷ []) []

  in_data : First mode.Data (M.in_data (feed b))
  in_data = cond_both (feed b == 38) _ _ (First mode.Data) (λ _. tt) (λ _. cond_both (feed b == 60) _ _ (First mode.Data)
      (λ y. let e = eqb-true (feed b) 60 y in let is : b ≡ 60 = sym (feed_plain b (ap (λ c. c == 10) e)) ∙ e in (refl, ap (λ c. c ∷ []) is, ap (λ c. c == 13) is))
      (λ _. tt))

  in_rcdata : (m n : Mode) → First m (M.in_rcdata n (feed b))
  in_rcdata m n = cond_both (feed b == 38) _ _ (First m) (λ _. tt) (λ _. cond_both (feed b == 60) _ _ (First m) (λ _. tt) (λ _. tt))

  in_rawtext : (m n : Mode) → First m (M.in_rawtext n (feed b))
  in_rawtext m n = cond_both (feed b == 60) _ _ (First m) (λ _. tt) (λ _. tt)

  in_escaped : (m n : Mode) → First m (M.in_escaped n (feed b))
  in_escaped m n = cond_both (feed b == 45) _ _ (First m) (λ _. tt) (λ _. cond_both (feed b == 60) _ _ (First m) (λ _. tt) (λ _. tt))

  after_dashes : (m : Mode) → First m (M.after_dashes (feed b))
  after_dashes m =
      cond_both (feed b == 45) _ _ (First m) (λ _. tt)
      (λ _. cond_both (feed b == 60) _ _ (First m) (λ _. tt) (λ _. cond_both (feed b == 62) _ _ (First m) (λ _. tt) (λ _. tt)))

  pub first_begun : (m : Mode) → First m (M.first m (feed b))
  first_begun mode.Data = in_data
  first_begun mode.Title = in_rcdata mode.Title mode.Title
  first_begun mode.Textarea = in_rcdata mode.Textarea mode.Textarea
  first_begun mode.ContextText = in_rcdata mode.ContextText mode.ContextText
  first_begun mode.Style = in_rawtext mode.Style mode.Style
  first_begun mode.Xmp = in_rawtext mode.Xmp mode.Xmp
  first_begun mode.Iframe = in_rawtext mode.Iframe mode.Iframe
  first_begun mode.Noembed = in_rawtext mode.Noembed mode.Noembed
  first_begun mode.Noframes = in_rawtext mode.Noframes mode.Noframes
  first_begun mode.Noscript = in_rawtext mode.Noscript mode.Noscript
  first_begun mode.Script = in_rawtext mode.Script mode.Script
  first_begun mode.ScriptEscaped = in_escaped mode.ScriptEscaped mode.ScriptEscapedDash
  first_begun mode.ScriptEscapedDash = in_escaped mode.ScriptEscapedDash mode.ScriptEscapedDashDash
  first_begun mode.ScriptEscapedDashDash = after_dashes mode.ScriptEscapedDashDash
  first_begun mode.Plaintext = tt
