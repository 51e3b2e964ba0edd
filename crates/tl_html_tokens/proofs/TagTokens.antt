-- The token of a tag is what is read first of the page from there on.
use Rattle.std.proofs.Common.{◌≡◌, ◌<◌, ℕ, true, false, ◌==◌, List, [], ◌∷◌, ◌++◌, ◌-◌, ◌+◌, length, take, drop, get_or, refl, ap, sym, ◌∙◌, arith, true≢false, append-nil}
use Rattle.std.specs.Char.{is_ascii_alphabetic}
use Rattle.std.proofs.lemmas.Bool.{eqb-true, false_from_ne_true}
use Rattle.std.proofs.lemmas.List.{drop_more}
use Rattle.tl_html_spec.specs.HtmlTokenizer as T
use Rattle.tl_html_spec.specs.HtmlTokenizer.{HtmlToken, State, data_state, new_tag, step}
use Rattle.tl_html_spec.specs.Pieces.{piece, runs, tokens_in}
use Rattle.tl_html_spec.specs.Reader.{at, emitted, feed, next, read, tokens_of}
use Rattle.tl_html_spec.proofs.Cutting.{runs_tokens, tokens_joined}
use Rattle.tl_html_tokens.specs.Fronts.{IsFront, pieces_at}
use Rattle.tl_html_tokens.specs.Modes.{state_of}
use Rattle.tl_html_tokens.specs.Whole.{IsWhole}
use Rattle.tl_html_tokens.specs.declared.front.Front.{Front}
use Rattle.tl_html_tokens.specs.declared.mode.Mode.TheVariants as mode
use Rattle.tl_html_tokens.proofs.Opening.{alike_is, goes_is, named, plain_is}
use Rattle.tl_html_tokens.proofs.Passing.{feed_is}

pieces_tokens : (s : State) (b : ℕ) (t : List ℕ) → tokens_in (pieces_at s (b ∷ t)) ≡ tokens_of (at s) (b ∷ t)
pieces_tokens s b t =
    tokens_joined s (next (at s) b) (b ∷ []) (emitted (at s) (b ∷ [])) t
    ∙ ap (λ es. es ++ tokens_of (next (at s) b) t) (append-nil (read (at s) b).emits)

-- what a page is read as from a place on begins with the tokens of what stands in front there
pub tag_tokens : (page : List ℕ) (start : ℕ) (front : Front) (tokens : List HtmlToken) → IsFront page start mode.Data front →
    IsWhole mode.Data (take (front.end - start) (drop start page)) tokens → (more : List HtmlToken) × (tokens_of (at data_state) (drop start page) ≡ tokens ++ more)
tag_tokens page start front tokens f w =
    let bytes : List ℕ = take (front.end - start) (drop start page) in
    let order : start < front.end = f.order in
    let within = f.within in
    let inside : start < length page = omega arith in
    let split = drop_more page start 0 inside in
    let same : tokens ≡ f.tokens =
    sym (append-nil tokens) ∙ ap tokens_in (ap runs (sym w) ∙ f.alone) ∙ append-nil f.tokens in (
      tokens_in (runs (pieces_at (state_of front.mode) (drop front.end page))),
      ap (tokens_of (at data_state)) split
          ∙ sym (pieces_tokens data_state (get_or page start 0) (drop (start + 1) page))
          ∙ ap (λ s. tokens_in (pieces_at data_state s)) (sym split)
          ∙ sym (runs_tokens (pieces_at data_state (drop start page)))
          ∙ ap tokens_in f.read
          ∙ joined (piece data_state bytes f.tokens) (pieces_at (state_of front.mode) (drop front.end page))
          ∙ ap (λ ts. ts ++ tokens_in (runs (pieces_at (state_of front.mode) (drop front.end page)))) (sym same),
    )
  where
    joined : (p : Rattle.tl_html_spec.specs.Pieces.Piece) (ps : List Rattle.tl_html_spec.specs.Pieces.Piece) → tokens_in (runs (p ∷ ps)) ≡ p.tokens ++ tokens_in (runs ps)
    joined p ps = runs_tokens (p ∷ ps) ∙ ap (λ ts. p.tokens ++ ts) (sym (runs_tokens ps))

-- how a tag begins

no_return : (b : ℕ) → is_ascii_alphabetic b ≡ true → (b == 13) ≡ false
no_return b h = false_from_ne_true (b == 13) (λ y. true≢false (sym h ∙ ap is_ascii_alphabetic (eqb-true b 13 y)))

differs : (b k : ℕ) → is_ascii_alphabetic b ≡ true → is_ascii_alphabetic k ≡ false → (b == k) ≡ false
differs b k h n = false_from_ne_true (b == k) (λ y. true≢false (sym h ∙ ap is_ascii_alphabetic (eqb-true b k y) ∙ n))

less_goes : (u : List ℕ) → tokens_of (at data_state) (60 ∷ u) ≡ tokens_of (at T.tag_open) u
less_goes u = goes_is data_state T.tag_open 60 u (T.to T.tag_open) (plain_is data_state 60 (T.to T.tag_open) refl) refl refl refl

pub start_begins : (b : ℕ) (u : List ℕ) → is_ascii_alphabetic b ≡ true → tokens_of (at data_state) (60 ∷ b ∷ u) ≡ tokens_of (at (T.tag_name (new_tag false))) (b ∷ u)
start_begins b u h =
    let fed : feed b ≡ b = feed_is b (no_return b h) in
    let first : step T.tag_open b ≡ T.again_in (T.tag_name (new_tag false)) = rw (differs b 33 h refl, differs b 47 h refl, h) refl in
    less_goes (b ∷ u)
    ∙ alike_is T.tag_open (T.tag_name (new_tag false)) b u
    (named T.tag_open false (feed b) (ap (λ k. step T.tag_open k) fed ∙ first))

pub end_begins : (b : ℕ) (u : List ℕ) → is_ascii_alphabetic b ≡ true → tokens_of (at data_state) (60 ∷ 47 ∷ b ∷ u) ≡ tokens_of (at (T.tag_name (new_tag true))) (b ∷ u)
end_begins b u h =
    let fed : feed b ≡ b = feed_is b (no_return b h) in
    let first : step T.end_tag_open b ≡ T.again_in (T.tag_name (new_tag true)) = rw h refl in
    less_goes (47 ∷ b ∷ u)
    ∙ goes_is T.tag_open T.end_tag_open 47 (b ∷ u) (T.to T.end_tag_open) (plain_is T.tag_open 47 (T.to T.end_tag_open) refl) refl refl refl
    ∙ alike_is T.end_tag_open (T.tag_name (new_tag true)) b u
    (named T.end_tag_open true (feed b) (ap (λ k. step T.end_tag_open k) fed ∙ first))
