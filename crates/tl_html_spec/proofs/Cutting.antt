-- The pieces of a page, joined, are the page, and what they emit are its tokens.
use Rattle.std.proofs.Common.{◌≡◌, ◌⊎◌, ℕ, List, [], ◌∷◌, ◌++◌, Option, Some, None, refl, ap, sym, ◌∙◌, inl, inr, append_assoc, append-nil, subst, subst₂}
use Rattle.std.specs.Prelude.{◌&&◌, option_map}
use Rattle.std.proofs.lemmas.Bool.{cases_Bool}
use Rattle.tl_html_spec.specs.HtmlTokenizer.{HtmlToken, State, at_end, data_state, html_tokens, without_mark}
use Rattle.tl_html_spec.specs.Reader.{Reader, Rest, after, at, emitted, emitting_before, next, rest_before, tokens_of}
use Rattle.tl_html_spec.specs.Pieces.{AreRead, Piece, are_characters, bytes_of, first_byte, piece, pieces, pieces_from, pieces_of, read_before, runs, tokens_in, with_piece}
use Rattle.tl_html_spec.proofs.Fold.{after_append, emitted_append, page_read, tokens_append}
use Rattle.tl_html_spec.proofs.Resting.{tokens_rest}

pub none_or_some : {A : Type 0} (o : Option A) → (o ≡ None) ⊎ ((x : A) × (o ≡ Some x))
none_or_some None = inl refl
none_or_some (Some x) = inr (x, refl)

pub bytes_joined : (s : State) (r : Reader) (bs : List ℕ) (ts : List HtmlToken) (text : List ℕ) → bytes_of (pieces_from s r bs ts text) ≡ bs ++ text
bytes_joined s r bs ts [] = refl
bytes_joined s r bs ts (b ∷ text) = elim (none_or_some (rest_before r b)) [
  | inl e ↦ rw (e, pieces_from) (bytes_joined s (next r b) (bs ++ b ∷ []) (ts ++ emitted r (b ∷ [])) text ∙ append_assoc bs (b ∷ []) text)
  | inr p ↦ rw (p.1, pieces_from) (ap (λ t. bs ++ t) (bytes_joined (p.0).state (next (at (p.0).state) b) (b ∷ []) (emitted (at (p.0).state) (b ∷ [])) text))
]

pub tokens_joined : (s : State) (r : Reader) (bs : List ℕ) (ts : List HtmlToken) (text : List ℕ) → tokens_in (pieces_from s r bs ts text) ≡ ts ++ tokens_of r text
tokens_joined s r bs ts [] = append-nil (ts ++ at_end r.state)
tokens_joined s r bs ts (b ∷ text) = elim (none_or_some (rest_before r b)) [
  | inl e ↦ rw (e, pieces_from) (
      tokens_joined s (next r b) (bs ++ b ∷ []) (ts ++ emitted r (b ∷ [])) text
      ∙ append_assoc ts (emitted r (b ∷ [])) (tokens_of (next r b) text)
      ∙ ap (λ t. ts ++ t) (sym (tokens_append r (b ∷ []) text)))
  | inr p ↦ rw (p.1, pieces_from) (
      ap (λ t. (ts ++ (p.0).emits) ++ t)
      (tokens_joined (p.0).state (next (at (p.0).state) b) (b ∷ []) (emitted (at (p.0).state) (b ∷ [])) text ∙ sym (tokens_append (at (p.0).state) (b ∷ []) text))
      ∙ append_assoc ts (p.0).emits (tokens_of (at (p.0).state) (b ∷ text))
      ∙ ap (λ t. ts ++ t) (sym (tokens_rest r b text p.0 p.1)))
]

text_bytes : (text : List ℕ) → bytes_of (pieces_of text) ≡ text
text_bytes [] = refl
text_bytes (b ∷ text) = bytes_joined data_state (next (at data_state) b) (b ∷ []) (emitted (at data_state) (b ∷ [])) text

text_tokens : (text : List ℕ) → tokens_in (pieces_of text) ≡ tokens_of (at data_state) text
text_tokens [] = refl
text_tokens (b ∷ text) =
    tokens_joined data_state (next (at data_state) b) (b ∷ []) (emitted (at data_state) (b ∷ [])) text ∙ sym (tokens_append (at data_state) (b ∷ []) text)

pub bytes_are : (page : List ℕ) → bytes_of (pieces page) ≡ without_mark page
bytes_are page = text_bytes (without_mark page)

pub tokens_are : (page : List ℕ) → tokens_in (pieces page) ≡ html_tokens page
tokens_are page = text_tokens (without_mark page) ∙ page_read page

-- each piece is read alone

pub record Front (b : ℕ) (ps : List Piece) : Type 0 where
  pub first : Piece
  pub more : List Piece
  pub parts : ps ≡ first ∷ more
  pub byte : first_byte first.bytes ≡ Some b

pub front_of : (b : ℕ) (bs : List ℕ) (s : State) (r : Reader) (ts : List HtmlToken) (text : List ℕ) → Front b (pieces_from s r (b ∷ bs) ts text)
front_of b bs s r ts [] = record { first = piece s (b ∷ bs) (ts ++ at_end r.state); more = []; parts = refl; byte = refl }
front_of b bs s r ts (c ∷ text) = elim (none_or_some (rest_before r c)) [
  | inl e ↦ rw (e, pieces_from) (front_of b (bs ++ c ∷ []) s (next r c) (ts ++ emitted r (c ∷ [])) text)
  | inr p ↦ rw (p.1, pieces_from) (record {
    first = piece s (b ∷ bs) (ts ++ (p.0).emits);
    more = pieces_from (p.0).state (next (at (p.0).state) c) (c ∷ []) (emitted (at (p.0).state) (c ∷ [])) text;
    parts = refl;
    byte = refl;
  })
]

pub tokens_end : (r : Reader) (bs : List ℕ) → emitted r bs ++ at_end (after r bs).state ≡ tokens_of r bs
tokens_end r bs = sym (tokens_append r bs []) ∙ ap (tokens_of r) (append-nil bs)

pub read_before_is : (s : State) (bs : List ℕ) (b : ℕ) (rest : Rest) → rest_before (after (at s) bs) b ≡ Some rest →
    read_before s bs (Some b) ≡ Some (emitting_before (emitted (at s) bs) rest)
read_before_is s bs b rest e = ap (option_map (emitting_before (emitted (at s) bs))) e

pub pieces_read : (s : State) (bs : List ℕ) (text : List ℕ) → AreRead s (pieces_from s (after (at s) bs) bs (emitted (at s) bs) text)
pieces_read s bs [] = (refl, tokens_end (at s) bs)
pieces_read s bs (b ∷ text) = elim (none_or_some (rest_before (after (at s) bs) b)) [
  | inl e ↦ rw (e, pieces_from) (
      subst₂ (λ r ts. AreRead s (pieces_from s r (bs ++ b ∷ []) ts text))
      (after_append (at s) bs (b ∷ [])) (emitted_append (at s) bs (b ∷ []))
      (pieces_read s (bs ++ b ∷ []) text))
  | inr p ↦ rw (p.1, pieces_from) (
      let q : State = (p.0).state in
      let here : Piece = piece s bs (emitted (at s) bs ++ (p.0).emits) in
      let f = front_of b [] q (next (at q) b) (emitted (at q) (b ∷ [])) text in
      let more = subst (AreRead q) f.parts (pieces_read q (b ∷ []) text) in
      subst (λ ps. AreRead s (here ∷ ps)) (sym f.parts)
      (emitting_before (emitted (at s) bs) p.0, refl, ap (read_before s bs) f.byte ∙ read_before_is s bs b p.0 p.1, refl, more))
]

text_is_read : (text : List ℕ) → AreRead data_state (pieces_of text)
text_is_read [] = tt
text_is_read (b ∷ text) = pieces_read data_state (b ∷ []) text

pub page_is_read : (page : List ℕ) → AreRead data_state (pieces page)
page_is_read page = text_is_read (without_mark page)

-- runs joined change neither the bytes nor the tokens

with_piece_bytes : (p : Piece) (ps : List Piece) → bytes_of (with_piece p ps) ≡ p.bytes ++ bytes_of ps
with_piece_bytes p [] = refl
with_piece_bytes p (q ∷ ps) = elim (cases_Bool (are_characters p.tokens && are_characters q.tokens)) [
  | inl y ↦ rw y (append_assoc p.bytes q.bytes (bytes_of ps))
  | inr n ↦ rw n refl
]

with_piece_tokens : (p : Piece) (ps : List Piece) → tokens_in (with_piece p ps) ≡ p.tokens ++ tokens_in ps
with_piece_tokens p [] = refl
with_piece_tokens p (q ∷ ps) = elim (cases_Bool (are_characters p.tokens && are_characters q.tokens)) [
  | inl y ↦ rw y (append_assoc p.tokens q.tokens (tokens_in ps))
  | inr n ↦ rw n refl
]

pub runs_bytes : (ps : List Piece) → bytes_of (runs ps) ≡ bytes_of ps
runs_bytes [] = refl
runs_bytes (p ∷ ps) = with_piece_bytes p (runs ps) ∙ ap (λ t. p.bytes ++ t) (runs_bytes ps)

pub runs_tokens : (ps : List Piece) → tokens_in (runs ps) ≡ tokens_in ps
runs_tokens [] = refl
runs_tokens (p ∷ ps) = with_piece_tokens p (runs ps) ∙ ap (λ t. p.tokens ++ t) (runs_tokens ps)
