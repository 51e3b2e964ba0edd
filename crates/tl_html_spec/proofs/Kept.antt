-- Pieces that are read one by one are read as one text, and pieces that stay are read as before.
use Rattle.std.proofs.Common.{◌≡◌, ℕ, List, [], ◌∷◌, ◌++◌, Some, ap, ap₂, sym, ◌∙◌, append_assoc, append-nil}
use Rattle.tl_html_spec.specs.HtmlTokenizer.{HtmlToken, State, data_state, html_tokens, without_mark}
use Rattle.tl_html_spec.specs.Reader.{Rest, after, at, emitted, emitting_before, rest_before, tokens_of}
use Rattle.tl_html_spec.specs.Pieces.{AreRead, Piece, bytes_of, first_byte, read_before, tokens_in}
use Rattle.tl_html_spec.proofs.Fold.{page_read, tokens_append}
use Rattle.tl_html_spec.proofs.Resting.{mapped_some, tokens_rest}

-- a text before a place of rest, and what follows it, are read apart
pub read_apart : (s : State) (x y t : List ℕ) (rest : Rest) → read_before s x (first_byte y) ≡ Some rest →
    tokens_of (at s) (x ++ (y ++ t)) ≡ rest.emits ++ tokens_of (at rest.state) (y ++ t)
read_apart s x [] t rest e = cc
read_apart s x (b ∷ y) t rest e =
    let inner = mapped_some (emitting_before (emitted (at s) x)) (rest_before (after (at s) x) b) rest e in
    tokens_append (at s) x (b ∷ (y ++ t))
    ∙ ap (λ ts. emitted (at s) x ++ ts) (tokens_rest (after (at s) x) b (y ++ t) inner.0 inner.1)
    ∙ sym (append_assoc (emitted (at s) x) (inner.0).emits (tokens_of (at (inner.0).state) (b ∷ (y ++ t))))
    ∙ ap (λ (q : Rest). q.emits ++ tokens_of (at q.state) (b ∷ (y ++ t))) inner.2

pub read_together : (s : State) (p : Piece) (ps : List Piece) → AreRead s (p ∷ ps) → tokens_of (at s) (bytes_of (p ∷ ps)) ≡ tokens_in (p ∷ ps)
read_together s p [] h = ap (tokens_of (at s)) (append-nil p.bytes) ∙ sym h.1 ∙ sym (append-nil p.tokens)
read_together s p (q ∷ more) h =
    read_apart s p.bytes q.bytes (bytes_of more) h.0 h.2
    ∙ ap₂ (λ (a b : List HtmlToken). a ++ b) (sym h.3) (read_together (h.0).state q more h.4)

-- pieces that are read one by one make a page with just their tokens
pub pieces_made : (page : List ℕ) (ps : List Piece) → AreRead data_state ps → without_mark page ≡ bytes_of ps → html_tokens page ≡ tokens_in ps
pieces_made page [] h e = sym (page_read page) ∙ ap (tokens_of (at data_state)) e
pieces_made page (p ∷ ps) h e = sym (page_read page) ∙ ap (tokens_of (at data_state)) e ∙ read_together data_state p ps h

kept_next : (s : State) (k x y : Piece) (xs ys : List Piece) →
    ((z : State) → read_before z k.bytes (first_byte x.bytes) ≡ read_before z k.bytes (first_byte y.bytes)) →
    ((z : State) → AreRead z (x ∷ xs) → AreRead z (y ∷ ys)) → AreRead s (k ∷ x ∷ xs) → AreRead s (k ∷ y ∷ ys)
kept_next s k x y xs ys e f h = (h.0, h.1, sym (e s) ∙ h.2, h.3, f (h.0).state h.4)

-- what stands before a piece that is replaced stays read, where the piece before it reads the same before both
pub kept_before : (s : State) (ks : List Piece) (k x y : Piece) (xs ys : List Piece) →
    ((z : State) → read_before z k.bytes (first_byte x.bytes) ≡ read_before z k.bytes (first_byte y.bytes)) →
    ((z : State) → AreRead z (x ∷ xs) → AreRead z (y ∷ ys)) → AreRead s (ks ++ k ∷ x ∷ xs) → AreRead s (ks ++ k ∷ y ∷ ys)
kept_before s [] k x y xs ys e f h = kept_next s k x y xs ys e f h
kept_before s (l ∷ []) k x y xs ys e f h = (h.0, h.1, h.2, h.3, kept_next (h.0).state k x y xs ys e f h.4)
kept_before s (l ∷ m ∷ ks) k x y xs ys e f h = (h.0, h.1, h.2, h.3, kept_before (h.0).state (m ∷ ks) k x y xs ys e f h.4)

-- so it is where both begin with the same byte, as `<`
pub same_seam : (k x y : Piece) → first_byte x.bytes ≡ first_byte y.bytes → (z : State) →
    read_before z k.bytes (first_byte x.bytes) ≡ read_before z k.bytes (first_byte y.bytes)
same_seam k x y e z = ap (read_before z k.bytes) e
