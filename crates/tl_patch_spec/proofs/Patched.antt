-- One place of a page changed: what is put there, what is cut out.
use Rattle.std.proofs.Common.{◌≡◌, ℕ, List, [], ◌∷◌, ◌++◌, map, Some, refl, ap, sym, subst, ◌∙◌}
use Rattle.tl_html_spec.specs.HtmlTokenizer.{Character, HtmlToken, State, data_state, html_tokens, without_mark}
use Rattle.tl_html_spec.specs.Reader.{read}
use Rattle.tl_html_spec.specs.Pieces.{AreRead, Piece, bytes_of, first_byte, piece, pieces, read_before, tokens_in}
use Rattle.tl_patch_spec.specs.Markup.{separator, separator_piece, text_markup, text_piece}
use Rattle.tl_html_spec.proofs.Cutting.{page_is_read}
use Rattle.tl_html_spec.proofs.Kept.{kept_before, pieces_made, same_seam}
use Rattle.tl_html_spec.proofs.Resting.{strict_rest}
use Rattle.tl_patch_spec.proofs.Writing.{Reads, closed_before, text_closed}

pub rest_is : (s : State) (p : Piece) (ps : List Piece) → AreRead s (p ∷ ps) → p.rest ≡ s
rest_is s p [] h = h.0
rest_is s p (q ∷ ps) h = h.1

-- what is read of a list of pieces is read of its end
pub from_there : (s : State) (os : List Piece) (x : Piece) (xs : List Piece) → AreRead s (os ++ x ∷ xs) → AreRead x.rest (x ∷ xs)
from_there s [] x xs h = subst (λ z. AreRead z (x ∷ xs)) (sym (rest_is s x xs h)) h
from_there s (o ∷ []) x xs h = subst (λ z. AreRead z (x ∷ xs)) (sym (rest_is (h.0).state x xs h.4)) h.4
from_there s (o ∷ q ∷ os) x xs h = from_there (h.0).state (q ∷ os) x xs h.4

-- a piece that reads alone, whatever follows, stands before any that is read
pub before_read : (s t : State) (bytes : List ℕ) (tokens : List HtmlToken) (b : ℕ) (x : Piece) (xs : List Piece) →
    read_before s bytes (Some b) ≡ Some (record { state = t; emits = tokens }) → first_byte x.bytes ≡ Some b →
    AreRead t (x ∷ xs) → AreRead s (piece s bytes tokens ∷ x ∷ xs)
before_read s t bytes tokens b x xs e f h = (record { state = t; emits = tokens }, refl, ap (read_before s bytes) f ∙ e, refl, h)

separator_is : Reads data_state separator [] data_state
unfolding read
separator_is = record { tokens_are = refl; state_is = refl }

pub text_before : (text : List ℕ) (b : ℕ) (x : Piece) (xs : List Piece) → first_byte x.bytes ≡ Some b →
    AreRead data_state (x ∷ xs) → AreRead data_state (text_piece text ∷ x ∷ xs)
text_before text b x xs f h = before_read data_state data_state (text_markup text) (map Character text) b x xs (text_closed text b) f h

pub separator_before : (b : ℕ) (x : Piece) (xs : List Piece) → first_byte x.bytes ≡ Some b →
    AreRead data_state (x ∷ xs) → AreRead data_state (separator_piece ∷ x ∷ xs)
separator_before b x xs f h =
    before_read data_state data_state separator [] b x xs (closed_before data_state data_state separator [] b separator_is (strict_rest data_state b refl)) f h

-- in the place of pieces that begin with a tag, up to another that begins in `data`: a separator, and whatever reads there
pub put_in_place : (s : State) (ks : List Piece) (k o : Piece) (os : List Piece) (x : Piece) (xs : List Piece) (n : Piece) (ns : List Piece) (b : ℕ) →
    first_byte o.bytes ≡ Some 60 → o.rest ≡ data_state → x.rest ≡ data_state → first_byte n.bytes ≡ Some b →
    (AreRead data_state (x ∷ xs) → AreRead data_state (n ∷ ns)) →
    AreRead s (ks ++ k ∷ o ∷ (os ++ x ∷ xs)) → AreRead s (ks ++ k ∷ separator_piece ∷ n ∷ ns)
put_in_place s ks k o os x xs n ns b f d c g new h =
    kept_before s ks k o separator_piece (os ++ x ∷ xs) (n ∷ ns) (same_seam k o separator_piece f)
    (λ z there.
    let later : AreRead x.rest (x ∷ xs) = from_there z (o ∷ os) x xs there in
    subst (λ q. AreRead q (separator_piece ∷ n ∷ ns)) (sym d ∙ rest_is z o (os ++ x ∷ xs) there)
    (separator_before b n ns g (new (subst (λ q. AreRead q (x ∷ xs)) c later))))
    h

-- the same before a tag that stays
pub put_before : (s : State) (ks : List Piece) (k x : Piece) (xs : List Piece) (n : Piece) (ns : List Piece) (b : ℕ) →
    first_byte x.bytes ≡ Some 60 → x.rest ≡ data_state → first_byte n.bytes ≡ Some b →
    (AreRead data_state (x ∷ xs) → AreRead data_state (n ∷ ns)) →
    AreRead s (ks ++ k ∷ x ∷ xs) → AreRead s (ks ++ k ∷ separator_piece ∷ n ∷ ns)
put_before s ks k x xs n ns b f d g new h =
    kept_before s ks k x separator_piece xs (n ∷ ns) (same_seam k x separator_piece f)
    (λ z there.
    let e : x.rest ≡ z = rest_is z x xs there in
    subst (λ q. AreRead q (separator_piece ∷ n ∷ ns)) (sym d ∙ e)
    (separator_before b n ns g (new (subst (λ q. AreRead q (x ∷ xs)) (sym e ∙ d) there))))
    h

-- of a page

-- pieces cut out, whatever they are and whatever stands around them
pub cut_out : (page text : List ℕ) (ks : List Piece) (k o : Piece) (os : List Piece) (x : Piece) (xs : List Piece) (b : ℕ) →
    pieces page ≡ ks ++ k ∷ o ∷ (os ++ x ∷ xs) →
    first_byte o.bytes ≡ Some 60 → o.rest ≡ data_state → x.rest ≡ data_state → first_byte x.bytes ≡ Some b →
    without_mark text ≡ bytes_of (ks ++ k ∷ separator_piece ∷ x ∷ xs) → html_tokens text ≡ tokens_in (ks ++ k ∷ separator_piece ∷ x ∷ xs)
cut_out page text ks k o os x xs b is f d c g t =
    pieces_made text (ks ++ k ∷ separator_piece ∷ x ∷ xs)
    (put_in_place data_state ks k o os x xs x xs b f d c g (λ r. r) (subst (AreRead data_state) is (page_is_read page))) t

-- a text in their place
pub text_instead : (page text new : List ℕ) (ks : List Piece) (k o : Piece) (os : List Piece) (x : Piece) (xs : List Piece) (b c : ℕ) →
    pieces page ≡ ks ++ k ∷ o ∷ (os ++ x ∷ xs) →
    first_byte o.bytes ≡ Some 60 → o.rest ≡ data_state → x.rest ≡ data_state → first_byte x.bytes ≡ Some b →
    first_byte (text_markup new) ≡ Some c →
    without_mark text ≡ bytes_of (ks ++ k ∷ separator_piece ∷ text_piece new ∷ x ∷ xs) →
    html_tokens text ≡ tokens_in (ks ++ k ∷ separator_piece ∷ text_piece new ∷ x ∷ xs)
text_instead page text new ks k o os x xs b c is f d r g h t =
    pieces_made text (ks ++ k ∷ separator_piece ∷ text_piece new ∷ x ∷ xs)
    (put_in_place data_state ks k o os x xs (text_piece new) (x ∷ xs) c f d r h (text_before new b x xs g) (subst (AreRead data_state) is (page_is_read page))) t

-- a text before a tag
pub text_put : (page text new : List ℕ) (ks : List Piece) (k x : Piece) (xs : List Piece) (c : ℕ) →
    pieces page ≡ ks ++ k ∷ x ∷ xs → first_byte x.bytes ≡ Some 60 → x.rest ≡ data_state → first_byte (text_markup new) ≡ Some c →
    without_mark text ≡ bytes_of (ks ++ k ∷ separator_piece ∷ text_piece new ∷ x ∷ xs) →
    html_tokens text ≡ tokens_in (ks ++ k ∷ separator_piece ∷ text_piece new ∷ x ∷ xs)
text_put page text new ks k x xs c is f d h t =
    pieces_made text (ks ++ k ∷ separator_piece ∷ text_piece new ∷ x ∷ xs)
    (put_before data_state ks k x xs (text_piece new) (x ∷ xs) c f d h (text_before new 60 x xs f) (subst (AreRead data_state) is (page_is_read page))) t

-- and any pieces that read alone there, as markup does whose tokens end where they begin
pub pieces_instead : (page text : List ℕ) (ks : List Piece) (k o : Piece) (os : List Piece) (x : Piece) (xs : List Piece) (n : Piece) (ns : List Piece) (b : ℕ) →
    pieces page ≡ ks ++ k ∷ o ∷ (os ++ x ∷ xs) →
    first_byte o.bytes ≡ Some 60 → o.rest ≡ data_state → x.rest ≡ data_state → first_byte n.bytes ≡ Some b →
    (AreRead data_state (x ∷ xs) → AreRead data_state (n ∷ ns)) →
    without_mark text ≡ bytes_of (ks ++ k ∷ separator_piece ∷ n ∷ ns) → html_tokens text ≡ tokens_in (ks ++ k ∷ separator_piece ∷ n ∷ ns)
pieces_instead page text ks k o os x xs n ns b is f d r g new t =
    pieces_made text (ks ++ k ∷ separator_piece ∷ n ∷ ns)
    (put_in_place data_state ks k o os x xs n ns b f d r g new (subst (AreRead data_state) is (page_is_read page))) t
