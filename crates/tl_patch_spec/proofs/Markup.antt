-- Markup that leaves nothing pending is read the same whatever stands around it.
use Rattle.std.proofs.Common.{◌≡◌, ℕ, true, List, [], ◌∷◌, ◌++◌, Some, refl, ap, sym, subst, subst₂, ◌∙◌, inl, inr, append_assoc, append-nil, true≢false}
use Rattle.tl_html_spec.specs.HtmlTokenizer.{State, at_end, data_state, html_tokens, plaintext, raw, without_mark}
use Rattle.tl_html_spec.specs.Reader.{Reader, after, at, emitted, emitting_before, is_at_rest, next, rest_before}
use Rattle.tl_html_spec.specs.Pieces.{AreRead, Piece, bytes_of, first_byte, piece, pieces, pieces_from, pieces_of, read_before, tokens_in}
use Rattle.tl_patch_spec.specs.Markup.{separator_piece}
use Rattle.tl_html_spec.proofs.Cutting.{front_of, none_or_some, page_is_read, read_before_is}
use Rattle.tl_html_spec.proofs.Fold.{after_append, emitted_append}
use Rattle.tl_html_spec.proofs.Kept.{pieces_made}
use Rattle.tl_patch_spec.proofs.Patched.{put_before, put_in_place}
use Rattle.tl_html_spec.proofs.Resting.{after_rest, strict_rest}
use Rattle.tl_patch_spec.proofs.Writing.{closed_before}

pub rest_ends : (t : State) → is_at_rest t ≡ true → at_end t ≡ []
rest_ends data_state r = refl
rest_ends (raw x) r = refl
rest_ends plaintext r = refl
rest_ends _ r = absurd (true≢false (sym r))

pieces_then : (s t : State) (bs text : List ℕ) (x : Piece) (xs : List Piece) (b : ℕ) →
    after (at s) (bs ++ text) ≡ at t → is_at_rest t ≡ true → first_byte x.bytes ≡ Some b → AreRead t (x ∷ xs) →
    AreRead s (pieces_from s (after (at s) bs) bs (emitted (at s) bs) text ++ x ∷ xs)
pieces_then s t bs [] x xs b a r f h =
    let there : after (at s) bs ≡ at t = ap (after (at s)) (sym (append-nil bs)) ∙ a in (
      record { state = t; emits = emitted (at s) bs },
      refl,
      ap (read_before s bs) f ∙ closed_before s t bs (emitted (at s) bs) b (record { tokens_are = refl; state_is = there }) (strict_rest t b r),
      ap (λ (q : Reader). emitted (at s) bs ++ at_end q.state) there ∙ ap (λ ts. emitted (at s) bs ++ ts) (rest_ends t r) ∙ append-nil (emitted (at s) bs),
      h,
    )
pieces_then s t bs (c ∷ text) x xs b a r f h = elim (none_or_some (rest_before (after (at s) bs) c)) [
  | inl e ↦ rw (e, pieces_from) (
      subst₂ (λ q ts. AreRead s (pieces_from s q (bs ++ c ∷ []) ts text ++ x ∷ xs))
      (after_append (at s) bs (c ∷ [])) (emitted_append (at s) bs (c ∷ []))
      (pieces_then s t (bs ++ c ∷ []) text x xs b (ap (after (at s)) (append_assoc bs (c ∷ []) text) ∙ a) r f h))
  | inr p ↦ rw (p.1, pieces_from) (
      let q : State = (p.0).state in
      let here : Piece = piece s bs (emitted (at s) bs ++ (p.0).emits) in
      let front = front_of c [] q (next (at q) c) (emitted (at q) (c ∷ [])) text in
      let later : after (at q) (c ∷ text) ≡ at t = sym (after_rest (after (at s) bs) c text p.0 p.1) ∙ sym (after_append (at s) bs (c ∷ text)) ∙ a in
      let more = subst (λ ps. AreRead q (ps ++ x ∷ xs)) front.parts (pieces_then q t (c ∷ []) text x xs b later r f h) in
      subst (λ ps. AreRead s (here ∷ (ps ++ x ∷ xs))) (sym front.parts)
      (emitting_before (emitted (at s) bs) p.0, refl, ap (read_before s bs) front.byte ∙ read_before_is s bs c p.0 p.1, refl, more))
]

pub markup_before : (markup : List ℕ) (b : ℕ) (x : Piece) (xs : List Piece) → after (at data_state) markup ≡ at data_state → first_byte x.bytes ≡ Some b →
    AreRead data_state (x ∷ xs) → AreRead data_state (pieces_of markup ++ x ∷ xs)
markup_before [] b x xs a f h = h
markup_before (c ∷ markup) b x xs a f h = pieces_then data_state data_state (c ∷ []) markup x xs b a refl f h

-- in the place of pieces, or before one that stays
pub markup_instead : (page text : List ℕ) (c : ℕ) (markup : List ℕ) (ks : List Piece) (k o : Piece) (os : List Piece) (x : Piece) (xs : List Piece) (b : ℕ) →
    pieces page ≡ ks ++ k ∷ o ∷ (os ++ x ∷ xs) →
    first_byte o.bytes ≡ Some 60 → o.rest ≡ data_state → x.rest ≡ data_state → first_byte x.bytes ≡ Some b →
    after (at data_state) (c ∷ markup) ≡ at data_state →
    without_mark text ≡ bytes_of (ks ++ k ∷ separator_piece ∷ (pieces_of (c ∷ markup) ++ x ∷ xs)) →
    html_tokens text ≡ tokens_in (ks ++ k ∷ separator_piece ∷ (pieces_of (c ∷ markup) ++ x ∷ xs))
markup_instead page text c markup ks k o os x xs b is f d r g closed t =
    let front = front_of c [] data_state (next (at data_state) c) (emitted (at data_state) (c ∷ [])) markup in
    let reads : AreRead data_state (ks ++ k ∷ separator_piece ∷ front.first ∷ (front.more ++ x ∷ xs)) =
    put_in_place data_state ks k o os x xs front.first (front.more ++ x ∷ xs) c f d r front.byte
    (λ h. subst (λ ps. AreRead data_state (ps ++ x ∷ xs)) front.parts (pieces_then data_state data_state (c ∷ []) markup x xs b closed refl g h))
    (subst (AreRead data_state) is (page_is_read page)) in
    pieces_made text (ks ++ k ∷ separator_piece ∷ (pieces_of (c ∷ markup) ++ x ∷ xs))
    (subst (λ ps. AreRead data_state (ks ++ k ∷ separator_piece ∷ (ps ++ x ∷ xs))) (sym front.parts) reads) t

pub markup_put : (page text : List ℕ) (c : ℕ) (markup : List ℕ) (ks : List Piece) (k x : Piece) (xs : List Piece) →
    pieces page ≡ ks ++ k ∷ x ∷ xs → first_byte x.bytes ≡ Some 60 → x.rest ≡ data_state →
    after (at data_state) (c ∷ markup) ≡ at data_state →
    without_mark text ≡ bytes_of (ks ++ k ∷ separator_piece ∷ (pieces_of (c ∷ markup) ++ x ∷ xs)) →
    html_tokens text ≡ tokens_in (ks ++ k ∷ separator_piece ∷ (pieces_of (c ∷ markup) ++ x ∷ xs))
markup_put page text c markup ks k x xs is f d closed t =
    let front = front_of c [] data_state (next (at data_state) c) (emitted (at data_state) (c ∷ [])) markup in
    let reads : AreRead data_state (ks ++ k ∷ separator_piece ∷ front.first ∷ (front.more ++ x ∷ xs)) =
    put_before data_state ks k x xs front.first (front.more ++ x ∷ xs) c f d front.byte
    (λ h. subst (λ ps. AreRead data_state (ps ++ x ∷ xs)) front.parts (pieces_then data_state data_state (c ∷ []) markup x xs 60 closed refl f h))
    (subst (AreRead data_state) is (page_is_read page)) in
    pieces_made text (ks ++ k ∷ separator_piece ∷ (pieces_of (c ∷ markup) ++ x ∷ xs))
    (subst (λ ps. AreRead data_state (ks ++ k ∷ separator_piece ∷ (ps ++ x ∷ xs))) (sym front.parts) reads) t
