-- Closed changes read as asked, however many there are.
use Rattle.std.proofs.Common.{◌≡◌, ℕ, List, [], ◌∷◌, ◌++◌, Option, Some, None, refl, ap, sym, subst, ◌∙◌}
use Rattle.tl_html_spec.specs.HtmlTokenizer.{HtmlToken, State, data_state, html_tokens, without_mark}
use Rattle.tl_patch_spec.specs.PieceChanges.{AreClosed, BeginIn, PieceChange, Exchange, GoOnAlike, GoOnBoth, GoOnIn, Keep, Replace, StandAlike, new_pieces, old_pieces}
use Rattle.tl_html_spec.specs.Pieces.{AreRead, Piece, bytes_of, pieces, read_before, tokens_in}
use Rattle.tl_html_spec.specs.Reader.{Rest}
use Rattle.tl_html_spec.proofs.Cutting.{page_is_read}
use Rattle.tl_html_spec.proofs.Kept.{pieces_made}
use Rattle.tl_patch_spec.proofs.Patched.{from_there, rest_is}
use Rattle.tl_html_spec.proofs.Resting.{strict_rest}
use Rattle.tl_patch_spec.proofs.Tag.{next_byte, reads_at_end}
use Rattle.tl_patch_spec.proofs.Writing.{closed_before}

kept_reads : (s : State) (p : Piece) (old new : List Piece) → GoOnAlike old new → ((z : State) → AreRead z old → AreRead z new) →
    AreRead s (p ∷ old) → AreRead s (p ∷ new)
kept_reads s p [] [] e f h = h
kept_reads s p (o ∷ os) (n ∷ ns) e f h = (h.0, h.1, ap (read_before s p.bytes) (sym e) ∙ h.2, h.3, f (h.0).state h.4)
kept_reads s p [] (n ∷ ns) e f h = absurd e
kept_reads s p (o ∷ os) [] e f h = absurd e

state_same : (t : State) (ts : List HtmlToken) (r : Rest) → Some (record { state = t; emits = ts }) ≡ Some r → t ≡ r.state
state_same t ts r e = ap state_in e
  where
    state_in : Option Rest → State
    state_in None = t
    state_in (Some q) = q.state

changed_reads : (p q : Piece) (old new : List Piece) → StandAlike p q → GoOnBoth old new → ((z : State) → AreRead z old → AreRead z new) →
    AreRead p.rest (p ∷ old) → AreRead p.rest (q ∷ new)
changed_reads p q [] [] a e f h =
    (a.place, sym (reads_at_end p.rest a.until q.bytes q.tokens (record { tokens_are = a.new_tokens; state_is = a.new_state }) a.is_rest))
changed_reads p q (o ∷ os) (n ∷ ns) a e f h =
    let s : State = p.rest in
    let b = next_byte s p.bytes o.bytes h.0 h.2 in
    let was : Some (record { state = a.until; emits = p.tokens }) ≡ Some h.0 =
    sym (ap (read_before s p.bytes) b.1
    ∙ closed_before s a.until p.bytes p.tokens b.0 (record { tokens_are = a.old_tokens; state_is = a.old_state }) (strict_rest a.until b.0 a.is_rest)) ∙ h.2 in
    let same : a.until ≡ (h.0).state = state_same a.until p.tokens h.0 was in (
      record { state = a.until; emits = q.tokens },
      a.place,
      ap (read_before s q.bytes) e.1
          ∙ closed_before s a.until q.bytes q.tokens e.0 (record { tokens_are = a.new_tokens; state_is = a.new_state }) (strict_rest a.until e.0 a.is_rest),
      refl,
      f a.until (subst (λ z. AreRead z (o ∷ os)) (sym same) h.4),
    )
changed_reads p q [] (n ∷ ns) a e f h = absurd e
changed_reads p q (o ∷ os) [] a e f h = absurd e

begins : (s z : State) (ps : List Piece) → BeginIn z ps → AreRead s ps → s ≡ z
begins s z [] b h = absurd b
begins s z (p ∷ ps) b h = sym (rest_is s p ps h) ∙ b

rest_reads : (s z : State) (ps old : List Piece) → GoOnIn z old → AreRead s (ps ++ old) → AreRead z old
rest_reads s z ps [] b h = tt
rest_reads s z ps (x ∷ xs) b h = subst (λ y. AreRead y (x ∷ xs)) b (from_there s ps x xs h)

changes_read : (changes : List PieceChange) (s : State) → AreClosed changes → AreRead s (old_pieces changes) → AreRead s (new_pieces changes)
changes_read [] s c h = h
changes_read (Keep p ∷ changes) s c h =
    kept_reads s p (old_pieces changes) (new_pieces changes) c.0 (λ z. changes_read changes z c.1) h
changes_read (Exchange p q ∷ changes) s c h =
    let e : p.rest ≡ s = rest_is s p (old_pieces changes) h in
    subst (λ z. AreRead z (q ∷ new_pieces changes)) e
    (changed_reads p q (old_pieces changes) (new_pieces changes) c.0 c.1 (λ z. changes_read changes z c.2)
    (subst (λ z. AreRead z (p ∷ old_pieces changes)) (sym e) h))
changes_read (Replace ps qs ∷ changes) s c h =
    subst (λ z. AreRead z (qs ++ new_pieces changes)) (sym (begins s c.0 (ps ++ old_pieces changes) c.1 h))
    (c.3 (changes_read changes c.0 c.4 (rest_reads s c.0 ps (old_pieces changes) c.2 h)))

pub closed_changes_read : (page text : List ℕ) (changes : List PieceChange) → old_pieces changes ≡ pieces page → AreClosed changes →
    without_mark text ≡ bytes_of (new_pieces changes) → html_tokens text ≡ tokens_in (new_pieces changes)
closed_changes_read page text changes e c t =
    pieces_made text (new_pieces changes) (changes_read changes data_state c (subst (AreRead data_state) (sym e) (page_is_read page))) t
