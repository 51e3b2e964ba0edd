-- The bytes of a first piece are one piece by themselves.
use Rattle.std.proofs.Common.{◌≡◌, ◌<◌, ◌≤◌, ◌+◌, ℕ, List, [], ◌∷◌, ◌++◌, length, length-append, inl, inr, ap, ap₂, sym, ◌∙◌, append-nil, append_assoc, arith}
use Rattle.tl_html_spec.specs.HtmlTokenizer.{HtmlToken, State, at_end}
use Rattle.tl_html_spec.specs.Pieces.{Piece, piece, pieces_from}
use Rattle.tl_html_spec.specs.Reader.{Reader, at, emitted, next, read, rest_before, tokens_of}
use Rattle.tl_html_spec.proofs.Cutting.{none_or_some}
use Rattle.tl_html_tokens.specs.Fronts.{pieces_at}

pub first_is : (p q : Piece) (ps qs : List Piece) → p ∷ ps ≡ q ∷ qs → p ≡ q
first_is p q ps qs e = cc

pub later_is : (p q : Piece) (ps qs : List Piece) → p ∷ ps ≡ q ∷ qs → ps ≡ qs
later_is p q ps qs e = cc

first_whole : (x rest : List ℕ) (s : State) (r : Reader) (acc : List ℕ) (ts : List HtmlToken) (p : Piece) (qs : List Piece) → pieces_from s r acc ts (x ++ rest) ≡ p ∷ qs →
    length acc + length x ≤ length p.bytes → pieces_from s r acc ts x ≡ piece s (acc ++ x) (ts ++ tokens_of r x) ∷ []
first_whole [] rest s r acc ts p qs e l = ap (λ bs. piece s bs (ts ++ at_end r.state) ∷ []) (sym (append-nil acc))
first_whole (b ∷ x) rest s r acc ts p qs e l = elim (none_or_some (rest_before r b)) [
  | inl n ↦ (
      let on : pieces_from s (next r b) (acc ++ b ∷ []) (ts ++ emitted r (b ∷ [])) (x ++ rest) ≡ p ∷ qs = rw (n, pieces_from) at e in
      let longer = length-append acc (b ∷ []) in
      let more = first_whole x rest s (next r b) (acc ++ b ∷ []) (ts ++ emitted r (b ∷ [])) p qs on (omega arith) in
      rw (n, pieces_from) (more ∙ ap₂ (λ bs us. piece s bs us ∷ []) (append_assoc acc (b ∷ []) x)
      (ap (λ us. (ts ++ us) ++ tokens_of (next r b) x) (append-nil (read r b).emits) ∙ append_assoc ts (read r b).emits (tokens_of (next r b) x))))
  | inr k ↦ (
      let cut : piece s acc (ts ++ (k.0).emits) ∷ pieces_at (k.0).state (b ∷ (x ++ rest)) ≡ p ∷ qs = rw (k.1, pieces_from) at e in
      let same : length acc ≡ length p.bytes = ap (λ (q : Piece). length q.bytes) (first_is (piece s acc (ts ++ (k.0).emits)) p (pieces_at (k.0).state (b ∷ (x ++ rest))) qs cut) in
      absurd (omega arith))
]

pub first_alone : (s : State) (bytes rest : List ℕ) (p : Piece) (qs : List Piece) → pieces_at s (bytes ++ rest) ≡ p ∷ qs → length bytes ≤ length p.bytes → 0 < length bytes →
    pieces_at s bytes ≡ piece s bytes (tokens_of (at s) bytes) ∷ []
first_alone s [] rest p qs e l h = absurd (omega arith)
first_alone s (b ∷ x) rest p qs e l h =
    first_whole x rest s (next (at s) b) (b ∷ []) (emitted (at s) (b ∷ [])) p qs e (omega arith)
    ∙ ap (λ us. piece s (b ∷ x) (us ++ tokens_of (next (at s) b) x) ∷ []) (append-nil (read (at s) b).emits)
