-- Pieces that are driven one by one are driven as one text, and pieces that stay are read as before.
use Rattle.std.proofs.Common.{◌≡◌, ℕ, List, [], ◌∷◌, ◌++◌, Some, ap, ap₂, sym, ◌∙◌, append-nil, append_assoc}
use Rattle.tl_html_spec.specs.Pieces.{first_byte}
use Rattle.tl_html_spec.specs.Driven.{AreDriven, DrivenPiece, DrivenRest, Driver, Driving, Emission, after_driven, driven_before, driven_bytes, driven_emits, driven_rest_before, driven_tokens, driving, rested, taken, tokens_driven}
use Rattle.tl_html_spec.proofs.Resting.{mapped_some}
use Rattle.tl_html_spec.proofs.Driving.{memory_after, taken_append, tokens_append, tokens_rest}

-- what is emitted before a place of rest, and what the driver remembers there
pub rested_is : {M : Type 0} (d : Driver M) (s : Driving M) (x : List ℕ) (rest : DrivenRest) →
    rested d (after_driven d s x).memory rest ≡ rested d s.memory (record { state = rest.state; emits = driven_emits d s x ++ rest.emits })
rested_is d s x rest =
    ap (λ m. driving (taken d m rest.emits) rest.state) (memory_after d s x)
    ∙ sym (ap (λ m. driving m rest.state) (taken_append d s.memory (driven_emits d s x) rest.emits))

-- a text before a place of rest, and what follows it, are read apart
driven_apart : {M : Type 0} (d : Driver M) (s : Driving M) (x y t : List ℕ) (rest : DrivenRest) → driven_before d s x (first_byte y) ≡ Some rest →
    driven_tokens d s (x ++ (y ++ t)) ≡ rest.emits ++ driven_tokens d (rested d s.memory rest) (y ++ t)
driven_apart d s x [] t rest e = cc
driven_apart d s x (b ∷ y) t rest e =
    let inner = mapped_some (λ (r : DrivenRest). record { state = r.state; emits = driven_emits d s x ++ r.emits }) (driven_rest_before (after_driven d s x) b) rest e in
    tokens_append d s x (b ∷ (y ++ t))
    ∙ ap (λ es. driven_emits d s x ++ es)
    (tokens_rest d (after_driven d s x) b (y ++ t) inner.0 inner.1 ∙ ap (λ (v : Driving _). (inner.0).emits ++ driven_tokens d v (b ∷ (y ++ t))) (rested_is d s x inner.0))
    ∙ sym (append_assoc (driven_emits d s x) (inner.0).emits (driven_tokens d (rested d s.memory (record { state = (inner.0).state; emits = driven_emits d s x ++ (inner.0).emits })) (b ∷ (y ++ t))))
    ∙ ap (λ (r : DrivenRest). r.emits ++ driven_tokens d (rested d s.memory r) (b ∷ (y ++ t))) inner.2

pub driven_together : {M : Type 0} (d : Driver M) (s : Driving M) (p : DrivenPiece M) (ps : List (DrivenPiece M)) → AreDriven d s (p ∷ ps) →
    driven_tokens d s (driven_bytes (p ∷ ps)) ≡ tokens_driven (p ∷ ps)
driven_together d s p [] h = ap (driven_tokens d s) (append-nil p.bytes) ∙ sym h.1 ∙ sym (append-nil p.tokens)
driven_together d s p (q ∷ more) h =
    driven_apart d s p.bytes q.bytes (driven_bytes more) h.0 h.2
    ∙ ap₂ (λ (a b : List Emission). a ++ b) (sym h.3) (driven_together d (rested d s.memory h.0) q more h.4)

kept_next : {M : Type 0} (d : Driver M) (s : Driving M) (k x y : DrivenPiece M) (xs ys : List (DrivenPiece M)) →
    ((z : Driving M) → driven_before d z k.bytes (first_byte x.bytes) ≡ driven_before d z k.bytes (first_byte y.bytes)) →
    ((z : Driving M) → AreDriven d z (x ∷ xs) → AreDriven d z (y ∷ ys)) → AreDriven d s (k ∷ x ∷ xs) → AreDriven d s (k ∷ y ∷ ys)
kept_next d s k x y xs ys e f h = (h.0, h.1, sym (e s) ∙ h.2, h.3, f (rested d s.memory h.0) h.4)

-- what stands before a piece that is replaced stays read, where the piece before it is read the same before both
pub driven_kept : {M : Type 0} (d : Driver M) (s : Driving M) (ks : List (DrivenPiece M)) (k x y : DrivenPiece M) (xs ys : List (DrivenPiece M)) →
    ((z : Driving M) → driven_before d z k.bytes (first_byte x.bytes) ≡ driven_before d z k.bytes (first_byte y.bytes)) →
    ((z : Driving M) → AreDriven d z (x ∷ xs) → AreDriven d z (y ∷ ys)) → AreDriven d s (ks ++ k ∷ x ∷ xs) → AreDriven d s (ks ++ k ∷ y ∷ ys)
driven_kept d s [] k x y xs ys e f h = kept_next d s k x y xs ys e f h
driven_kept d s (l ∷ []) k x y xs ys e f h = (h.0, h.1, h.2, h.3, kept_next d (rested d s.memory h.0) k x y xs ys e f h.4)
driven_kept d s (l ∷ m ∷ ks) k x y xs ys e f h = (h.0, h.1, h.2, h.3, driven_kept d (rested d s.memory h.0) (m ∷ ks) k x y xs ys e f h.4)
