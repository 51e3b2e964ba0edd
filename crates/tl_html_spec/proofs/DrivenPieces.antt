-- The pieces of a text that is driven, joined, are the text, what they emit are its tokens, and each is read where it stands.
use Rattle.std.proofs.Common.{◌≡◌, ℕ, false, List, [], ◌∷◌, ◌++◌, Some, refl, ap, sym, subst, subst₂, ◌∙◌, inl, inr, append-nil, append_assoc}
use Rattle.std.specs.Prelude.{option_map}
use Rattle.tl_html_spec.specs.Pieces.{first_byte}
use Rattle.tl_html_spec.specs.Driven.{AreDriven, DrivenPiece, DrivenRest, DrivenState, Driver, Driving, Emission, after_driven, drive, driven_before, driven_bytes, driven_emits, driven_end, driven_piece, driven_pieces, driven_pieces_from, driven_rest_before, driven_tokens, driving, next_driven, rested, tokens_driven}
use Rattle.tl_html_spec.proofs.Cutting.{none_or_some}
use Rattle.tl_html_spec.proofs.Driving.{after_append, emits_append, tokens_append, tokens_rest}
use Rattle.tl_html_spec.proofs.DrivenKept.{rested_is}

pub bytes_joined : {M : Type 0} (d : Driver M) (s v : Driving M) (bs : List ℕ) (ts : List Emission) (text : List ℕ) → driven_bytes (driven_pieces_from d s v bs ts text) ≡ bs ++ text
bytes_joined d s v bs ts [] = refl
bytes_joined d s v bs ts (b ∷ text) = elim (none_or_some (driven_rest_before v b)) [
  | inl e ↦ rw (e, driven_pieces_from) (bytes_joined d s (next_driven d v b) (bs ++ b ∷ []) (ts ++ (drive d v b).emits) text ∙ append_assoc bs (b ∷ []) text)
  | inr p ↦ rw (p.1, driven_pieces_from) (
      let at = rested d v.memory p.0 in
      ap (λ t. bs ++ t) (bytes_joined d at (next_driven d at b) (b ∷ []) (drive d at b).emits text))
]

pub tokens_joined : {M : Type 0} (d : Driver M) (s v : Driving M) (bs : List ℕ) (ts : List Emission) (text : List ℕ) →
    tokens_driven (driven_pieces_from d s v bs ts text) ≡ ts ++ driven_tokens d v text
tokens_joined d s v bs ts [] = append-nil (ts ++ driven_end v.state)
tokens_joined d s v bs ts (b ∷ text) = elim (none_or_some (driven_rest_before v b)) [
  | inl e ↦ rw (e, driven_pieces_from) (
      tokens_joined d s (next_driven d v b) (bs ++ b ∷ []) (ts ++ (drive d v b).emits) text
      ∙ append_assoc ts (drive d v b).emits (driven_tokens d (next_driven d v b) text))
  | inr p ↦ rw (p.1, driven_pieces_from) (
      let at = rested d v.memory p.0 in
      ap (λ t. (ts ++ (p.0).emits) ++ t) (tokens_joined d at (next_driven d at b) (b ∷ []) (drive d at b).emits text)
      ∙ append_assoc ts (p.0).emits (driven_tokens d at (b ∷ text))
      ∙ ap (λ t. ts ++ t) (sym (tokens_rest d v b text p.0 p.1)))
]

pub bytes_are : {M : Type 0} (d : Driver M) (s : Driving M) (text : List ℕ) → driven_bytes (driven_pieces d s text) ≡ text
bytes_are d s [] = refl
bytes_are d s (b ∷ text) = bytes_joined d s (next_driven d s b) (b ∷ []) (drive d s b).emits text

pub tokens_are : {M : Type 0} (d : Driver M) (s : Driving M) (b : ℕ) (text : List ℕ) → tokens_driven (driven_pieces d s (b ∷ text)) ≡ driven_tokens d s (b ∷ text)
tokens_are d s b text = tokens_joined d s (next_driven d s b) (b ∷ []) (drive d s b).emits text

-- each piece is read alone

record Front {M : Type 0} (b : ℕ) (ps : List (DrivenPiece M)) : Type 0 where
  first : DrivenPiece M
  more : List (DrivenPiece M)
  parts : ps ≡ first ∷ more
  byte : first_byte first.bytes ≡ Some b

front_of : {M : Type 0} (d : Driver M) (b : ℕ) (bs : List ℕ) (s v : Driving M) (ts : List Emission) (text : List ℕ) → Front b (driven_pieces_from d s v (b ∷ bs) ts text)
front_of d b bs s v ts [] = record { first = driven_piece s (b ∷ bs) (ts ++ driven_end v.state); more = []; parts = refl; byte = refl }
front_of d b bs s v ts (c ∷ text) = elim (none_or_some (driven_rest_before v c)) [
  | inl e ↦ rw (e, driven_pieces_from) (front_of d b (bs ++ c ∷ []) s (next_driven d v c) (ts ++ (drive d v c).emits) text)
  | inr p ↦ rw (p.1, driven_pieces_from) (
      let at = rested d v.memory p.0 in
      record {
        first = driven_piece s (b ∷ bs) (ts ++ (p.0).emits);
        more = driven_pieces_from d at (next_driven d at c) (c ∷ []) (drive d at c).emits text;
        parts = refl;
        byte = refl;
      })
]

-- nothing was read before that matters
abbrev pub IsFresh : {M : Type 0} → Driving M → Type 0
IsFresh v = v.after_return ≡ false

fresh_is : {M : Type 0} (v : Driving M) → IsFresh v → driving v.memory v.state ≡ v
fresh_is v h = ap (λ r. record { memory = v.memory; state = v.state; after_return = r }) (sym h)

tokens_end : {M : Type 0} (d : Driver M) (s : Driving M) (bs : List ℕ) → driven_emits d s bs ++ driven_end (after_driven d s bs).state ≡ driven_tokens d s bs
tokens_end d s bs = sym (tokens_append d s bs []) ∙ ap (driven_tokens d s) (append-nil bs)

one_more : {M : Type 0} (d : Driver M) (s : Driving M) (bs : List ℕ) (b : ℕ) → driven_emits d s (bs ++ b ∷ []) ≡ driven_emits d s bs ++ (drive d (after_driven d s bs) b).emits
one_more d s bs b = emits_append d s bs (b ∷ []) ∙ ap (λ es. driven_emits d s bs ++ es) (append-nil (drive d (after_driven d s bs) b).emits)

pieces_read : {M : Type 0} (d : Driver M) (s : Driving M) (h : IsFresh s) (bs : List ℕ) (text : List ℕ) →
    AreDriven d s (driven_pieces_from d s (after_driven d s bs) bs (driven_emits d s bs) text)
pieces_read d s h bs [] = (fresh_is s h, tokens_end d s bs)
pieces_read d s h bs (b ∷ text) = elim (none_or_some (driven_rest_before (after_driven d s bs) b)) [
  | inl e ↦ rw (e, driven_pieces_from) (
      subst₂ (λ v ts. AreDriven d s (driven_pieces_from d s v (bs ++ b ∷ []) ts text))
      (after_append d s bs (b ∷ [])) (one_more d s bs b)
      (pieces_read d s h (bs ++ b ∷ []) text))
  | inr p ↦ rw (p.1, driven_pieces_from) (
      let v = after_driven d s bs in
      let rest : DrivenRest = record { state = (p.0).state; emits = driven_emits d s bs ++ (p.0).emits } in
      let at = rested d v.memory p.0 in
      let is : at ≡ rested d s.memory rest = rested_is d s bs p.0 in
      let here = driven_piece s bs (driven_emits d s bs ++ (p.0).emits) in
      let f = front_of d b [] at (next_driven d at b) (drive d at b).emits text in
      let read = subst (λ es. AreDriven d at (driven_pieces_from d at (next_driven d at b) (b ∷ []) es text)) (append-nil (drive d at b).emits) (pieces_read d at refl (b ∷ []) text) in
      let more = subst (λ (v : Driving _). AreDriven d v (f.first ∷ f.more)) is (subst (AreDriven d at) f.parts read) in
      let before : driven_before d s bs (Some b) ≡ Some rest = ap (option_map (λ (r : DrivenRest). record { state = r.state; emits = driven_emits d s bs ++ r.emits })) p.1 in
      subst (λ ps. AreDriven d s (here ∷ ps)) (sym f.parts)
      (rest, fresh_is s h, ap (driven_before d s bs) f.byte ∙ before, refl, more))
]

pub text_is_driven : {M : Type 0} (d : Driver M) (m : M) (s : DrivenState) (text : List ℕ) → AreDriven d (driving m s) (driven_pieces d (driving m s) text)
text_is_driven d m s [] = tt
text_is_driven d m s (b ∷ text) =
    let start = driving m s in
    subst (λ es. AreDriven d start (driven_pieces_from d start (next_driven d start b) (b ∷ []) es text)) (append-nil (drive d start b).emits)
    (pieces_read d start refl (b ∷ []) text)
