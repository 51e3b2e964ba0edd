-- A text of a page holds no tag and no comment, so what it is in is what the tokenizer is in.
use Rattle.std.proofs.Common.{◌≡◌, ℕ, Bool, true, false, ◌&&◌, List, [], ◌∷◌, ◌++◌, Option, Some, None, refl, ap, sym, subst, ◌∙◌, inl, inr, true≢false, append-nil}
use Rattle.std.specs.Prelude.{⊤, is_none}
use Rattle.std.proofs.lemmas.Bool.{cases_Bool}
use Rattle.tl_html_spec.specs.HtmlTokenizer.{HtmlToken, State, at_end, data_state}
use Rattle.tl_html_spec.specs.Pieces.{Piece, are_characters, piece, pieces_from, pieces_of, runs, with_piece}
use Rattle.tl_html_spec.specs.Reader.{Reader, Rest, after, at, emitted, next, read, rest_before}
use Rattle.tl_html_spec.proofs.Cutting.{none_or_some}
use Rattle.tl_html_spec.proofs.Resting.{after_rest}
use Rattle.tl_html_tokens.proofs.Others.{apart}
use Rattle.tl_patch_edit.specs.Inner.Seams.{HoldTexts, HoldsText}
use Rattle.tl_patch_edit.specs.Inner.Within.{after_byte, first, goes_on_with, going_on, is_markup, is_some_within, or_first, within_from, within_text}
use Rattle.tl_patch_edit.specs.declared.seam.Within.{Within}
use Rattle.tl_patch_edit.specs.declared.seam.Within.TheVariants as within
use Rattle.tl_patch_edit.proofs.Within.{IsIn, Meets, first_in, markup_cut, markup_end, markup_on, meets, some_is}

is_it : (w : Within) → is_markup w ≡ true → w ≡ within.Markup
is_it within.Markup h = refl
is_it _ h = absurd (true≢false (sym h))

stays : (text : List ℕ) → within_from within.Markup text ≡ within.Markup
stays [] = refl
stays (b ∷ text) = stays text

-- where a text ends in no markup no byte of it begins one
no_markup : (w : Within) (text : List ℕ) → is_markup (within_from w text) ≡ false → is_markup w ≡ false
no_markup w text h = elim (cases_Bool (is_markup w)) [
  | inl y ↦ absurd (true≢false (sym (ap is_markup (ap (λ (v : Within). within_from v text) (is_it w y) ∙ stays text)) ∙ h))
  | inr n ↦ n
]

pub within_append : (w : Within) (x y : List ℕ) → within_from w (x ++ y) ≡ within_from (within_from w x) y
within_append w [] y = refl
within_append w (b ∷ x) y = within_append (after_byte w b) x y

-- the reader after a text

Follows : Within → Reader → Type 0
Follows w r = (ts : List HtmlToken) × IsIn w r ts

begins : (r : Reader) (b : ℕ) (rest : Rest) → rest_before r b ≡ Some rest → rest.state ≡ data_state → Follows (first b) (next r b)
unfolding Follows
begins r b rest e d =
    let is : next r b ≡ next (at data_state) b = after_rest r b [] rest e ∙ ap (λ (s : State). next (at s) b) d in
    (emitted (at data_state) (b ∷ []), subst (λ (n : Reader). IsIn (first b) n (emitted (at data_state) (b ∷ []))) (sym is) (first_in b))

one_on : (w : Within) (r : Reader) (b : ℕ) → is_markup w ≡ false → Follows w r → Follows (after_byte w b) (next r b)
unfolding Follows
one_on w r b m (ts, h) = by_meets (going_on w b) (meets w r ts b m h)
  where
    by_meets : (o : Option Within) → Meets r ts b o → Follows (or_first o b) (next r b)
    by_meets None k = begins r b k.0 k.1 k.2
    by_meets (Some u) k = (ts ++ (read r b).emits, k.1)

follows : (text : List ℕ) (w : Within) (r : Reader) → Follows w r → is_markup (within_from w text) ≡ false → Follows (within_from w text) (after r text)
follows [] w r h m = h
follows (b ∷ text) w r h m =
    let here : is_markup w ≡ false = no_markup w (b ∷ text) m in
    follows text (after_byte w b) (next r b) (one_on w r b here h) m

-- whether a text goes on with a byte
pub goes_on_is : (text : List ℕ) (b : ℕ) → is_markup (within_text text) ≡ false → is_none (rest_before (after (at data_state) text) b) ≡ goes_on_with (within_text text) b
unfolding Follows
goes_on_is text b m =
    let begin : Follows within.Text (at data_state) = ([], record { piece = refl; returned = λ _. refl }) in
    let f : Follows (within_text text) (after (at data_state) text) = follows text within.Text (at data_state) begin m in
    by_meets f.0 (going_on (within_text text) b) (meets (within_text text) (after (at data_state) text) f.0 b m f.1)
  where
    by_meets : (ts : List HtmlToken) (o : Option Within) → Meets (after (at data_state) text) ts b o → is_none (rest_before (after (at data_state) text) b) ≡ is_some_within o
    by_meets ts None k = ap is_none k.1
    by_meets ts (Some u) k = ap is_none k.0

-- pieces

abbrev pub StartsApart : Within → List ℕ → Type 0
StartsApart w [] = ⊥
StartsApart w (b ∷ bytes) = going_on w b ≡ None

abbrev pub IsLink : Piece → Piece → Type 0
IsLink p q = p.rest ≡ data_state → are_characters p.tokens ≡ true → (q.rest ≡ data_state) × StartsApart (within_text p.bytes) q.bytes

abbrev pub AreLinked : Piece → List Piece → Type 0
AreLinked p [] = ⊤
AreLinked p (q ∷ ps) = IsLink p q

abbrev pub AreTexts : List Piece → Type 0
AreTexts [] = ⊤
AreTexts (p ∷ ps) = HoldsText p × AreLinked p ps × AreTexts ps

abbrev SoFar : State → Reader → List ℕ → List HtmlToken → Type 0
SoFar s r bs ts = s ≡ data_state → IsIn (within_text bs) r ts

go_on : (w : Within) (r : Reader) (ts : List HtmlToken) (b : ℕ) → IsIn w r ts → rest_before r b ≡ None → IsIn (after_byte w b) (next r b) (ts ++ emitted r (b ∷ []))
go_on w r ts b h e = subst (λ (us : List HtmlToken). IsIn (after_byte w b) (next r b) (ts ++ us)) (sym (append-nil (read r b).emits)) (elim (cases_Bool (is_markup w)) [
  | inl y ↦ in_markup w y h
  | inr n ↦ by_meets (going_on w b) (meets w r ts b n h)
])
  where
    in_markup : (w : Within) → is_markup w ≡ true → IsIn w r ts → IsIn (after_byte w b) (next r b) (ts ++ (read r b).emits)
    in_markup within.Markup y h = record { piece = markup_on r ts b h.piece e; returned = λ m. absurd (true≢false m) }
    in_markup _ y h = absurd (true≢false (sym y))

    by_meets : (o : Option Within) → Meets r ts b o → IsIn (or_first o b) (next r b) (ts ++ (read r b).emits)
    by_meets None k = absurd (apart k.0 (sym e ∙ k.1))
    by_meets (Some u) k = k.1

record EndsBefore (w : Within) (b : ℕ) (rest : Rest) : Type 0 where
  state : rest.state ≡ data_state
  goes : going_on w b ≡ None
  text : is_markup w ≡ false

ends_before : (w : Within) (r : Reader) (ts : List HtmlToken) (b : ℕ) (rest : Rest) → IsIn w r ts → rest_before r b ≡ Some rest → are_characters (ts ++ rest.emits) ≡ true → EndsBefore w b rest
ends_before w r ts b rest h e c = elim (cases_Bool (is_markup w)) [
  | inl y ↦ absurd (in_markup w y h)
  | inr n ↦ by_meets n (going_on w b) refl (meets w r ts b n h)
]
  where
    in_markup : (w : Within) → is_markup w ≡ true → IsIn w r ts → ⊥
    in_markup within.Markup y h = true≢false (sym c ∙ markup_cut r ts b rest h.piece e)
    in_markup _ y h = true≢false (sym y)

    by_meets : is_markup w ≡ false → (o : Option Within) → going_on w b ≡ o → Meets r ts b o → EndsBefore w b rest
    by_meets n None k t = record { state = sym (ap (λ (x : Rest). x.state) (some_is t.0 rest (sym t.1 ∙ e))) ∙ t.2; goes = k; text = n }
    by_meets n (Some u) k t = absurd (apart rest (sym t.0 ∙ e))

linked_from : (text : List ℕ) (p : Piece) (s : State) (r : Reader) (b : ℕ) (bs : List ℕ) (ts : List HtmlToken) →
    (p.rest ≡ data_state → are_characters p.tokens ≡ true → (s ≡ data_state) × (going_on (within_text p.bytes) b ≡ None)) → AreLinked p (pieces_from s r (b ∷ bs) ts text)
linked_from [] p s r b bs ts h = h
linked_from (c ∷ text) p s r b bs ts h = elim (none_or_some (rest_before r c)) [
  | inl e ↦ rw (e, pieces_from) (linked_from text p s (next r c) b (bs ++ c ∷ []) (ts ++ emitted r (c ∷ [])) h)
  | inr k ↦ rw (k.1, pieces_from) h
]

texts_from : (text : List ℕ) (s : State) (r : Reader) (bs : List ℕ) (ts : List HtmlToken) → SoFar s r bs ts → AreTexts (pieces_from s r bs ts text)
texts_from [] s r bs ts f = (λ d c. whole (within_text bs) (f d) c, tt, tt)
  where
    whole : (w : Within) → IsIn w r ts → are_characters (ts ++ at_end r.state) ≡ true → is_markup w ≡ false
    whole within.Markup h c = absurd (true≢false (sym c ∙ markup_end r.state ts h.piece))
    whole _ h c = refl
texts_from (b ∷ text) s r bs ts f = elim (none_or_some (rest_before r b)) [
  | inl e ↦ rw (e, pieces_from) (texts_from text s (next r b) (bs ++ b ∷ []) (ts ++ emitted r (b ∷ []))
      (λ d. subst (λ (w : Within). IsIn w (next r b) (ts ++ emitted r (b ∷ []))) (sym (within_append within.Text bs (b ∷ []))) (go_on (within_text bs) r ts b (f d) e)))
  | inr k ↦ rw (k.1, pieces_from) (
      let rest : Rest = k.0 in
      let ends : s ≡ data_state → are_characters (ts ++ rest.emits) ≡ true → EndsBefore (within_text bs) b rest = λ d c. ends_before (within_text bs) r ts b rest (f d) k.1 c in (
        λ d c. (ends d c).text,
        linked_from text (piece s bs (ts ++ rest.emits)) rest.state (next (at rest.state) b) b [] (emitted (at rest.state) (b ∷ [])) (λ d c. ((ends d c).state, (ends d c).goes)),
        texts_from text rest.state (next (at rest.state) b) (b ∷ []) (emitted (at rest.state) (b ∷ [])) (λ d. subst (λ (t : State). IsIn (first b) (next (at t) b) (emitted (at t) (b ∷ []))) (sym d) (first_in b)),
      ))
]

pub text_pieces : (text : List ℕ) → AreTexts (pieces_of text)
text_pieces [] = tt
text_pieces (b ∷ text) = texts_from text data_state (next (at data_state) b) (b ∷ []) (emitted (at data_state) (b ∷ [])) (λ d. first_in b)

-- texts side by side as one

pub joined : (x y : List ℕ) → StartsApart (within_text x) y → within_text (x ++ y) ≡ within_text y
joined x [] h = absurd h
joined x (b ∷ y) h = within_append within.Text x (b ∷ y) ∙ ap (λ (o : Option Within). within_from (or_first o b) y) h

both_true : (a c : Bool) → (a && c) ≡ true → (a ≡ true) × (c ≡ true)
both_true true c h = (refl, h)
both_true false c h = absurd (true≢false (sym h))

starts_more : (w : Within) (x y : List ℕ) → StartsApart w x → StartsApart w (x ++ y)
starts_more w [] y h = absurd h
starts_more w (b ∷ x) y h = h

links_joined : (p q : Piece) (ps : List Piece) → are_characters p.tokens ≡ true → are_characters q.tokens ≡ true → IsLink p q → AreLinked q ps → AreLinked (piece p.rest (p.bytes ++ q.bytes) (p.tokens ++ q.tokens)) ps
links_joined p q [] a c h k = tt
links_joined p q (r ∷ ps) a c h k = λ d _.
    let l = h d a in
    let m = k l.0 c in
    (m.0, subst (λ (w : Within). StartsApart w r.bytes) (sym (joined p.bytes q.bytes l.1)) m.1)

with_texts : (p : Piece) (ps : List Piece) → HoldsText p → AreLinked p ps → AreTexts ps → AreTexts (with_piece p ps)
with_texts p [] t l h = (t, tt, tt)
with_texts p (q ∷ ps) t l h = elim (cases_Bool (are_characters p.tokens && are_characters q.tokens)) [
  | inl y ↦ (
      let k = both_true (are_characters p.tokens) (are_characters q.tokens) y in
      rw (y, with_piece) (
        λ d _. (let m = l d k.0 in ap is_markup (joined p.bytes q.bytes m.1) ∙ h.0 m.0 k.1),
        links_joined p q ps k.0 k.1 l h.1,
        h.2,
      ))
  | inr n ↦ rw (n, with_piece) (t, l, h)
]

linked_with : (p q : Piece) (ps : List Piece) → IsLink p q → AreLinked p (with_piece q ps)
linked_with p q [] h = h
linked_with p q (r ∷ ps) h = elim (cases_Bool (are_characters q.tokens && are_characters r.tokens)) [
  | inl y ↦ rw (y, with_piece) (λ d c. ((h d c).0, starts_more (within_text p.bytes) q.bytes r.bytes (h d c).1))
  | inr n ↦ rw (n, with_piece) h
]

pub texts_run : (ps : List Piece) → AreTexts ps → AreTexts (runs ps)
texts_run [] h = tt
texts_run (p ∷ ps) h = with_texts p (runs ps) h.0 (linked ps h.1) (texts_run ps h.2)
  where
    linked : (qs : List Piece) → AreLinked p qs → AreLinked p (runs qs)
    linked [] l = tt
    linked (q ∷ qs) l = linked_with p q (runs qs) l

hold_texts : (ps : List Piece) → AreTexts ps → HoldTexts ps
hold_texts [] h = tt
hold_texts (p ∷ ps) h = (h.0, hold_texts ps h.2)

pub page_texts : (text : List ℕ) → HoldTexts (runs (pieces_of text))
page_texts text = hold_texts (runs (pieces_of text)) (texts_run (pieces_of text) (text_pieces text))
