-- Pieces that are read one by one are so where runs of characters are joined, and none is empty.
use Rattle.std.proofs.Common.{◌≡◌, ℕ, ◌&&◌, List, [], ◌∷◌, ◌++◌, Option, Some, None, refl, ap, ap₂, sym, subst, ◌∙◌, inl, inr, append_assoc, append-nil}
use Rattle.std.specs.Prelude.{option_map, ⊤}
use Rattle.std.proofs.lemmas.Bool.{cases_Bool}
use Rattle.tl_html_spec.specs.HtmlTokenizer.{HtmlToken, State, data_state, without_mark}
use Rattle.tl_html_spec.specs.Reader.{Reader, Rest, after, at, emitted, emitting_before, next, rest_before, tokens_of}
use Rattle.tl_html_spec.specs.Pieces.{AreRead, Piece, are_characters, first_byte, piece, pieces, pieces_from, pieces_of, read_before, runs, with_piece}
use Rattle.tl_html_spec.proofs.Cutting.{none_or_some, page_is_read}
use Rattle.tl_html_spec.proofs.Fold.{after_append, emitted_append}
use Rattle.tl_html_spec.proofs.Kept.{read_apart}
use Rattle.tl_html_spec.proofs.Resting.{after_rest, emitted_rest, mapped_some}
use Rattle.tl_patch_spec.proofs.Tag.{next_byte}

-- a piece joined to the next one is read as both

map_twice : (a b : List HtmlToken) (o : Option Rest) → option_map (emitting_before (a ++ b)) o ≡ option_map (emitting_before a) (option_map (emitting_before b) o)
map_twice a b None = refl
map_twice a b (Some q) = ap (λ (ts : List HtmlToken). let r : Rest = record { state = q.state; emits = ts } in Some r) (append_assoc a b q.emits)

abbrev before : State → List HtmlToken → List ℕ → ℕ → Option Rest
before z ts y c = option_map (emitting_before ts) (read_before z y (Some c))

read_on : (s : State) (x y : List ℕ) (b c : ℕ) (rest : Rest) → read_before s x (Some b) ≡ Some rest →
    read_before s (x ++ b ∷ y) (Some c) ≡ before rest.state rest.emits (b ∷ y) c
read_on s x y b c rest e =
    let k = mapped_some (emitting_before (emitted (at s) x)) (rest_before (after (at s) x) b) rest e in
    let q : Rest = k.0 in
    let front : List HtmlToken = emitted (at s) x in
    let more : List HtmlToken = emitted (at q.state) (b ∷ y) in
    let tokens : emitted (at s) (x ++ b ∷ y) ≡ (front ++ q.emits) ++ more =
    emitted_append (at s) x (b ∷ y) ∙ ap (λ ts. front ++ ts) (emitted_rest (after (at s) x) b y q k.1) ∙ sym (append_assoc front q.emits more) in
    let state : after (at s) (x ++ b ∷ y) ≡ after (at q.state) (b ∷ y) = after_append (at s) x (b ∷ y) ∙ after_rest (after (at s) x) b y q k.1 in
    ap₂ (λ (ts : List HtmlToken) (r : Reader). option_map (emitting_before ts) (rest_before r c)) tokens state
    ∙ map_twice (front ++ q.emits) more (rest_before (after (at q.state) (b ∷ y)) c)
    ∙ ap (λ (z : Rest). before z.state z.emits (b ∷ y) c) k.2

joined_read : (s : State) (p q : Piece) (more : List Piece) → AreRead s (p ∷ q ∷ more) → AreRead s (piece p.rest (p.bytes ++ q.bytes) (p.tokens ++ q.tokens) ∷ more)
joined_read s p q [] h = (
  h.1,
  ap₂ (λ (a b : List HtmlToken). a ++ b) h.3 (h.4.1)
      ∙ ap (λ xs. (h.0).emits ++ tokens_of (at (h.0).state) xs) (sym (append-nil q.bytes))
      ∙ sym (read_apart s p.bytes q.bytes [] h.0 h.2)
      ∙ ap (λ xs. tokens_of (at s) (p.bytes ++ xs)) (append-nil q.bytes),
)
joined_read s p q (x ∷ more) h =
    let rest : Rest = h.0 in
    let later = h.4 in
    let rest2 : Rest = later.0 in
    let b = next_byte s p.bytes q.bytes rest h.2 in
    let c = next_byte rest.state q.bytes x.bytes rest2 later.2 in
    let first = first_of q.bytes b.0 b.1 in
    let on : read_before s (p.bytes ++ q.bytes) (Some c.0) ≡ before rest.state rest.emits q.bytes c.0 =
    ap (λ xs. read_before s (p.bytes ++ xs) (Some c.0)) first.1
    ∙ read_on s p.bytes first.0 b.0 c.0 rest (ap (read_before s p.bytes) (sym b.1) ∙ h.2)
    ∙ ap (λ xs. before rest.state rest.emits xs c.0) (sym first.1) in
    let both : Rest = emitting_before rest.emits rest2 in (
      both,
      h.1,
      ap (read_before s (p.bytes ++ q.bytes)) c.1 ∙ on ∙ ap (option_map (emitting_before rest.emits)) (ap (read_before rest.state q.bytes) (sym c.1) ∙ later.2),
      ap₂ (λ (a d : List HtmlToken). a ++ d) h.3 later.3,
      later.4,
    )
  where
    first_of : (xs : List ℕ) (b : ℕ) → first_byte xs ≡ Some b → (ys : List ℕ) × (xs ≡ b ∷ ys)
    first_of [] b e = cc
    first_of (x ∷ xs) b e = (xs, cc)

with_read : (s : State) (p : Piece) (ps : List Piece) → AreRead s (p ∷ ps) → AreRead s (with_piece p ps)
with_read s p [] h = h
with_read s p (q ∷ ps) h = elim (cases_Bool (are_characters p.tokens && are_characters q.tokens)) [
  | inl y ↦ rw (y, with_piece) (joined_read s p q ps h)
  | inr n ↦ rw (n, with_piece) h
]

-- the first piece begins with the same byte

record Front (b : ℕ) (ps : List Piece) : Type 0 where
  first : Piece
  more : List Piece
  parts : ps ≡ first ∷ more
  byte : first_byte first.bytes ≡ Some b

joined_byte : (x y : List ℕ) (b : ℕ) → first_byte x ≡ Some b → first_byte (x ++ y) ≡ Some b
joined_byte [] y b e = cc
joined_byte (c ∷ x) y b e = e

with_front : (p : Piece) (ps : List Piece) (b : ℕ) → first_byte p.bytes ≡ Some b → Front b (with_piece p ps)
with_front p [] b e = record { first = p; more = []; parts = refl; byte = e }
with_front p (q ∷ ps) b e = elim (cases_Bool (are_characters p.tokens && are_characters q.tokens)) [
  | inl y ↦ rw (y, with_piece) (record {
    first = piece p.rest (p.bytes ++ q.bytes) (p.tokens ++ q.tokens);
    more = ps;
    parts = refl;
    byte = joined_byte p.bytes q.bytes b e;
  })
  | inr n ↦ rw (n, with_piece) (record { first = p; more = q ∷ ps; parts = refl; byte = e })
]

pub runs_read : (ps : List Piece) (s : State) → AreRead s ps → AreRead s (runs ps)
runs_read [] s h = tt
runs_read (p ∷ []) s h = h
runs_read (p ∷ q ∷ more) s h =
    let rest : Rest = h.0 in
    let b = next_byte s p.bytes q.bytes rest h.2 in
    let f = with_front q (runs more) b.0 b.1 in
    let later : AreRead rest.state (f.first ∷ f.more) = subst (AreRead rest.state) f.parts (runs_read (q ∷ more) rest.state h.4) in
    let here : AreRead s (p ∷ f.first ∷ f.more) = (rest, h.1, ap (read_before s p.bytes) (f.byte ∙ sym b.1) ∙ h.2, h.3, later) in
    with_read s p (runs (q ∷ more)) (subst (λ ps. AreRead s (p ∷ ps)) (sym f.parts) here)

pub page_runs_read : (page : List ℕ) → AreRead data_state (runs (pieces page))
page_runs_read page = runs_read (pieces page) data_state (page_is_read page)

-- no piece is empty

abbrev pub HasBytes : List ℕ → Type 0
HasBytes [] = ⊥
HasBytes (b ∷ xs) = ⊤

abbrev pub HaveBytes : List Piece → Type 0
HaveBytes [] = ⊤
HaveBytes (p ∷ ps) = HasBytes p.bytes × HaveBytes ps

from_have : (text : List ℕ) (s : State) (r : Reader) (b : ℕ) (bs : List ℕ) (ts : List HtmlToken) → HaveBytes (pieces_from s r (b ∷ bs) ts text)
from_have [] s r b bs ts = (tt, tt)
from_have (c ∷ text) s r b bs ts = elim (none_or_some (rest_before r c)) [
  | inl e ↦ rw (e, pieces_from) (from_have text s (next r c) b (bs ++ c ∷ []) (ts ++ emitted r (c ∷ [])))
  | inr k ↦ rw (k.1, pieces_from) (tt, from_have text (k.0).state (next (at (k.0).state) c) c [] (emitted (at (k.0).state) (c ∷ [])))
]

joined_have : (x y : List ℕ) → HasBytes x → HasBytes (x ++ y)
joined_have [] y h = absurd h
joined_have (b ∷ x) y h = tt

with_have : (p : Piece) (ps : List Piece) → HasBytes p.bytes → HaveBytes ps → HaveBytes (with_piece p ps)
with_have p [] h k = (h, tt)
with_have p (q ∷ ps) h k = elim (cases_Bool (are_characters p.tokens && are_characters q.tokens)) [
  | inl y ↦ rw (y, with_piece) (joined_have p.bytes q.bytes h, k.1)
  | inr n ↦ rw (n, with_piece) (h, k)
]

runs_have : (ps : List Piece) → HaveBytes ps → HaveBytes (runs ps)
runs_have [] h = tt
runs_have (p ∷ ps) h = with_have p (runs ps) h.0 (runs_have ps h.1)

text_have : (text : List ℕ) → HaveBytes (pieces_of text)
text_have [] = tt
text_have (b ∷ text) = from_have text data_state (next (at data_state) b) b [] (emitted (at data_state) (b ∷ []))

pub page_runs_have : (page : List ℕ) → HaveBytes (runs (pieces page))
page_runs_have page = runs_have (pieces page) (text_have (without_mark page))
