-- Why a page is not patched.
use Rattle.std.proofs.Common.{◌≡◌, ◌⊎◌, ℕ, zero, suc, ◌+◌, ◌-◌, ◌<◌, ◌≤◌, Bool, true, false, ◌||◌, List, [], ◌∷◌, ◌++◌, length, take, drop, get_or, map, Some, refl, ap, sym, subst, ◌∙◌, inl, inr, append_assoc, append-nil, arith, true≢false}
use Rattle.std.specs.Prelude.{⊤, nat_lt}
use Rattle.std.specs.List.{All, list_any, slice_get}
use Rattle.std.proofs.lemmas.Bool.{and_from, cases_Bool, cases_eq, cases_lt, lt-ltb, or_left, or_right}
use Rattle.std.proofs.lemmas.List.{drop_more, get_or_default, map-append, take-append-drop}
use Rattle.std.proofs.lemmas.List.Elements.{All-head, All-tail}
use Rattle.std.proofs.lemmas.List.Folds.{list_any-append}
use Rattle.tl_html_spec.specs.HtmlTokenizer.{data_state}
use Rattle.tl_html_spec.specs.Pieces.{Piece, pieces, placed, runs}
use Rattle.tl_html_tokens.specs.Kinds.{IsStartTag}
use Rattle.tl_html_tokens.specs.Tokens.{AreTokens, AreTokensOf, IsToken, mark_len}
use Rattle.tl_html_tokens.specs.Whole.{AreWholeTags, IsWhole, bytes_at, is_tag_kind}
use Rattle.tl_html_tokens.specs.declared.token.Token.{Token}
use Rattle.tl_html_tokens.proofs.Alone.{tags_are_whole}
use Rattle.tl_patch.specs.Refused.{IsAmong, IsPlaced, IsStartAt, IsUnplaced, IsReason, IsReasonHere, IsTokenReason, has_greater, has_refused, is_refused}
use Rattle.tl_patch.specs.Inner.Steps.{BeginElsewhere, is_start_token}
use Rattle.tl_patch.specs.PatchView.{PlacedChange, patch_view}
use Rattle.tl_patch.specs.declared.tag_patch.TagPatch.{TagPatch}
use Rattle.tl_patch.specs.declared.error.PatchError.{PatchError}
use Rattle.tl_patch.specs.declared.error.PatchError.TheVariants.{NoStartTag, NotWritten, OutOfMemory}
use Rattle.tl_patch.proofs.Index.{here_of, split}
use Rattle.tl_patch.proofs.Patched.{IsTag, is_tag}
use Rattle.tl_patch.proofs.Runs.{HasBytes, HaveBytes, page_runs_have}
use Rattle.tl_patch.specs.StartTags.{is_data, is_start_kind, is_start_tag}
use Rattle.tl_patch.proofs.Begins.{kind_start, mode_data, whole_start_tag}

-- tokens stand one after the other

some_bytes : (xs : List ℕ) → HasBytes xs → 0 < length xs
some_bytes [] h = absurd h
some_bytes (b ∷ xs) h = omega arith

from_place : (page : List ℕ) (ts : List Token) (place : ℕ) (ps : List Piece) (i : ℕ) (d : Token) → AreTokens page ts (placed place ps) → i < length ts → place ≤ (get_or ts i d).start
from_place page [] place ps i d h l = absurd (omega arith)
from_place page (t ∷ ts) place [] i d h l = absurd h
from_place page (t ∷ ts) place (p ∷ ps) zero d h l = let e = (h.0).start in omega arith
from_place page (t ∷ ts) place (p ∷ ps) (suc i) d h l = let k = from_place page ts (place + length p.bytes) ps i d h.1 (omega arith) in omega arith

in_order : (page : List ℕ) (ts : List Token) (place : ℕ) (ps : List Piece) (i j : ℕ) (d e : Token) → AreTokens page ts (placed place ps) → HaveBytes ps → i < j → j < length ts →
    (get_or ts i d).start < (get_or ts j e).start
in_order page [] place ps i j d e h k l m = absurd (omega arith)
in_order page (t ∷ ts) place [] i j d e h k l m = absurd h
in_order page (t ∷ ts) place (p ∷ ps) i zero d e h k l m = absurd (omega arith)
in_order page (t ∷ ts) place (p ∷ ps) zero (suc j) d e h k l m =
    let a = from_place page ts (place + length p.bytes) ps j e h.1 (omega arith) in
    let b = some_bytes p.bytes k.0 in
    let c = (h.0).start in
    omega arith
in_order page (t ∷ ts) place (p ∷ ps) (suc i) (suc j) d e h k l m = in_order page ts (place + length p.bytes) ps i j d e h.1 k.1 (omega arith) (omega arith)

record TokenAt (page : List ℕ) (ts : List Token) (number place : ℕ) (p : Piece) (d : Token) : Type 0 where
  within : number < length ts
  is : IsToken page (get_or ts number d) place p

token_at : (page : List ℕ) (ts : List Token) (from : ℕ) (ps : List Piece) (number place : ℕ) (p : Piece) (d : Token) → AreTokens page ts (placed from ps) →
    slice_get (placed from ps) number ≡ Some (place, p) → TokenAt page ts number place p d
token_at page [] from [] number place p d h e = cc
token_at page [] from (q ∷ ps) number place p d h e = absurd h
token_at page (t ∷ ts) from [] number place p d h e = absurd h
token_at page (t ∷ ts) from (q ∷ ps) zero place p d h e = record {
  within = omega arith;
  is = subst (λ (x : ℕ × Piece). IsToken page t x.0 x.1) (same (from, q) (place, p) e) h.0;
}
  where
    same : (x y : ℕ × Piece) → Some x ≡ Some y → x ≡ y
    same x y e = cc
token_at page (t ∷ ts) from (q ∷ ps) (suc number) place p d h e =
    let r = token_at page ts (from + length q.bytes) ps number place p d h.1 e in
    record { within = let w = r.within in omega arith; is = r.is }

record PieceAt (page : List ℕ) (place : ℕ) (ps : List Piece) (from number : ℕ) (t : Token) : Type 0 where
  piece : Piece
  begins : slice_get (placed from ps) number ≡ Some (place, piece)
  is : IsToken page t place piece
  whole : is_tag_kind t.kind ≡ true → IsWhole t.mode (bytes_at page t) piece.tokens

piece_at : (page : List ℕ) (ts : List Token) (from : ℕ) (ps : List Piece) (number : ℕ) (d : Token) → AreTokens page ts (placed from ps) → AreWholeTags page ts (placed from ps) → number < length ts →
    PieceAt page (get_or ts number d).start ps from number (get_or ts number d)
piece_at page [] from ps number d h w l = absurd (omega arith)
piece_at page (t ∷ ts) from [] number d h w l = absurd h
piece_at page (t ∷ ts) from (p ∷ ps) zero d h w l = record {
  piece = p;
  begins = ap (λ n. Some (n, p)) (sym (h.0).start);
  is = subst (λ n. IsToken page t n p) (sym (h.0).start) h.0;
  whole = w.0;
}
piece_at page (t ∷ ts) from (p ∷ ps) (suc number) d h w l =
    let r = piece_at page ts (from + length p.bytes) ps number d h.1 w.1 (omega arith) in
    record { piece = r.piece; begins = r.begins; is = r.is; whole = r.whole }

-- a token is a start tag exactly where one begins

start_token : (page : List ℕ) (t : Token) (place : ℕ) (p : Piece) → IsToken page t place p → p.rest ≡ data_state → IsStartTag p.tokens → is_start_token t ≡ true
start_token page t place p h r s = and_from (is_start_kind t.kind) (is_data t.mode) (kind_start t.kind p.tokens h.kind s) (mode_data t.mode (sym r ∙ h.rest))

no_start_at : (page : List ℕ) (ts : List Token) (at : ℕ) (d : Token) → AreTokensOf page ts → at < length ts → is_start_token (get_or ts at d) ≡ false → IsStartAt page (get_or ts at d).start → ⊥
no_start_at page ts at d h l n s =
    let ps : List Piece = runs (pieces page) in
    let t = token_at page ts (mark_len page) ps s.number (get_or ts at d).start s.piece d h s.begins in
    let places : (get_or ts s.number d).start ≡ (get_or ts at d).start = (t.is).start in
    elim (cases_lt s.number at) [
      | inl m ↦ (let o = in_order page ts (mark_len page) ps s.number at d d h (page_runs_have page) m l in omega arith)
      | inr m ↦ elim (cases_lt at s.number) [
        | inl k ↦ (let o = in_order page ts (mark_len page) ps at s.number d d h (page_runs_have page) k t.within in omega arith)
        | inr k ↦ (
            let same : s.number ≡ at = omega arith in
            let is : IsToken page (get_or ts at d) (get_or ts at d).start s.piece = subst (λ i. IsToken page (get_or ts i d) (get_or ts at d).start s.piece) same t.is in
            true≢false (sym (start_token page (get_or ts at d) (get_or ts at d).start s.piece is s.rest s.start) ∙ n))
      ]
    ]

start_at : (page : List ℕ) (ts : List Token) (at : ℕ) (d : Token) → AreTokensOf page ts → at < length ts → is_start_token (get_or ts at d) ≡ true → IsStartAt page (get_or ts at d).start
start_at page ts at d h l y =
    let r = piece_at page ts (mark_len page) (runs (pieces page)) at d h (tags_are_whole page ts h) l in
    let i : IsTag page (get_or ts at d) r.piece = is_tag page (get_or ts at d) (get_or ts at d).start r.piece r.is r.whole y in
    record { number = at; piece = r.piece; begins = r.begins; rest = i.rest; start = i.start }

-- where a token is not written

all_split : (patches : List TagPatch) (next end : ℕ) → next ≤ end →
    map patch_view patches ≡ map patch_view (take next patches) ++ (here_of patches next end ++ map patch_view (drop end patches))
all_split patches next end o =
    ap (map patch_view) (sym (take-append-drop next patches)) ∙ map-append patch_view (take next patches) (drop next patches)
    ∙ ap (λ xs. map patch_view (take next patches) ++ xs) (split patches next end o)

among_here : (changes front here back : List PlacedChange) (place : ℕ) (c : PlacedChange) → changes ≡ front ++ ((c ∷ here) ++ back) → c.place ≡ place → IsAmong place changes front
among_here changes front here back place c e p = record { change = c; back = here ++ back; parts = e; is = p }

start_bytes : (page : List ℕ) (ts : List Token) (at : ℕ) (d : Token) → AreTokensOf page ts → at < length ts → is_start_token (get_or ts at d) ≡ true → is_start_tag (bytes_at page (get_or ts at d)) ≡ true
start_bytes page ts at d h l y =
    let r = piece_at page ts (mark_len page) (runs (pieces page)) at d h (tags_are_whole page ts h) l in
    let i : IsTag page (get_or ts at d) r.piece = is_tag page (get_or ts at d) (get_or ts at d).start r.piece r.is r.whole y in
    ap is_start_tag (sym (r.is).bytes) ∙ whole_start_tag (r.piece).bytes (r.piece).tokens i.whole i.start

-- the change that is refused

record Refused (place : ℕ) (here : List PlacedChange) : Type 0 where
  before : List PlacedChange
  change : PlacedChange
  later : List PlacedChange
  parts : here ≡ before ++ change ∷ later
  is : change.place ≡ place
  why : is_refused change.change ≡ true

refused_in : (place : ℕ) (here : List PlacedChange) → All (λ (c : PlacedChange). c.place ≡ place) here → has_refused here ≡ true → Refused place here
refused_in place [] all h = absurd (true≢false (sym h))
refused_in place (c ∷ here) all h = elim (cases_Bool (is_refused c.change)) [
  | inl y ↦ record { before = []; change = c; later = here; parts = refl; is = All-head (λ (x : PlacedChange). x.place ≡ place) c here all; why = y }
  | inr n ↦ (
      let r = refused_in place here (All-tail (λ (x : PlacedChange). x.place ≡ place) c here all) (sym (ap (λ (v : Bool). v || has_refused here) n) ∙ h) in
      record { before = c ∷ r.before; change = r.change; later = r.later; parts = ap (λ xs. c ∷ xs) r.parts; is = r.is; why = r.why })
]

by_error : (page : List ℕ) (ts : List Token) (at : ℕ) (d : Token) (changes front here back : List PlacedChange) (e : PatchError) → AreTokensOf page ts → at < length ts →
    changes ≡ front ++ (here ++ back) → All (λ (c : PlacedChange). c.place ≡ (get_or ts at d).start) here →
    IsAmong (get_or ts at d).start changes front → IsTokenReason here page (get_or ts at d) e → IsReason changes page e
by_error page ts at d changes front here back (NoStartTag place) h l parts all a w =
    subst (λ n. IsUnplaced n changes page) (sym w.0) (record { front = front; among = a; why = inl (no_start_at page ts at d h l w.1) })
by_error page ts at d changes front here back (NotWritten place) h l parts all a w =
    let r = refused_in (get_or ts at d).start here all (w.2 (start_bytes page ts at d h l w.1)) in
    subst (λ n. IsPlaced n changes page) (sym w.0) (record {
      front = front ++ r.before;
      among = record {
        change = r.change;
        back = r.later ++ back;
        parts = parts ∙ ap (λ xs. front ++ (xs ++ back)) r.parts ∙ ap (λ xs. front ++ xs) (append_assoc r.before (r.change ∷ r.later) back)
            ∙ sym (append_assoc front r.before (r.change ∷ (r.later ++ back)));
        is = r.is;
      };
      start = start_at page ts at d h l w.1;
      why = r.why;
    })
by_error page ts at d changes front here back OutOfMemory h l parts all a w = tt

by_here : (page : List ℕ) (ts : List Token) (at : ℕ) (d : Token) (changes front here back : List PlacedChange) (e : PatchError) → AreTokensOf page ts → at < length ts →
    changes ≡ front ++ (here ++ back) → All (λ (c : PlacedChange). c.place ≡ (get_or ts at d).start) here → IsReasonHere here page (get_or ts at d) e → IsReason changes page e
by_here page ts at d changes front [] back (NoStartTag place) h l parts all w = absurd w
by_here page ts at d changes front [] back (NotWritten place) h l parts all w = absurd w
by_here page ts at d changes front [] back OutOfMemory h l parts all w = tt
by_here page ts at d changes front (c ∷ here) back e h l parts all w =
    by_error page ts at d changes front (c ∷ here) back e h l parts all
    (among_here changes front here back (get_or ts at d).start c parts (All-head (λ (x : PlacedChange). x.place ≡ (get_or ts at d).start) c here all)) w

pub token_refused : (page : List ℕ) (ts : List Token) (patches : List TagPatch) (at next end : ℕ) (d : Token) (e : PatchError) → AreTokensOf page ts → at < length ts → next ≤ end →
    All (λ (c : PlacedChange). c.place ≡ (get_or ts at d).start) (here_of patches next end) → IsReasonHere (here_of patches next end) page (get_or ts at d) e → IsReason (map patch_view patches) page e
token_refused page ts patches at next end d e h l o all w =
    by_here page ts at d (map patch_view patches) (map patch_view (take next patches)) (here_of patches next end) (map patch_view (drop end patches)) e h l (all_split patches next end o) all w

-- what is left over: no token that was gone over begins at the place of its first patch, or one before it has a greater place

abbrev pub HeadElsewhere : ℕ → List PlacedChange → List PlacedChange → Type 0
HeadElsewhere place front [] = ⊤
HeadElsewhere place front (c ∷ later) = (c.place ≡ place → ⊥) ⊎ (has_greater c.place front ≡ true)

abbrev pub ArePassed : List Token → List TagPatch → ℕ → ℕ → Type 0
ArePassed ts patches at next = (i : ℕ) (d : Token) → i < at → HeadElsewhere (get_or ts i d).start (map patch_view (take next patches)) (map patch_view (drop next patches))

elsewhere : (place : ℕ) (front later : List PlacedChange) → BeginElsewhere place later → HeadElsewhere place front later
elsewhere place front [] h = tt
elsewhere place front (c ∷ later) h = inl h

greater_there : (place at : ℕ) (front here : List PlacedChange) (c : PlacedChange) → c.place ≡ at → place < at → has_greater place (front ++ c ∷ here) ≡ true
greater_there place at front here c e l =
    let test : PlacedChange → Bool = λ x. nat_lt place x.place in
    list_any-append test front (c ∷ here)
    ∙ or_right (list_any test front) (list_any test (c ∷ here)) (or_left (test c) (list_any test here) (lt-ltb place c.place (subst (λ n. place < n) (sym e) l)))

passed_over : (start at : ℕ) (front here later : List PlacedChange) → start < at → All (λ (c : PlacedChange). c.place ≡ at) here → BeginElsewhere at later → (here ≡ [] → HeadElsewhere start front later) →
    HeadElsewhere start (front ++ here) later
passed_over start at front [] later l all b f =
    subst (λ xs. HeadElsewhere start xs later) (sym (append-nil front)) (f refl)
passed_over start at front (x ∷ here) [] l all b f = tt
passed_over start at front (x ∷ here) (c ∷ later) l all b f = elim (cases_eq c.place start) [
  | inl e ↦ inr (greater_there c.place at front here x (All-head (λ (y : PlacedChange). y.place ≡ at) x here all) (subst (λ n. n < at) (sym e) l))
  | inr n ↦ inl n
]

abbrev the_none : (X : Type 0) → List X
the_none X = []

take_none : {X : Type 0} (k : ℕ) → take k (the_none X) ≡ []
take_none zero = refl
take_none (suc k) = refl

taken_on : {X : Type 0} (xs : List X) (next end : ℕ) → next ≤ end → take end xs ≡ take next xs ++ take (end - next) (drop next xs)
taken_on xs zero end o = let same : end ≡ end - 0 = omega arith in ap (λ n. take n xs) same
taken_on xs (suc next) zero o = absurd (omega arith)
taken_on [] (suc next) (suc end) o = sym (take_none (suc end - suc next))
taken_on (x ∷ xs) (suc next) (suc end) o =
    let same : end - next ≡ suc end - suc next = omega arith in
    ap (λ ys. x ∷ ys) (taken_on xs next end (omega arith) ∙ ap (λ n. take next xs ++ take n (drop next xs)) same)

taken : (patches : List TagPatch) (next end : ℕ) → next ≤ end → map patch_view (take end patches) ≡ map patch_view (take next patches) ++ here_of patches next end
taken patches next end o = ap (map patch_view) (taken_on patches next end o) ∙ map-append patch_view (take next patches) (take (end - next) (drop next patches))

pub one_passed : (page : List ℕ) (ts : List Token) (patches : List TagPatch) (at next end : ℕ) (d : Token) → AreTokensOf page ts → at < length ts → next ≤ end →
    All (λ (c : PlacedChange). c.place ≡ (get_or ts at d).start) (here_of patches next end) → BeginElsewhere (get_or ts at d).start (map patch_view (drop end patches)) →
    ArePassed ts patches at next → ArePassed ts patches (at + 1) end
one_passed page ts patches at next end d h l o all b f i e m = elim (cases_lt i at) [
  | inl k ↦ (
      let ps : List Piece = runs (pieces page) in
      let before = in_order page ts (mark_len page) ps i at e d h (page_runs_have page) k l in
      subst (λ xs. HeadElsewhere (get_or ts i e).start xs (map patch_view (drop end patches))) (sym (taken patches next end o))
      (passed_over (get_or ts i e).start (get_or ts at d).start (map patch_view (take next patches)) (here_of patches next end) (map patch_view (drop end patches)) before all b
      (λ none. subst (λ xs. HeadElsewhere (get_or ts i e).start (map patch_view (take next patches)) xs) (split patches next end o ∙ ap (λ xs. xs ++ map patch_view (drop end patches)) none) (f i e k))))
  | inr k ↦ (
      let same : i ≡ at = omega arith in
      let token : get_or ts at d ≡ get_or ts i e = get_or_default ts at d e l ∙ ap (λ n. get_or ts n e) (sym same) in
      let place : (get_or ts at d).start ≡ (get_or ts i e).start = ap (λ (t : Token). t.start) token in
      elsewhere (get_or ts i e).start (map patch_view (take end patches)) (map patch_view (drop end patches)) (subst (λ n. BeginElsewhere n (map patch_view (drop end patches))) place b))
]

left_over : (page : List ℕ) (ts : List Token) (changes front later : List PlacedChange) (c : PlacedChange) (d : Token) → AreTokensOf page ts → changes ≡ front ++ c ∷ later →
    ((i : ℕ) (e : Token) → i < length ts → HeadElsewhere (get_or ts i e).start front (c ∷ later)) → IsUnplaced c.place changes page
left_over page ts changes front later c d h parts f = elim (cases_Bool (has_greater c.place front)) [
  | inl y ↦ record { front = front; among = record { change = c; back = later; parts = parts; is = refl }; why = inr y }
  | inr n ↦ record {
    front = front;
    among = record { change = c; back = later; parts = parts; is = refl };
    why = inl (λ s.
        let t = token_at page ts (mark_len page) (runs (pieces page)) s.number c.place s.piece d h s.begins in
        elim (f s.number d t.within) [
          | inl k ↦ k (sym (t.is).start)
          | inr k ↦ true≢false (sym k ∙ n)
        ]);
  }
]

pub patches_left : (page : List ℕ) (ts : List Token) (patches : List TagPatch) (at next : ℕ) (x : TagPatch) (d : Token) → AreTokensOf page ts → length ts ≤ at → next < length patches →
    ArePassed ts patches at next → IsUnplaced (get_or patches next x).start (map patch_view patches) page
patches_left page ts patches at next x d h l m f =
    let c : PlacedChange = patch_view (get_or patches next x) in
    let front : List PlacedChange = map patch_view (take next patches) in
    let later : List PlacedChange = map patch_view (drop (next + 1) patches) in
    let rest : map patch_view (drop next patches) ≡ c ∷ later = ap (map patch_view) (drop_more patches next x m) in
    left_over page ts (map patch_view patches) front later c d h
    (ap (map patch_view) (sym (take-append-drop next patches)) ∙ map-append patch_view (take next patches) (drop next patches) ∙ ap (λ xs. front ++ xs) rest)
    (λ i e k. subst (HeadElsewhere (get_or ts i e).start front) rest (f i e (omega arith)))
