-- The tail of a page.
use Rattle.std.proofs.Common.{◌≡◌, ◌≤◌, ◌<◌, ℕ, zero, suc, ◌+◌, ◌-◌, Bool, true, false, ◌||◌, ◌&&◌, ◌==◌, List, [], ◌∷◌, ◌++◌, length, drop, take, get_or, map, codes, slice_get, Some, None, refl, ap, ap₂, sym, subst, ◌∙◌, arith, if◌then◌else◌, inl, inr}
use Rattle.std.specs.List.{list_all}
use Rattle.std.specs.Str.{bytes_eq}
use Rattle.std.proofs.Math.Bool.{and-true}
use Rattle.std.proofs.lemmas.Bool.{and_parts, cases_Bool}
use Rattle.std.proofs.lemmas.List.{drop_all, get_or-map, length-map, map-append, take_more}
use Rattle.std.proofs.lemmas.Option.{slice_get_past}
use Rattle.std.proofs.lemmas.Slice.Eq.{bytes_eq-Decides}
use Rattle.tl_html_spec.specs.HtmlTokenizer.{Character, CommentToken, DoctypeToken, EndTag, HtmlToken, StartTag, is_white_space}
use Rattle.tl_html_spec.specs.Pieces.{Piece, pieces, runs}
use Rattle.tl_html_tokens.specs.Tokens.{AreTokensOf}
use Rattle.tl_html_tokens.specs.declared.token.Token.{Token}
use Rattle.tl_patch_elements.specs.View.{element_view, elements_view}
use Rattle.tl_patch_elements.specs.declared.found.Element.{Element as CodeElement}
use Rattle.tl_patch_spec.specs.Elements.{Element}
use Rattle.tl_patch_spec.specs.Tail.{are_end_tag, is_end_of, is_tail_name, is_tail_piece, is_tail_token, tail_end, tail_from, up_to_tail}
use Rattle.tl_patch_edit.specs.Inner.Parts.{IsPieceOf, Part, view_at}
use Rattle.tl_patch_edit.specs.Inner.Tails.{IsEndFor, IsTailFrom, IsTailPart, end_at, is_in_tail, with_part}
use Rattle.tl_patch_edit.specs.declared.tail.End.{End}
use Rattle.tl_patch_edit.specs.declared.tail.Tail.{Tail}
use Rattle.tl_patch_edit.specs.declared.tail.TailPart.{TailPart}
use Rattle.tl_patch_edit.specs.declared.tail.TailPart.TheVariants as part
use Rattle.tl_patch_edit.proofs.Said.{page_pieces}
use Rattle.tl_patch_edit.proofs.Splicing.{Stands, length_pieces, piece_at}

abbrev pub body_name : List ℕ
body_name = codes "body"

abbrev pub html_name : List ℕ
html_name = codes "html"

-- what parts are

white_tokens : (cs : List ℕ) → list_all is_tail_token (map Character cs) ≡ list_all is_white_space cs
white_tokens [] = refl
white_tokens (c ∷ cs) = ap (λ (v : Bool). is_white_space c && v) (white_tokens cs)

no_end_tag : (named : List ℕ → Bool) (cs : List ℕ) → are_end_tag named (map Character cs) ≡ false
no_end_tag named [] = refl
no_end_tag named (c ∷ cs) = refl

pub white_text : (cs : List ℕ) → list_all is_white_space cs ≡ true → IsTailPart part.Between (map Character cs)
white_text cs h = record {
  within = white_tokens cs ∙ h;
  first = no_end_tag is_tail_name cs;
  body = no_end_tag (bytes_eq body_name) cs;
  html = no_end_tag (bytes_eq html_name) cs;
}

pub other_text : (cs : List ℕ) → list_all is_white_space cs ≡ false → IsTailPart part.Other (map Character cs)
other_text cs h = record {
  within = white_tokens cs ∙ h;
  first = no_end_tag is_tail_name cs;
  body = no_end_tag (bytes_eq body_name) cs;
  html = no_end_tag (bytes_eq html_name) cs;
}

pub same_name : (a b : List ℕ) → bytes_eq a b ≡ true → a ≡ b
same_name a b h = (bytes_eq-Decides a b).0 h

other_way : (a b : List ℕ) → bytes_eq a b ≡ false → bytes_eq b a ≡ false
other_way a b h = elim (cases_Bool (bytes_eq b a)) [
  | inl y ↦ (let same : bytes_eq a b ≡ true = (bytes_eq-Decides a b).1 (sym (same_name b a y)) in cc)
  | inr n ↦ n
]

pub not_tail_name : (name : List ℕ) → bytes_eq name body_name ≡ false → bytes_eq name html_name ≡ false → is_tail_name name ≡ false
not_tail_name name h k = ap₂ (λ (v w : Bool). v || (w || false)) h k

html_tag : IsTailPart part.HtmlEnd (EndTag html_name ∷ [])
html_tag = record { within = refl; first = refl; body = refl; html = refl }

-- one piece more, before those that are in the tail

pub drop_at : (ps : List Piece) (k : ℕ) (p : Piece) → slice_get ps k ≡ Some p → drop k ps ≡ p ∷ drop (suc k) ps
drop_at [] k p h = cc
drop_at (q ∷ ps) zero p h = ap (λ (x : Piece). x ∷ ps) (let same : q ≡ p = cc in same)
drop_at (q ∷ ps) (suc k) p h = drop_at ps k p h

abbrev tail_of_one : (List ℕ → Bool) → ℕ → List Piece → Bool → Bool → ℕ
tail_of_one named k rest v w = if v && w then k else tail_from named (suc k) rest

tail_at : (named : List ℕ → Bool) (ps : List Piece) (k : ℕ) (p : Piece) (v w : Bool) → slice_get ps k ≡ Some p → are_end_tag named p.tokens ≡ v → list_all is_tail_piece (drop (suc k) ps) ≡ w →
    tail_from named k (drop k ps) ≡ tail_of_one named k (drop (suc k) ps) v w
tail_at named ps k p v w s h a =
    ap (tail_from named k) (drop_at ps k p s)
    ∙ ap₂ (tail_of_one named k (drop (suc k) ps)) h a

own_at : (name : List ℕ) (ps : List Piece) (k : ℕ) (p : Piece) (v : Bool) → slice_get ps k ≡ Some p → are_end_tag (bytes_eq name) p.tokens ≡ v → v ≡ is_end_of name (slice_get ps k)
own_at name ps k p v s h = sym (ap (is_end_of name) s ∙ h)

pub with_one : (ps : List Piece) (k : ℕ) (p : Piece) (x : TailPart) (tail : Tail) → slice_get ps k ≡ Some p → IsTailPart x p.tokens → is_in_tail x ≡ true →
    list_all is_tail_piece (drop (suc k) ps) ≡ true → IsTailFrom (suc k) ps tail → IsTailFrom k ps (with_part tail x k)
with_one ps k p part.BodyEnd tail s x i a t = record {
  body = sym (tail_at is_tail_name ps k p true true s x.first a);
  body_own = own_at body_name ps k p true s x.body;
  html = t.html ∙ sym (tail_at (bytes_eq html_name) ps k p false true s x.html a);
  html_own = t.html_own;
}
with_one ps k p part.HtmlEnd tail s x i a t = record {
  body = sym (tail_at is_tail_name ps k p true true s x.first a);
  body_own = own_at body_name ps k p false s x.body;
  html = sym (tail_at (bytes_eq html_name) ps k p true true s x.html a);
  html_own = own_at html_name ps k p true s x.html;
}
with_one ps k p part.Between tail s x i a t = record {
  body = t.body ∙ sym (tail_at is_tail_name ps k p false true s x.first a);
  body_own = t.body_own;
  html = t.html ∙ sym (tail_at (bytes_eq html_name) ps k p false true s x.html a);
  html_own = t.html_own;
}
with_one ps k p part.Other tail s x i a t = cc

pub all_with_one : (ps : List Piece) (k : ℕ) (p : Piece) (x : TailPart) → slice_get ps k ≡ Some p → IsTailPart x p.tokens → is_in_tail x ≡ true →
    list_all is_tail_piece (drop (suc k) ps) ≡ true → list_all is_tail_piece (drop k ps) ≡ true
all_with_one ps k p x s t i a =
    ap (list_all is_tail_piece) (drop_at ps k p s) ∙ ap₂ (λ (v w : Bool). v && w) (t.within ∙ i) a

-- the tail begins behind what isn't in it

not_both : (v : Bool) → (v && false) ≡ false
not_both true = refl
not_both false = refl

not_all : (k : ℕ) (ps : List Piece) → list_all is_tail_piece (drop k ps) ≡ false → list_all is_tail_piece ps ≡ false
not_all zero ps h = h
not_all (suc k) [] h = h
not_all (suc k) (p ∷ ps) h = ap (λ (v : Bool). is_tail_piece p && v) (not_all k ps h) ∙ not_both (is_tail_piece p)

behind : (named : List ℕ → Bool) (n k : ℕ) (ps : List Piece) → list_all is_tail_piece (drop k ps) ≡ false → tail_from named n ps ≡ tail_from named (n + k) (drop k ps)
behind named n zero ps h = ap (λ m. tail_from named m ps) (let e : n ≡ n + 0 = omega arith in e)
behind named n (suc k) [] h = cc
behind named n (suc k) (p ∷ ps) h =
    ap (λ (v : Bool). if v then n else tail_from named (suc n) ps) (ap (λ (v : Bool). are_end_tag named p.tokens && v) (not_all k ps h) ∙ not_both (are_end_tag named p.tokens))
    ∙ behind named (suc n) k ps h
    ∙ ap (λ m. tail_from named m (drop k ps)) (let e : suc n + k ≡ n + suc k = omega arith in e)

stops : (named : List ℕ → Bool) (ps : List Piece) (k : ℕ) (p : Piece) → slice_get ps k ≡ Some p → list_all is_tail_token p.tokens ≡ false → are_end_tag named p.tokens ≡ false →
    list_all is_tail_piece (drop (suc k) ps) ≡ true → tail_from named 0 ps ≡ tail_from named (suc k) (drop (suc k) ps)
stops named ps k p s o e a =
    let none : list_all is_tail_piece (drop k ps) ≡ false =
    ap (list_all is_tail_piece) (drop_at ps k p s) ∙ ap₂ (λ (v w : Bool). v && w) o a in
    behind named 0 k ps none ∙ ap (λ m. tail_from named m (drop k ps)) (let e : 0 + k ≡ k = omega arith in e) ∙ tail_at named ps k p false true s e a

pub before_one : (ps : List Piece) (k : ℕ) (p : Piece) (x : TailPart) (tail : Tail) → slice_get ps k ≡ Some p → IsTailPart x p.tokens → is_in_tail x ≡ false →
    list_all is_tail_piece (drop (suc k) ps) ≡ true → IsTailFrom (suc k) ps tail → IsTailFrom 0 ps tail
before_one ps k p part.Other tail s x i a t = record {
  body = t.body ∙ sym (stops is_tail_name ps k p s x.within x.first a);
  body_own = t.body_own;
  html = t.html ∙ sym (stops (bytes_eq html_name) ps k p s x.within x.html a);
  html_own = t.html_own;
}
before_one ps k p part.BodyEnd tail s x i a t = cc
before_one ps k p part.HtmlEnd tail s x i a t = cc
before_one ps k p part.Between tail s x i a t = cc

-- the tokens of a page, from their end on

pub record IsTailSoFar (page : List ℕ) (tokens : List Token) (left : ℕ) (tail : Tail) : Type 0 where
  pub within : left ≤ length tokens
  pub all : list_all is_tail_piece (drop left (runs (pieces page))) ≡ true
  pub found : IsTailFrom left (runs (pieces page)) tail

pub count_pieces : (page : List ℕ) (tokens : List Token) → AreTokensOf page tokens → length (runs (pieces page)) ≡ length tokens
count_pieces page tokens h =
    length_pieces (map (view_at page) tokens) (runs (pieces page)) (page_pieces page tokens h) ∙ length-map tokens (view_at page)

pub none_yet : (page : List ℕ) (tokens : List Token) → AreTokensOf page tokens →
    IsTailSoFar page tokens (length tokens) (record { body = end_at (length tokens) false; html = end_at (length tokens) false })
none_yet page tokens h =
    let ps : List Piece = runs (pieces page) in
    let len : length ps ≡ length tokens = count_pieces page tokens h in
    let none : drop (length tokens) ps ≡ [] = drop_all (length tokens) ps (omega (arith, len)) in
    let past : slice_get ps (length tokens) ≡ None = slice_get_past ps (length tokens) (omega (arith, len)) in
    record {
      within = omega arith;
      all = ap (list_all is_tail_piece) none;
      found = record {
        body = sym (ap (tail_from is_tail_name (length tokens)) none);
        body_own = sym (ap (is_end_of body_name) past);
        html = sym (ap (tail_from (bytes_eq html_name) (length tokens)) none);
        html_own = sym (ap (is_end_of html_name) past);
      };
    }

pub part_stands : (page : List ℕ) (tokens : List Token) (k : ℕ) (d : Token) → AreTokensOf page tokens → k < length tokens → Stands (view_at page (get_or tokens k d)) (runs (pieces page)) k
part_stands page tokens k d h l =
    let ps : List Piece = runs (pieces page) in
    let xs : List Part = map (view_at page) tokens in
    let x : Part = view_at page (get_or tokens k d) in
    subst (λ (y : Part). Stands y ps k) (get_or-map (view_at page) tokens k d x l) (piece_at xs ps k x (page_pieces page tokens h) (omega (arith, l, length-map tokens (view_at page))))

abbrev pub IsPartOf : List ℕ → Token → TailPart → Type 0
IsPartOf page token x = (p : Piece) → IsPieceOf (view_at page token) p → IsTailPart x p.tokens

pub goes_on : (page : List ℕ) (tokens : List Token) (left : ℕ) (d : Token) (x : TailPart) (tail : Tail) → AreTokensOf page tokens → 0 < left → IsTailSoFar page tokens left tail →
    IsPartOf page (get_or tokens (left - 1) d) x → is_in_tail x ≡ true → IsTailSoFar page tokens (left - 1) (with_part tail x (left - 1))
goes_on page tokens left d x tail h o t f i =
    let ps : List Piece = runs (pieces page) in
    let k : ℕ = left - 1 in
    let within : left ≤ length tokens = t.within in
    let next : left ≡ suc k = omega (arith, o) in
    let s : Stands (view_at page (get_or tokens k d)) ps k = part_stands page tokens k d h (omega (arith, o, within)) in
    let is : IsTailPart x (s.piece).tokens = f s.piece s.is in
    let all : list_all is_tail_piece (drop (suc k) ps) ≡ true = subst (λ n. list_all is_tail_piece (drop n ps) ≡ true) next t.all in
    record {
      within = omega (arith, within);
      all = all_with_one ps k s.piece x s.stands is i all;
      found = with_one ps k s.piece x tail s.stands is i all (subst (λ n. IsTailFrom n ps tail) next t.found);
    }

pub ends_there : (page : List ℕ) (tokens : List Token) (left : ℕ) (d : Token) (x : TailPart) (tail : Tail) → AreTokensOf page tokens → 0 < left → IsTailSoFar page tokens left tail →
    IsPartOf page (get_or tokens (left - 1) d) x → is_in_tail x ≡ false → IsTailFrom 0 (runs (pieces page)) tail
ends_there page tokens left d x tail h o t f i =
    let ps : List Piece = runs (pieces page) in
    let k : ℕ = left - 1 in
    let within : left ≤ length tokens = t.within in
    let next : left ≡ suc k = omega (arith, o) in
    let s : Stands (view_at page (get_or tokens k d)) ps k = part_stands page tokens k d h (omega (arith, o, within)) in
    before_one ps k s.piece x tail s.stands (f s.piece s.is) i (subst (λ n. list_all is_tail_piece (drop n ps) ≡ true) next t.all) (subst (λ n. IsTailFrom n ps tail) next t.found)

-- where elements end in it

pub html_ends : (ps : List Piece) (name : List ℕ) (tail : Tail) → bytes_eq name html_name ≡ true → IsTailFrom 0 ps tail → IsEndFor ps name tail.html
html_ends ps name tail h t =
    subst (λ n. IsEndFor ps n tail.html) (sym (same_name name html_name h)) (
    record {
      place = t.html;
      is_own = t.html_own ∙ ap (λ n. is_end_of html_name (slice_get ps n)) t.html;
    })

-- an end tag of a tail has another name

abbrev pub NamesOther : (List ℕ → Bool) → List ℕ → Type 0
NamesOther named name = (n : List ℕ) → named n ≡ true → bytes_eq name n ≡ false

other_name : (name : List ℕ) → bytes_eq name body_name ≡ false → bytes_eq name html_name ≡ false → NamesOther is_tail_name name
other_name name h k = λ n t. elim (cases_Bool (bytes_eq n body_name)) [
  | inl b ↦ subst (λ m. bytes_eq name m ≡ false) (sym (same_name n body_name b)) h
  | inr b ↦ (elim (cases_Bool (bytes_eq n html_name)) [
    | inl e ↦ subst (λ m. bytes_eq name m ≡ false) (sym (same_name n html_name e)) k
    | inr e ↦ (let none : is_tail_name n ≡ false = not_tail_name n b e in cc)
  ])
]

other_tag : (named : List ℕ → Bool) (name : List ℕ) (ts : List HtmlToken) → NamesOther named name → are_end_tag named ts ≡ true → are_end_tag (bytes_eq name) ts ≡ false
other_tag named name (EndTag n ∷ []) f h = f n h
other_tag named name [] f h = refl
other_tag named name (EndTag n ∷ t ∷ ts) f h = refl
other_tag named name (StartTag n a v ∷ ts) f h = refl
other_tag named name (Character b ∷ ts) f h = refl
other_tag named name (CommentToken n ∷ ts) f h = refl
other_tag named name (DoctypeToken ∷ ts) f h = refl

abbrev pub is_first : (List ℕ → Bool) → Piece → List Piece → Bool
is_first named p ps = are_end_tag named p.tokens && list_all is_tail_piece ps

pub tail_first : (named : List ℕ → Bool) (n : ℕ) (p : Piece) (ps : List Piece) (v : Bool) → is_first named p ps ≡ v → tail_from named n (p ∷ ps) ≡ (if v then n else tail_from named (suc n) ps)
tail_first named n p ps v h = ap (λ (w : Bool). if w then n else tail_from named (suc n) ps) h

pub no_earlier : (named : List ℕ → Bool) (n : ℕ) (ps : List Piece) → n ≤ tail_from named n ps
no_earlier named n [] = omega arith
no_earlier named n (p ∷ ps) = elim (cases_Bool (is_first named p ps)) [
  | inl y ↦ (let e = tail_first named n p ps true y in omega (arith, e))
  | inr k ↦ (
      let e = tail_first named n p ps false k in
      let l : suc n ≤ tail_from named (suc n) ps = no_earlier named (suc n) ps in
      omega (arith, e, l))
]

other_there : (named : List ℕ → Bool) (name : List ℕ) (n : ℕ) (ps : List Piece) → NamesOther named name → is_end_of name (slice_get ps (tail_from named n ps - n)) ≡ false
other_there named name n [] f = refl
other_there named name n (p ∷ ps) f = elim (cases_Bool (is_first named p ps)) [
  | inl y ↦ (
      let e : tail_from named n (p ∷ ps) ≡ n = tail_first named n p ps true y in
      let zeroth : tail_from named n (p ∷ ps) - n ≡ 0 = omega (arith, e) in
      ap (λ i. is_end_of name (slice_get (p ∷ ps) i)) zeroth
      ∙ other_tag named name p.tokens f (and_parts (are_end_tag named p.tokens) (list_all is_tail_piece ps) y).0)
  | inr k ↦ (
      let e : tail_from named n (p ∷ ps) ≡ tail_from named (suc n) ps = tail_first named n p ps false k in
      let l : suc n ≤ tail_from named (suc n) ps = no_earlier named (suc n) ps in
      let later : tail_from named n (p ∷ ps) - n ≡ suc (tail_from named (suc n) ps - suc n) = omega (arith, e, l) in
      ap (λ i. is_end_of name (slice_get (p ∷ ps) i)) later
      ∙ other_there named name (suc n) ps f)
]

pub not_either : (v w : Bool) → v ≡ false → (v && w) ≡ v
not_either v w h = ap (λ (u : Bool). u && w) h ∙ sym h

own_end : (ps : List Piece) (name : List ℕ) (tail : Tail) (v : Bool) → bytes_eq name body_name ≡ v → bytes_eq name html_name ≡ false → IsTailFrom 0 ps tail →
    (tail.body.is_own && v) ≡ is_end_of name (slice_get ps (tail_from is_tail_name 0 ps))
own_end ps name tail true h k t =
    and-true tail.body.is_own
    ∙ t.body_own
    ∙ ap (λ n. is_end_of body_name (slice_get ps n)) t.body
    ∙ ap (λ m. is_end_of m (slice_get ps (tail_from is_tail_name 0 ps))) (sym (same_name name body_name h))
own_end ps name tail false h k t =
    let place : ℕ = tail_from is_tail_name 0 ps in
    not_both tail.body.is_own
    ∙ sym (ap (λ n. is_end_of name (slice_get ps n)) (let e : place ≡ place - 0 = omega arith in e) ∙ other_there is_tail_name name 0 ps (other_name name h k))

pub other_ends : (ps : List Piece) (name : List ℕ) (tail : Tail) → bytes_eq name html_name ≡ false → IsTailFrom 0 ps tail →
    IsEndFor ps name (end_at tail.body.place (tail.body.is_own && bytes_eq name body_name))
other_ends ps name tail k t =
    let there : tail_end ps name ≡ tail_from is_tail_name 0 ps = ap (λ (v : Bool). tail_from (if v then bytes_eq name else is_tail_name) 0 ps) k in
    record {
      place = t.body ∙ sym there;
      is_own = own_end ps name tail (bytes_eq name body_name) refl k t ∙ ap (λ n. is_end_of name (slice_get ps n)) (sym there);
    }

-- elements

abbrev pub moved : List Piece → Element → Element
moved ps e = record {
  name = e.name;
  start = e.start;
  end = tail_end ps e.name;
  has_end_tag = is_end_of e.name (slice_get ps (tail_end ps e.name));
}

pub stays : (ps : List Piece) (e : Element) (len : ℕ) → length ps ≡ len → (e.end == len) ≡ false → e ≡ up_to_tail ps e
stays ps e len l h = sym (ap (λ (v : Bool). if v then moved ps e else e) (ap (λ n. e.end == n) l ∙ h))

pub moves : (ps : List Piece) (e : Element) (len : ℕ) (end : End) → length ps ≡ len → (e.end == len) ≡ true → IsEndFor ps e.name end →
    record { name = e.name; start = e.start; end = end.place; has_end_tag = end.is_own } ≡ up_to_tail ps e
moves ps e len end l h i =
    ap₂ (λ (n : ℕ) (v : Bool). record { name = e.name; start = e.start; end = n; has_end_tag = v }) i.place i.is_own
    ∙ sym (ap (λ (v : Bool). if v then moved ps e else e) (ap (λ n. e.end == n) l ∙ h))

pub one_more : (ps : List Piece) (es : List CodeElement) (k : ℕ) (d new : CodeElement) (old now : List Element) → k < length es → element_view new ≡ up_to_tail ps (element_view (get_or es k d)) →
    now ≡ old ++ element_view new ∷ [] → old ≡ map (up_to_tail ps) (elements_view (take k es)) → now ≡ map (up_to_tail ps) (elements_view (take (k + 1) es))
one_more ps es k d new old now l v p h =
    let f = up_to_tail ps in
    p
    ∙ ap₂ (λ (xs : List Element) (x : Element). xs ++ x ∷ []) h v
    ∙ sym (map-append f (elements_view (take k es)) (element_view (get_or es k d) ∷ []))
    ∙ ap (map f) (sym (map-append element_view (take k es) (get_or es k d ∷ [])))
    ∙ ap (λ (xs : List CodeElement). map f (elements_view xs)) (sym (take_more es k d l))
