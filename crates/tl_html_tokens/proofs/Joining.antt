-- Tokens one after the other are the pieces of a page.
use Rattle.std.proofs.Common.{◌≡◌, ◌≤◌, ℕ, zero, suc, ◌+◌, ◌-◌, Bool, true, false, ◌==◌, ◌&&◌, List, [], ◌∷◌, ◌++◌, length, length-append, length-drop, drop, drop-drop, take, refl, ap, ap₂, sym, subst, ◌∙◌, inl, inr, true≢false, arith, append-nil, append_assoc, if◌then◌else◌}
use Rattle.std.specs.List.{starts_with}
use Rattle.std.proofs.lemmas.Bool.{cases_Bool, cond_both}
use Rattle.std.proofs.lemmas.List.{drop_all}
use Rattle.tl_html_spec.specs.HtmlTokenizer.{HtmlToken, Character, StartTag, EndTag, CommentToken, DoctypeToken, data_state, without_mark}
use Rattle.tl_html_spec.specs.Pieces.{Piece, are_characters, bytes_of, piece, pieces, pieces_of, placed, runs, with_piece}
use Rattle.tl_html_spec.proofs.Cutting.{bytes_are, runs_bytes}
use Rattle.tl_html_spec.proofs.Places.{placed_after}
use Rattle.tl_html_tokens.specs.Fronts.{IsFront, pieces_at}
use Rattle.tl_html_tokens.specs.Kinds.{IsKind}
use Rattle.tl_html_tokens.specs.Modes.{state_of}
use Rattle.tl_html_tokens.specs.Tokens.{AreSideBySide, AreTokens, AreTokensOf, IsToken, are_texts, is_text, last_of, mark_len, pushed_of}
use Rattle.tl_html_tokens.specs.declared.front.Front.{Front}
use Rattle.tl_html_tokens.specs.declared.mode.Mode.{Mode}
use Rattle.tl_html_tokens.specs.declared.mode.Mode.TheVariants as mode
use Rattle.tl_html_tokens.specs.declared.stage.TokenKind.{TokenKind}
use Rattle.tl_html_tokens.specs.declared.stage.TokenKind.TheVariants as kind
use Rattle.tl_html_tokens.specs.declared.token.Token.{Token}
use Rattle.tl_html_tokens.proofs.Places.{between, between_length}

-- kinds

start_is : (ts : List HtmlToken) → IsKind kind.StartTag ts → are_characters ts ≡ false
start_is (StartTag n a c ∷ []) h = refl
start_is [] h = absurd h
start_is (StartTag n a c ∷ t ∷ ts) h = absurd h
start_is (Character b ∷ ts) h = absurd h
start_is (EndTag n ∷ ts) h = absurd h
start_is (CommentToken n ∷ ts) h = absurd h
start_is (DoctypeToken ∷ ts) h = absurd h

end_is : (ts : List HtmlToken) → IsKind kind.EndTag ts → are_characters ts ≡ false
end_is (EndTag n ∷ []) h = refl
end_is [] h = absurd h
end_is (EndTag n ∷ t ∷ ts) h = absurd h
end_is (Character b ∷ ts) h = absurd h
end_is (StartTag n a c ∷ ts) h = absurd h
end_is (CommentToken n ∷ ts) h = absurd h
end_is (DoctypeToken ∷ ts) h = absurd h

comment_is : (ts : List HtmlToken) → IsKind kind.Comment ts → are_characters ts ≡ false
comment_is (CommentToken n ∷ []) h = refl
comment_is [] h = absurd h
comment_is (CommentToken n ∷ t ∷ ts) h = absurd h
comment_is (Character b ∷ ts) h = absurd h
comment_is (StartTag n a c ∷ ts) h = absurd h
comment_is (EndTag n ∷ ts) h = absurd h
comment_is (DoctypeToken ∷ ts) h = absurd h

doctype_is : (ts : List HtmlToken) → IsKind kind.Doctype ts → are_characters ts ≡ false
doctype_is (DoctypeToken ∷ []) h = refl
doctype_is [] h = absurd h
doctype_is (DoctypeToken ∷ t ∷ ts) h = absurd h
doctype_is (Character b ∷ ts) h = absurd h
doctype_is (StartTag n a c ∷ ts) h = absurd h
doctype_is (EndTag n ∷ ts) h = absurd h
doctype_is (CommentToken n ∷ ts) h = absurd h

pub kind_is : (k : TokenKind) (ts : List HtmlToken) → IsKind k ts → are_characters ts ≡ is_text k
kind_is kind.Text ts h = h
kind_is kind.StartTag ts h = start_is ts h
kind_is kind.EndTag ts h = end_is ts h
kind_is kind.Comment ts h = comment_is ts h
kind_is kind.Doctype ts h = doctype_is ts h
kind_is kind.Nothing ts h = ap are_characters h

text_kind : (k : TokenKind) (ts : List HtmlToken) → is_text k ≡ true → are_characters ts ≡ true → IsKind k ts
text_kind kind.Text ts e h = h
text_kind kind.StartTag ts e h = absurd (true≢false (sym e))
text_kind kind.EndTag ts e h = absurd (true≢false (sym e))
text_kind kind.Comment ts e h = absurd (true≢false (sym e))
text_kind kind.Doctype ts e h = absurd (true≢false (sym e))
text_kind kind.Nothing ts e h = absurd (true≢false (sym e))

-- characters joined

chars_from : (b : ℕ) (us : List HtmlToken) → are_characters us ≡ true → are_characters (Character b ∷ us) ≡ true
chars_from b [] h = absurd (true≢false (sym h))
chars_from b (u ∷ us) h = h

pub chars_join : (ts us : List HtmlToken) → are_characters ts ≡ true → are_characters us ≡ true → are_characters (ts ++ us) ≡ true
chars_join [] us h k = absurd (true≢false (sym h))
chars_join (Character b ∷ []) us h k = chars_from b us k
chars_join (Character b ∷ t ∷ ts) us h k = chars_join (t ∷ ts) us h k
chars_join (StartTag n a c ∷ ts) us h k = absurd (true≢false (sym h))
chars_join (EndTag n ∷ ts) us h k = absurd (true≢false (sym h))
chars_join (CommentToken n ∷ ts) us h k = absurd (true≢false (sym h))
chars_join (DoctypeToken ∷ ts) us h k = absurd (true≢false (sym h))

abbrev pub both : Piece → Piece → Piece
both p q = piece p.rest (p.bytes ++ q.bytes) (p.tokens ++ q.tokens)

both_chars : (a c : Bool) → a ≡ true → c ≡ true → (a && c) ≡ true
both_chars a c h k = ap₂ ◌&&◌ h k

pub with_chars : (p q : Piece) (ps : List Piece) → are_characters p.tokens ≡ true → are_characters q.tokens ≡ true → with_piece p (q ∷ ps) ≡ both p q ∷ ps
with_chars p q ps h k = rw (both_chars (are_characters p.tokens) (are_characters q.tokens) h k) refl

with_other : (p q : Piece) (ps : List Piece) → (are_characters p.tokens && are_characters q.tokens) ≡ false → with_piece p (q ∷ ps) ≡ p ∷ q ∷ ps
with_other p q ps h = rw h refl

right_false : (a c : Bool) → a ≡ true → (a && c) ≡ false → c ≡ false
right_false true c h k = k
right_false false c h k = absurd (true≢false (sym h))

left_true : (a c : Bool) → (a && c) ≡ true → a ≡ true
left_true true c h = refl
left_true false c h = h

left_false : (a c : Bool) → c ≡ true → (a && c) ≡ false → a ≡ false
left_false true c h k = absurd (true≢false (sym h ∙ k))
left_false false c h k = refl

first_false : (a c : Bool) → a ≡ false → (a && c) ≡ false
first_false true c h = absurd (true≢false h)
first_false false c h = refl

right_true : (a c : Bool) → (a && c) ≡ true → c ≡ true
right_true true c h = h
right_true false c h = absurd (true≢false (sym h))

-- two texts side by side are one
pub joins : (p q : Piece) (rs : List Piece) → are_characters p.tokens ≡ true → are_characters q.tokens ≡ true → with_piece p (with_piece q rs) ≡ with_piece (both p q) rs
joins p q [] h k = with_chars p q [] h k
joins p q (r ∷ rs) h k = elim (cases_Bool (are_characters q.tokens && are_characters r.tokens)) [
  | inl y ↦ (
      let c = right_true (are_characters q.tokens) (are_characters r.tokens) y in
      ap (with_piece p) (with_chars q r rs k c)
      ∙ with_chars p (both q r) rs h (chars_join q.tokens r.tokens k c)
      ∙ ap₂ (λ x (ts : List HtmlToken). piece p.rest x ts ∷ rs) (sym (append_assoc p.bytes q.bytes r.bytes)) (sym (append_assoc p.tokens q.tokens r.tokens))
      ∙ sym (with_chars (both p q) r rs (chars_join p.tokens q.tokens h k) c))
  | inr n ↦ (
      let c = right_false (are_characters q.tokens) (are_characters r.tokens) k n in
      ap (with_piece p) (with_other q r rs n)
      ∙ with_chars p q (r ∷ rs) h k
      ∙ sym (with_other (both p q) r rs (ap (λ v. are_characters (p.tokens ++ q.tokens) && v) c ∙ ap (λ v. v && false) (chars_join p.tokens q.tokens h k))))
]

-- others stay apart
pub stays : (p q : Piece) (rs : List Piece) → (are_characters p.tokens && are_characters q.tokens) ≡ false → with_piece p (with_piece q rs) ≡ p ∷ with_piece q rs
stays p q [] h = with_other p q [] h
stays p q (r ∷ rs) h = elim (cases_Bool (are_characters q.tokens && are_characters r.tokens)) [
  | inl y ↦ (
      let k = left_true (are_characters q.tokens) (are_characters r.tokens) y in
      let c = right_true (are_characters q.tokens) (are_characters r.tokens) y in
      let none = left_false (are_characters p.tokens) (are_characters q.tokens) k h in
      ap (with_piece p) (with_chars q r rs k c)
      ∙ with_other p (both q r) rs (first_false (are_characters p.tokens) (are_characters (q.tokens ++ r.tokens)) none)
      ∙ ap (λ ps. p ∷ ps) (sym (with_chars q r rs k c)))
  | inr n ↦ (
      ap (with_piece p) (with_other q r rs n) ∙ with_other p q (r ∷ rs) h ∙ ap (λ ps. p ∷ ps) (sym (with_other q r rs n)))
]

-- bytes side by side

take_nil : (k : ℕ) → take {A = ℕ} k [] ≡ []
take_nil zero = refl
take_nil (suc k) = refl

take_both : (n k : ℕ) (t : List ℕ) → take n t ++ take k (drop n t) ≡ take (n + k) t
take_both zero k t = let z : 0 + k ≡ k = omega arith in ap (λ m. take m t) (sym z)
take_both (suc n) k [] = take_nil k ∙ sym (take_nil (suc n + k))
take_both (suc n) k (b ∷ t) = let z : suc n + k ≡ suc (n + k) = omega arith in ap (λ v. b ∷ v) (take_both n k t) ∙ ap (λ m. take m (b ∷ t)) (sym z)

pub between_both : (t : List ℕ) (a e f : ℕ) → a ≤ e → e ≤ f → between t a e ++ between t e f ≡ between t a f
between_both t a e f h k =
    let place : e ≡ a + (e - a) = omega arith in
    let sum : (e - a) + (f - e) ≡ f - a = omega arith in
    ap (λ v. take (e - a) (drop a t) ++ take (f - e) v) (ap (λ m. drop m t) place ∙ sym (drop-drop (e - a) a t))
    ∙ take_both (e - a) (f - e) (drop a t)
    ∙ ap (λ m. take m (drop a t)) sum

-- tokens and pieces

with_token : (page : List ℕ) (ts : List Token) (ps : List (ℕ × Piece)) (t : Token) (q : ℕ × Piece) → AreTokens page ts ps → IsToken page t q.0 q.1 → AreTokens page (ts ++ t ∷ []) (ps ++ q ∷ [])
with_token page [] [] t q h k = (k, tt)
with_token page [] (p ∷ ps) t q h k = absurd h
with_token page (u ∷ ts) [] t q h k = absurd h
with_token page (u ∷ ts) (p ∷ ps) t q h k = (h.0, with_token page ts ps t q h.1 k)

bytes_append : (ps : List Piece) (p : Piece) → length (bytes_of (ps ++ p ∷ [])) ≡ length (bytes_of ps) + length p.bytes
bytes_append [] p = let z : length p.bytes ≡ 0 + length p.bytes = omega arith in ap length (append-nil p.bytes) ∙ z
bytes_append (q ∷ ps) p =
    let more = bytes_append ps p in
    let a = length-append q.bytes (bytes_of (ps ++ p ∷ [])) in
    let c = length-append q.bytes (bytes_of ps) in
    omega arith

-- how far a page has been read: the last token may yet be joined with the next one
pub record IsRead (page : List ℕ) (from : ℕ) (tokens : List Token) (last : Token) (m : Mode) : Type 0 where
  pub done : List Piece
  pub piece : Piece
  pub are : AreTokens page tokens (placed from done)
  pub token : IsToken page last (from + length (bytes_of done)) piece
  pub read : runs (pieces_at data_state (drop from page)) ≡ done ++ with_piece piece (runs (pieces_at (state_of m) (drop last.end page)))

abbrev pub token_of : ℕ → Mode → Front → Token
token_of start m front = record { start = start; end = front.end; kind = front.kind; mode = m }

abbrev pub piece_of : List ℕ → ℕ → Mode → Front → List HtmlToken → Piece
piece_of page start m front ts = piece (state_of m) (between page start front.end) ts

front_token : (page : List ℕ) (start place : ℕ) (m : Mode) (front : Front) (f : IsFront page start m front) → start ≡ place →
    IsToken page (token_of start m front) place (piece_of page start m front f.tokens)
front_token page start place m front f e =
    let l = f.order in
    record { start = e; order = omega arith; within = f.within; bytes = refl; rest = refl; kind = f.kind }

pub read_first : (page : List ℕ) (from : ℕ) (front : Front) → IsFront page from mode.Data front → IsRead page from [] (token_of from mode.Data front) front.mode
read_first page from front f =
    let z : from ≡ from + 0 = omega arith in
    record {
      done = [];
      piece = piece_of page from mode.Data front f.tokens;
      are = tt;
      token = front_token page from (from + 0) mode.Data front f z;
      read = f.read;
    }

module _ (page : List ℕ) (from : ℕ) (tokens : List Token) (last : Token) (m : Mode) (h : IsRead page from tokens last m) where
  place_after : from + length (bytes_of h.done) + length (h.piece).bytes ≡ last.end
  place_after =
      let o = h.token.order in
      let s = h.token.start in
      let n : length (h.piece).bytes ≡ last.end - last.start = ap length h.token.bytes ∙ between_length page last.start last.end h.token.order h.token.within in
      omega arith

  pushed : AreTokens page (tokens ++ last ∷ []) (placed from (h.done ++ h.piece ∷ []))
  pushed =
      subst (AreTokens page (tokens ++ last ∷ [])) (sym (placed_after from h.done h.piece []))
      (with_token page tokens (placed from h.done) last (from + length (bytes_of h.done), h.piece) h.are h.token)

  module _ (front : Front) (f : IsFront page last.end m front) where
    abbrev next : Token
    next = token_of last.end m front

    abbrev q : Piece
    q = piece_of page last.end m front f.tokens

    abbrev later : List Piece
    later = runs (pieces_at (state_of front.mode) (drop front.end page))

    read_on : runs (pieces_at data_state (drop from page)) ≡ h.done ++ with_piece h.piece (with_piece q later)
    read_on = h.read ∙ ap (λ v. h.done ++ with_piece h.piece v) f.read

    texts_are : (are_characters (h.piece).tokens && are_characters q.tokens) ≡ are_texts last next
    texts_are = ap₂ ◌&&◌ (kind_is last.kind (h.piece).tokens h.token.kind) (kind_is front.kind f.tokens f.kind)

    joined : are_texts last next ≡ true → IsRead page from (tokens ++ []) (record { start = last.start; end = front.end; kind = last.kind; mode = last.mode }) front.mode
    joined y =
        let all = texts_are ∙ y in
        let a = left_true (are_characters (h.piece).tokens) (are_characters q.tokens) all in
        let c = right_true (are_characters (h.piece).tokens) (are_characters q.tokens) all in
        let o = h.token.order in
        let l = f.order in
        let t : is_text last.kind ≡ true = left_true (is_text last.kind) (is_text front.kind) y in
        record {
          done = h.done;
          piece = both h.piece q;
          are = subst (λ ts. AreTokens page ts (placed from h.done)) (sym (append-nil tokens)) h.are;
          token = record {
            start = h.token.start;
            order = omega arith;
            within = f.within;
            bytes = ap (λ v. v ++ between page last.end front.end) h.token.bytes ∙ between_both page last.start last.end front.end h.token.order (omega arith);
            rest = h.token.rest;
            kind = text_kind last.kind ((h.piece).tokens ++ f.tokens) t (chars_join (h.piece).tokens f.tokens a c);
          };
          read = read_on ∙ ap (λ v. h.done ++ v) (joins h.piece q later a c);
        }

    apart : are_texts last next ≡ false → IsRead page from (tokens ++ last ∷ []) next front.mode
    apart n =
        let e = bytes_append h.done h.piece in
        let p = place_after in
        let here : last.end ≡ from + length (bytes_of (h.done ++ h.piece ∷ [])) = omega arith in
        record {
          done = h.done ++ h.piece ∷ [];
          piece = q;
          are = pushed;
          token = front_token page last.end (from + length (bytes_of (h.done ++ h.piece ∷ []))) m front f here;
          read = read_on ∙ ap (λ v. h.done ++ v) (stays h.piece q later (texts_are ∙ n)) ∙ sym (append_assoc h.done (h.piece ∷ []) (with_piece q later));
        }

    pub read_next : IsRead page from (tokens ++ pushed_of last next) (last_of last next) front.mode
    read_next = elim (cases_Bool (are_texts last next)) [
      | inl y ↦ subst (λ (v : Bool). IsRead page from (tokens ++ (if v then [] else last ∷ [])) (if v then record { start = last.start; end = front.end; kind = last.kind; mode = last.mode } else next) front.mode) (sym y) (joined y)
      | inr n ↦ subst (λ (v : Bool). IsRead page from (tokens ++ (if v then [] else last ∷ [])) (if v then record { start = last.start; end = front.end; kind = last.kind; mode = last.mode } else next) front.mode) (sym n) (apart n)
    ]

-- the whole page

pieces_same : (t : List ℕ) → pieces_of t ≡ pieces_at data_state t
pieces_same [] = refl
pieces_same (b ∷ t) = refl

pub mark_is : (page : List ℕ) → without_mark page ≡ drop (mark_len page) page
mark_is page =
    cond_both (starts_with ◌==◌ page (0xEF ∷ 0xBB ∷ 0xBF ∷ [])) 3 0 (λ (n : ℕ). (if starts_with ◌==◌ page (0xEF ∷ 0xBB ∷ 0xBF ∷ []) then drop 3 page else page) ≡ drop n page)
    (λ y. rw y refl) (λ n. rw n refl)

pieces_are : (page : List ℕ) → pieces page ≡ pieces_at data_state (drop (mark_len page) page)
pieces_are page = ap pieces_of (mark_is page) ∙ pieces_same (drop (mark_len page) page)

pub read_all : (page : List ℕ) (tokens : List Token) (last : Token) (m : Mode) → IsRead page (mark_len page) tokens last m → length page ≤ last.end → AreTokensOf page (tokens ++ last ∷ [])
read_all page tokens last m h e =
    let from : ℕ = mark_len page in
    subst (λ ps. AreTokens page (tokens ++ last ∷ []) (placed from ps))
    (sym (ap runs (pieces_are page) ∙ h.read ∙ ap (λ v. h.done ++ with_piece h.piece (runs (pieces_at (state_of m) v))) (drop_all last.end page e)))
    (pushed page from tokens last m h)

pub read_none : (page : List ℕ) → mark_len page ≡ length page → AreTokensOf page []
read_none page e =
    subst (λ ps. AreTokens page [] (placed (mark_len page) (runs ps))) (sym (pieces_are page ∙ ap (pieces_at data_state) (drop_all (mark_len page) page (omega arith)))) tt

pub last_end : (first second : Token) → (last_of first second).end ≡ second.end
last_end first second = cond_both (are_texts first second) _ _ (λ (t : Token). t.end ≡ second.end) (λ _. refl) (λ _. refl)

-- side by side

sides : (page : List ℕ) (n : ℕ) (ts : List Token) (ps : List Piece) → AreTokens page ts (placed n ps) → n + length (bytes_of ps) ≡ length page → AreSideBySide n ts (length page)
sides page n [] [] h e = let z : n ≡ n + 0 = omega arith in z ∙ e
sides page n [] (p ∷ ps) h e = absurd h
sides page n (t ∷ ts) [] h e = absurd h
sides page n (t ∷ ts) (p ∷ ps) h e =
    let o = h.0.order in
    let s = h.0.start in
    let len : length p.bytes ≡ t.end - t.start = ap length h.0.bytes ∙ between_length page t.start t.end h.0.order h.0.within in
    let next : n + length p.bytes ≡ t.end = omega arith in
    let whole = length-append p.bytes (bytes_of ps) in
    let total : n + length p.bytes + length (bytes_of ps) ≡ length page = omega arith in
    (s, subst (λ k. AreSideBySide k ts (length page)) next (sides page (n + length p.bytes) ts ps h.1 total))

ends_false : (a c : Bool) → c ≡ false → (a && c) ≡ false
ends_false true c h = h
ends_false false c h = refl

three_within : (s : List ℕ) → starts_with ◌==◌ s (0xEF ∷ 0xBB ∷ 0xBF ∷ []) ≡ true → 3 ≤ length s
three_within [] h = absurd (true≢false (sym h))
three_within (a ∷ []) h = absurd (true≢false (sym h ∙ ends_false (0xEF == a) _ refl))
three_within (a ∷ b ∷ []) h = absurd (true≢false (sym h ∙ ends_false (0xEF == a) _ (ends_false (0xBB == b) _ refl)))
three_within (a ∷ b ∷ c ∷ s) h = omega arith

mark_within : (page : List ℕ) → mark_len page ≤ length page
mark_within page =
    cond_both (starts_with ◌==◌ page (0xEF ∷ 0xBB ∷ 0xBF ∷ [])) 3 0 (λ (n : ℕ). n ≤ length page) (three_within page) (λ _. omega arith)

pub sides_of : (page : List ℕ) (ts : List Token) → AreTokensOf page ts → AreSideBySide (mark_len page) ts (length page)
sides_of page ts h =
    let ps : List Piece = runs (pieces page) in
    let m = mark_within page in
    let all : bytes_of ps ≡ drop (mark_len page) page = runs_bytes (pieces page) ∙ bytes_are page ∙ mark_is page in
    let whole = length-drop (mark_len page) page in
    let len = ap length all in
    sides page (mark_len page) ts ps h (omega arith)
