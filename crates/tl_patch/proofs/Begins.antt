-- How bytes begin that are a start tag by themselves, and the one token that is found in them.
use Rattle.std.proofs.Common.{◌≡◌, ℕ, ◌-◌, ◌≤◌, Bool, true, false, ◌==◌, ◌&&◌, ◌||◌, List, [], ◌∷◌, ◌++◌, length, take, drop, refl, ap, ap₂, sym, subst, ◌∙◌, inl, inr, append-nil, arith, true≢false, if◌then◌else◌}
use Rattle.std.specs.Char.{is_ascii_alphabetic}
use Rattle.std.specs.List.{starts_with}
use Rattle.std.proofs.lemmas.Bool.{and_from, cases_Bool, eq-eqb, eqb-true}
use Rattle.std.proofs.lemmas.List.{length-take-le}
use Rattle.tl_html_spec.specs.HtmlTokenizer.{Character, CommentToken, DoctypeToken, EndTag, HtmlToken, OpenTag, StartTag, State, Step, at_end, data_state, ends_name, is_white_space, new_tag, own_end_tag, tag_name, to, whole_step, with_letter}
use Rattle.tl_html_spec.specs.Pieces.{Piece, bytes_of, piece, pieces, pieces_from, pieces_of, placed, runs}
use Rattle.tl_html_spec.specs.Reader.{Reader, at, emitted, feed, next, read, rest_before, tokens_of}
use Rattle.tl_html_spec.proofs.Cutting.{bytes_joined, none_or_some}
use Rattle.tl_html_spec.proofs.Fold.{tokens_append}
use Rattle.tl_html_tokens.specs.Kinds.{IsKind, IsStartTag}
use Rattle.tl_html_tokens.specs.Modes.{state_of}
use Rattle.tl_html_tokens.specs.Tokens.{AreTokens, AreTokensOf, IsToken, mark_len}
use Rattle.tl_html_tokens.specs.Whole.{IsWhole}
use Rattle.tl_html_tokens.specs.declared.mode.Mode.{Mode}
use Rattle.tl_html_tokens.specs.declared.mode.Mode.TheVariants as mode
use Rattle.tl_html_tokens.specs.declared.stage.TokenKind.{TokenKind}
use Rattle.tl_html_tokens.specs.declared.stage.TokenKind.TheVariants as kind
use Rattle.tl_html_tokens.specs.declared.token.Token.{Token}
use Rattle.tl_html_tokens.proofs.Alone.{Whole, whole_is}
use Rattle.tl_html_tokens.proofs.Opening.{Opening, end, opening, own, start}
use Rattle.tl_html_tokens.proofs.Others.{is_tag}
use Rattle.tl_patch.specs.Places.{begins_start_tag, has_name_end}
use Rattle.tl_patch_spec.specs.TagNames.{IsInName}
use Rattle.tl_patch.proofs.Names.{start_name_begins}
use Rattle.tl_patch_spec.proofs.Inside.{Inside, Outcome, after_value, before_key, ended, inner_text, still, with_all}
use Rattle.tl_patch_spec.proofs.Sets.{end_step, neither}
use Rattle.tl_patch_spec.proofs.Tags.{emits_of, in_tag, past, reader_of}
use Rattle.tl_patch.specs.StartTags.{IsStartTagAlone, are_one_start, is_data, is_one_tag, is_start, is_start_kind, is_start_tag}
use Rattle.tl_patch.proofs.Alone.{alone}
use Rattle.tl_patch.proofs.Starts.{named_tokens, tokens_inside, tokens_still}

start_tag_is : (ts : List HtmlToken) → IsStartTag ts → is_tag ts ≡ true
start_tag_is (StartTag n a c ∷ []) h = refl
start_tag_is [] h = absurd h
start_tag_is (StartTag n a c ∷ t ∷ ts) h = absurd h
start_tag_is (EndTag n ∷ ts) h = absurd h
start_tag_is (Character b ∷ ts) h = absurd h
start_tag_is (CommentToken n ∷ ts) h = absurd h
start_tag_is (DoctypeToken ∷ ts) h = absurd h

-- a byte of a name

pub name_goes_on : (t : OpenTag) (c : ℕ) → ends_name c ≡ false → whole_step (tag_name t) c ≡ to (tag_name (with_letter t c))
name_goes_on t c h =
    let p = neither (is_white_space c || (c == 47)) (c == 62) h in
    let q = neither (is_white_space c) (c == 47) p.0 in
    simp (q.0, q.1, p.1)

no_return : (b : ℕ) → ends_name (feed b) ≡ false → (b == 13) ≡ false
no_return b h = elim (cases_Bool (b == 13)) [
  | inl y ↦ absurd (true≢false (ap (λ (v : Bool). ends_name (if v then 10 else b)) (sym y) ∙ h))
  | inr n ↦ n
]

abbrev reader_in : State → Bool → Reader
reader_in s v = record { state = s; after_return = v }

name_tokens : (t : OpenTag) (b : ℕ) (x : List ℕ) → ends_name (feed b) ≡ false → tokens_of (at (tag_name t)) (b ∷ x) ≡ tokens_of (at (tag_name (with_letter t (feed b)))) x
unfolding read
name_tokens t b x h =
    ap (λ (y : Step). y.emits ++ tokens_of (reader_in y.next (b == 13)) x) (name_goes_on t (feed b) h)
    ∙ ap (λ (v : Bool). tokens_of (reader_in (tag_name (with_letter t (feed b))) v) x) (no_return b h)

-- a name that doesn't end gives no token, nor does an end tag give a start tag

endless_none : (x : List ℕ) (t : OpenTag) → has_name_end x ≡ false → tokens_of (at (tag_name t)) x ≡ []
endless_none [] t h = refl
endless_none (b ∷ x) t h =
    let p = neither (ends_name (feed b)) (has_name_end x) h in
    name_tokens t b x p.0 ∙ endless_none x (with_letter t (feed b)) p.1

no_start : (ts us : List HtmlToken) → ts ≡ us → (IsStartTag us → ⊥) → IsStartTag ts → ⊥
no_start ts us e f h = f (subst IsStartTag e h)

end_inside : (i : Inside) (t : OpenTag) (x : List ℕ) → t.is_end ≡ true → IsStartTag (tokens_of (in_tag i t false) x) → ⊥
end_inside i t x e h = by_outcome (inner_text i false x) (subst IsStartTag (tokens_inside i t false x) h)
  where
    by_outcome : (o : Outcome) → IsStartTag (emits_of t o ++ at_end (reader_of t o).state) → ⊥
    by_outcome (still i w xs) k = subst IsStartTag (tokens_still t i w xs) k
    by_outcome (ended closes xs w rest) k =
        subst (λ (y : Step). IsStartTag ((y.emits ++ emitted (past (with_all t xs) closes w) rest) ++ at_end (reader_of t (ended closes xs w rest)).state)) (end_step t xs closes e) k

end_name : (x : List ℕ) (t : OpenTag) → t.is_end ≡ true → IsStartTag (tokens_of (at (tag_name t)) x) → ⊥
end_name [] t e h = h
end_name (b ∷ x) t e h = elim (cases_Bool (ends_name (feed b))) [
  | inl y ↦ end_inside after_value t (b ∷ x) e (subst IsStartTag (named_tokens t b x y) h)
  | inr n ↦ end_name x (with_letter t (feed b)) e (subst IsStartTag (name_tokens t b x n) h)
]

-- so it begins as a start tag

in_name_none : (text : List ℕ) → IsInName false 2 (60 ∷ text) → (b : ℕ) (t : List ℕ) → text ≡ b ∷ t → has_name_end t ≡ false → tokens_of (at data_state) (60 ∷ b ∷ t) ≡ []
in_name_none text h b t e n =
    let k : IsInName false 2 (60 ∷ b ∷ t) = subst (λ x. IsInName false 2 (60 ∷ x)) e h in
    tokens_append (at data_state) (60 ∷ b ∷ []) t
    ∙ ap₂ (λ (ts : List HtmlToken) (r : Reader). ts ++ tokens_of r t) k.2 k.1
    ∙ endless_none t k.0 n

begins_as : (bytes : List ℕ) (ts : List HtmlToken) → Opening mode.Data bytes → ts ≡ tokens_of (at data_state) bytes → IsStartTag ts → begins_start_tag bytes ≡ true
begins_as bytes ts (start b t e l is) all s = elim (cases_Bool (has_name_end t)) [
  | inl y ↦ ap begins_start_tag e ∙ and_from (is_ascii_alphabetic b) (has_name_end t) l y
  | inr n ↦ (
      let in_name : IsInName false 2 (60 ∷ b ∷ t) = start_name_begins (60 ∷ b ∷ t) (omega arith) refl l in
      absurd (subst IsStartTag (all ∙ ap (tokens_of (at data_state)) e ∙ in_name_none (b ∷ t) in_name b t refl n) s))
]
begins_as bytes ts (end b t e is) all s = absurd (end_name (b ∷ t) (new_tag true) refl (subst IsStartTag (all ∙ is) s))
begins_as bytes ts (own r w b t e l ends a is) all s = absurd (end_inside before_key (own_end_tag r) (b ∷ t) refl (subst IsStartTag (all ∙ is) s))

pub begins : (bytes : List ℕ) (ts : List HtmlToken) → IsWhole mode.Data bytes ts → IsStartTag ts → begins_start_tag bytes ≡ true
begins bytes ts h s =
    let w : Whole mode.Data bytes ts = whole_is mode.Data bytes ts h in
    let all : ts ≡ tokens_of (at data_state) (w.first ∷ w.text) = w.is ∙ ap (tokens_of (at data_state)) w.parts in
    let o : Opening mode.Data (w.first ∷ w.text) = opening mode.Data w.first w.text w.restless (ap is_tag (sym all) ∙ start_tag_is ts s) in
    ap begins_start_tag w.parts ∙ begins_as (w.first ∷ w.text) ts o all s

-- whether bytes are a start tag by themselves

first_rest : (text : List ℕ) (s : State) (r : Reader) (bs : List ℕ) (ts : List HtmlToken) (p : Piece) (ps : List Piece) → pieces_from s r bs ts text ≡ p ∷ ps → p.rest ≡ s
first_rest [] s r bs ts p ps e = cc
first_rest (b ∷ text) s r bs ts p ps e = elim (none_or_some (rest_before r b)) [
  | inl n ↦ first_rest text s (next r b) (bs ++ b ∷ []) (ts ++ emitted r (b ∷ [])) p ps (rw (n, pieces_from) at e)
  | inr k ↦ (let cut : piece s bs (ts ++ (k.0).emits) ∷ pieces_from (k.0).state (next (at (k.0).state) b) (b ∷ []) (emitted (at (k.0).state) (b ∷ [])) text ≡ p ∷ ps = rw (k.1, pieces_from) at e in cc)
]

one_start : (ps : List Piece) → are_one_start ps ≡ true → (p : Piece) × (ps ≡ p ∷ []) × (is_start p.tokens ≡ true)
one_start [] h = absurd (true≢false (sym h))
one_start (p ∷ []) h = (p, refl, h)
one_start (p ∷ q ∷ ps) h = absurd (true≢false (sym h))

start_from : (ts : List HtmlToken) → is_start ts ≡ true → IsStartTag ts
start_from (StartTag n a c ∷ []) h = tt
start_from [] h = absurd (true≢false (sym h))
start_from (StartTag n a c ∷ t ∷ ts) h = absurd (true≢false (sym h))
start_from (EndTag n ∷ ts) h = absurd (true≢false (sym h))
start_from (Character b ∷ ts) h = absurd (true≢false (sym h))
start_from (CommentToken n ∷ ts) h = absurd (true≢false (sym h))
start_from (DoctypeToken ∷ ts) h = absurd (true≢false (sym h))

pub is_start_of : (ts : List HtmlToken) → IsStartTag ts → is_start ts ≡ true
is_start_of (StartTag n a c ∷ []) h = refl
is_start_of [] h = absurd h
is_start_of (StartTag n a c ∷ t ∷ ts) h = absurd h
is_start_of (EndTag n ∷ ts) h = absurd h
is_start_of (Character b ∷ ts) h = absurd h
is_start_of (CommentToken n ∷ ts) h = absurd h
is_start_of (DoctypeToken ∷ ts) h = absurd h

pub start_alone : (bytes : List ℕ) → is_start_tag bytes ≡ true → IsStartTagAlone bytes
start_alone [] h = absurd (true≢false (sym h))
start_alone (b ∷ text) h =
    let r : Reader = next (at data_state) b in
    let ts : List HtmlToken = emitted (at data_state) (b ∷ []) in
    let o = one_start (pieces_from data_state r (b ∷ []) ts text) h in
    let p : Piece = o.0 in
    let bytes : p.bytes ≡ b ∷ text = sym (append-nil p.bytes) ∙ ap bytes_of (sym o.1) ∙ bytes_joined data_state r (b ∷ []) ts text in
    let rest : p.rest ≡ data_state = first_rest text data_state r (b ∷ []) ts p [] o.1 in
    record {
      tokens = p.tokens;
      whole = o.1 ∙ ap₂ (λ s xs. piece s xs p.tokens ∷ []) rest bytes;
      start = start_from p.tokens o.2;
    }

pub whole_start_tag : (bytes : List ℕ) (ts : List HtmlToken) → IsWhole mode.Data bytes ts → IsStartTag ts → is_start_tag bytes ≡ true
whole_start_tag [] ts h s = cc
whole_start_tag (b ∷ text) ts h s = ap are_one_start h ∙ is_start_of ts s

-- the token that is found in them

no_mark : (bytes : List ℕ) → begins_start_tag bytes ≡ true → starts_with ◌==◌ bytes (0xEF ∷ 0xBB ∷ 0xBF ∷ []) ≡ false
no_mark [] h = absurd (true≢false (sym h))
no_mark (a ∷ []) h = absurd (true≢false (sym h))
no_mark (a ∷ b ∷ text) h = elim (cases_Bool (a == 60)) [
  | inl y ↦ ap (λ c. starts_with ◌==◌ (c ∷ b ∷ text) (0xEF ∷ 0xBB ∷ 0xBF ∷ [])) (eqb-true a 60 y)
  | inr n ↦ absurd (true≢false (sym h ∙ ap (λ (v : Bool). v && (is_ascii_alphabetic b && has_name_end text)) n))
]

pub kind_start : (k : TokenKind) (ts : List HtmlToken) → IsKind k ts → IsStartTag ts → is_start_kind k ≡ true
kind_start kind.StartTag ts h s = refl
kind_start kind.Text (StartTag n a c ∷ []) h s = absurd (true≢false (sym h))
kind_start kind.EndTag (StartTag n a c ∷ []) h s = absurd h
kind_start kind.Comment (StartTag n a c ∷ []) h s = absurd h
kind_start kind.Doctype (StartTag n a c ∷ []) h s = absurd h
kind_start kind.Nothing (StartTag n a c ∷ []) h s = cc
kind_start _ [] h s = absurd s
kind_start _ (StartTag n a c ∷ t ∷ ts) h s = absurd s
kind_start _ (EndTag n ∷ ts) h s = absurd s
kind_start _ (Character b ∷ ts) h s = absurd s
kind_start _ (CommentToken n ∷ ts) h s = absurd s
kind_start _ (DoctypeToken ∷ ts) h s = absurd s

pub mode_data : (m : Mode) → data_state ≡ state_of m → is_data m ≡ true
mode_data mode.Data e = refl
mode_data _ e = cc

whole_len : (bytes : List ℕ) (from until : ℕ) → from ≡ 0 → until ≤ length bytes → bytes ≡ take (until - from) (drop from bytes) → until ≡ length bytes
whole_len bytes from until s l e =
    let same : until - 0 ≡ until = omega arith in
    let m : bytes ≡ take until bytes = e ∙ ap (λ n. take (until - n) (drop n bytes)) s ∙ ap (λ k. take k bytes) same in
    sym (length-take-le until bytes l) ∙ sym (ap (λ (xs : List ℕ). length xs) m)

one_token : (bytes : List ℕ) (p : Piece) (tokens : List Token) → AreTokens bytes tokens ((0, p) ∷ []) → p.rest ≡ data_state → p.bytes ≡ bytes → IsStartTag p.tokens →
    is_one_tag tokens (length bytes) ≡ true
one_token bytes p [] h r b s = absurd h
one_token bytes p (t ∷ u ∷ ts) h r b s = absurd h.1
one_token bytes p (t ∷ []) h r b s =
    let k : IsToken bytes t 0 p = h.0 in
    let end : t.end ≡ length bytes = whole_len bytes t.start t.end k.start k.within (sym b ∙ k.bytes) in
    and_from (is_start_kind t.kind) _ (kind_start t.kind p.tokens k.kind s)
    (and_from (is_data t.mode) _ (mode_data t.mode (sym r ∙ k.rest))
    (and_from (t.start == 0) (t.end == length bytes) (eq-eqb t.start 0 k.start) (eq-eqb t.end (length bytes) end)))

pieces_same : (bytes : List ℕ) (ts : List HtmlToken) → IsWhole mode.Data bytes ts → pieces_of bytes ≡ piece data_state bytes ts ∷ []
pieces_same [] ts h = h
pieces_same (b ∷ text) ts h = h

pub one_is_found : (bytes : List ℕ) (tokens : List Token) → AreTokensOf bytes tokens → is_start_tag bytes ≡ true → is_one_tag tokens (length bytes) ≡ true
one_is_found bytes tokens h s =
    let a : IsStartTagAlone bytes = start_alone bytes s in
    let m = no_mark bytes (begins bytes a.tokens a.whole a.start) in
    let p : Piece = piece data_state bytes a.tokens in
    let whole : pieces bytes ≡ p ∷ [] = ap (λ (v : Bool). pieces_of (if v then drop 3 bytes else bytes)) m ∙ pieces_same bytes a.tokens a.whole in
    let here : AreTokens bytes tokens ((0, p) ∷ []) =
    subst (λ n. AreTokens bytes tokens (placed n (p ∷ []))) (ap (λ (v : Bool). if v then 3 else 0) m) (subst (λ ps. AreTokens bytes tokens (placed (mark_len bytes) (runs ps))) whole h) in
    one_token bytes p tokens here refl refl a.start

pub decides : (bytes : List ℕ) (tokens : List Token) → AreTokensOf bytes tokens → is_one_tag tokens (length bytes) ≡ is_start_tag bytes
decides bytes tokens h = elim (cases_Bool (is_one_tag tokens (length bytes))) [
  | inl y ↦ (let a = alone bytes tokens h y in y ∙ sym (whole_start_tag bytes a.tokens a.whole a.start))
  | inr n ↦ elim (cases_Bool (is_start_tag bytes)) [
    | inl y ↦ absurd (true≢false (sym (one_is_found bytes tokens h y) ∙ n))
    | inr m ↦ n ∙ sym m
  ]
]
