-- Patches that are refused, each by itself.
use Rattle.std.proofs.Common.{◌≡◌, ◌≤◌, ◌<◌, ℕ, zero, suc, ◌+◌, Bool, true, false, List, [], ◌∷◌, ◌++◌, length, get_or, drop, map, Option, Some, None, slice_get, refl, ap, sym, subst, ◌∙◌, arith, inl, inr, append-nil, append_assoc, true≢false}
use Rattle.std.specs.List.{All, Contains}
use Rattle.std.specs.Option.{option_map, option_to_list}
use Rattle.std.specs.Prelude.{Err, IfNone, IfOk, IfSome, Ok, Result, if◌then◌else◌, is_some, max, nat_lt, ◌==◌, ◌&&◌}
use Rattle.std.proofs.lemmas.Bool.{and_parts, cases_Bool, eq-eqb, eqb-true, ltb-false, ltb-true}
use Rattle.std.proofs.lemmas.List.{drop_more}
use Rattle.std.proofs.lemmas.List.Elements.{All-append, All-cons, All-contains, Contains-append_left, Contains-append_right, Contains-get_or}
use Rattle.std.proofs.lemmas.Option.{none-some, same_Some, slice_get-get_or, slice_get_within}
use lib.Dec.{ltb}
use Rattle.tl_html_spec.specs.HtmlTokenizer.{Character, CommentToken, DoctypeToken, EndTag, HtmlToken, StartTag}
use Rattle.tl_html_spec.specs.Pieces.{Piece, pieces, placed, runs}
use Rattle.tl_html_tokens.specs.Kinds.{IsStartTag}
use Rattle.tl_html_tokens.specs.Tokens.{AreTokens, AreTokensOf, mark_len}
use Rattle.tl_html_tokens.specs.declared.stage.TokenKind.TheVariants as kind
use Rattle.tl_html_tokens.specs.declared.token.Token.{Token}
use Rattle.tl_patch_spec.specs.Patches.{Patch, Put, asked_of, start_name}
use Rattle.tl_patch_spec.specs.Splices.{Splice}
use Rattle.tl_patch_spec.specs.Together.{Gone, is_gone, none_gone}
use Rattle.tl_patch_edit.specs.Apart.{gone_if, gone_with, is_start_there, refusal_of, refused_apart, refused_from, start_after, start_from, unless_some, unmeant, unstarted_from, unstarted_in}
use Rattle.tl_patch_edit.specs.Errors.{CannotBeMeant, IsRefused, LacksStartTag, NoneBeginsAt, pieces_in, placed_pieces}
use Rattle.tl_patch_edit.specs.Found.{IsStartAt, IsStartOf}
use Rattle.tl_patch_edit.specs.Inner.Apart.{ArePassed, IsReached, IsReachedAt, IsStartOfPage, NoStartThere, start_number}
use Rattle.tl_patch_edit.specs.Inner.Causes.{NoStartFrom}
use Rattle.tl_patch_edit.specs.Several.{places_of}
use Rattle.tl_patch_edit.specs.View.{gone_view, patch_view, patches_view}
use Rattle.tl_patch_edit.specs.declared.ask.Gone.{Gone as CodeGone}
use Rattle.tl_patch_edit.specs.declared.ask.PlacedPatch.{PlacedPatch}
use Rattle.tl_patch_edit.specs.declared.ask.Start.{Start}
use Rattle.tl_patch_edit.specs.declared.error.EditError.{EditError}
use Rattle.tl_patch_edit.specs.declared.error.EditError.TheVariants as error
use Rattle.tl_patch_edit.proofs.Edited.{Meant, start_of, token_meant}
use Rattle.tl_patch_edit.proofs.Missing.{TokenAt, ends_before, kind_is, token_at}
use Rattle.tl_patch_edit.proofs.Starts.{NoStartBetween}

-- tokens up to one that are passed

pub passed_more : (tokens : List Token) (place from at : ℕ) (d : Token) → at < length tokens → (get_or tokens at d).start ≤ place → ((get_or tokens at d).start ≡ place → (get_or tokens at d).kind ≡ kind.StartTag → ⊥) →
    ArePassed tokens place from at → ArePassed tokens place from (at + 1)
passed_more tokens place from at d l before not h = λ n t o k e. elim (cases_Bool (ltb n at)) [
  | inl y ↦ h n t o (ltb-true n at y) e
  | inr y ↦
      let m : at ≤ n = ltb-false n at y in
      let same : n ≡ at = omega arith in
      let a : slice_get tokens at ≡ Some (get_or tokens at d) = slice_get-get_or tokens at d l in
      let b : slice_get tokens at ≡ Some t = ap (slice_get tokens) (sym same) ∙ e in
      let is : get_or tokens at d ≡ t = cc in
      (subst (λ (x : Token). x.start ≤ place) is before, λ s q. not (ap (λ (x : Token). x.start) is ∙ s) (ap (λ (x : Token). x.kind) is ∙ q))
]

pub passed_all : (tokens : List Token) (place from at : ℕ) → length tokens ≤ at → ArePassed tokens place from at → ArePassed tokens place from (length tokens)
passed_all tokens place from at l h = λ n t o k e. h n t o (omega arith) e

pub none_passed : (tokens : List Token) (place from : ℕ) → ArePassed tokens place from from
none_passed tokens place from = λ n t o k e. absurd (omega arith)

pub reached_at : (tokens : List Token) (place at : ℕ) (d : Token) → at < length tokens → IsReached (get_or tokens at d) place → IsReachedAt tokens place at
reached_at tokens place at d l h = λ t e.
    let there : slice_get tokens at ≡ Some (get_or tokens at d) = slice_get-get_or tokens at d l in
    let same : get_or tokens at d ≡ t = cc in
    subst (λ (x : Token). IsReached x place) same h

pub none_reached : (tokens : List Token) (place : ℕ) → IsReachedAt tokens place (length tokens)
none_reached tokens place = λ t e. absurd (let k : length tokens < length tokens = slice_get_within tokens (length tokens) t e in omega arith)

-- no start tag begins at a place

none_begins : (page : List ℕ) (tokens : List Token) (place from until : ℕ) → AreTokensOf page tokens → NoStartBetween 0 from tokens place → ArePassed tokens place from until → IsReachedAt tokens place until →
    NoStartThere tokens place until → NoneBeginsAt page place
none_begins page tokens place from until t early passed reached none = λ number p e s.
    let k = token_at page tokens (placed (mark_len page) (runs (pieces page))) number place p t e in
    let start : k.token.start ≡ place = (k.fits).start in
    let is_start : k.token.kind ≡ kind.StartTag = kind_is k.token.kind p.tokens (k.fits).kind s in
    let in_page : number < length tokens = slice_get_within tokens number k.token k.is in
    elim (cases_Bool (ltb number from)) [
      | inl y ↦ early number k.token (omega arith) (ltb-true number from y) k.is start is_start
      | inr y ↦ elim (cases_Bool (ltb number until)) [
        | inl z ↦ (passed number k.token (ltb-false number from y) (ltb-true number until z) k.is).1 start is_start
        | inr z ↦ elim (cases_Bool (ltb until number)) [
          | inl w ↦
              let before : until < number = ltb-true until number w in
              let there : slice_get tokens until ≡ Some (get_or tokens until k.token) = slice_get-get_or tokens until k.token (omega arith) in
              elim (reached (get_or tokens until k.token) there) [
                | inr r ↦ none (get_or tokens until k.token) there r.0 r.1
                | inl r ↦
                    let m : Meant page (get_or tokens until k.token) (mark_len page) until (runs (pieces page)) = token_meant page tokens until (get_or tokens until k.token) t there in
                    let far : (get_or tokens until k.token).start + length (m.piece).bytes ≤ place =
                    ends_before (runs (pieces page)) (mark_len page) until number (get_or tokens until k.token).start place m.piece p before m.begins e in
                    absurd (omega (arith, r, far))
              ]
          | inr w ↦
              let same : number ≡ until = omega (arith, ltb-false until number w, ltb-false number until z) in
              none k.token (ap (slice_get tokens) (sym same) ∙ k.is) start is_start
        ]
      ]
    ]

-- start tags among pieces

tag_is : (ts : List HtmlToken) → is_some (start_name ts) ≡ true → IsStartTag ts
tag_is [] e = absurd (true≢false (sym e))
tag_is (StartTag n a c ∷ []) e = tt
tag_is (StartTag n a c ∷ t ∷ ts) e = absurd (true≢false (sym e))
tag_is (EndTag n ∷ ts) e = absurd (true≢false (sym e))
tag_is (Character b ∷ ts) e = absurd (true≢false (sym e))
tag_is (CommentToken b ∷ ts) e = absurd (true≢false (sym e))
tag_is (DoctypeToken ∷ ts) e = absurd (true≢false (sym e))

tag_has_name : (ts : List HtmlToken) → IsStartTag ts → is_some (start_name ts) ≡ true
tag_has_name [] s = absurd s
tag_has_name (StartTag n a c ∷ []) s = refl
tag_has_name (StartTag n a c ∷ t ∷ ts) s = absurd s
tag_has_name (EndTag n ∷ ts) s = absurd s
tag_has_name (Character b ∷ ts) s = absurd s
tag_has_name (CommentToken b ∷ ts) s = absurd s
tag_has_name (DoctypeToken ∷ ts) s = absurd s

stands_there : (p : ℕ × Piece) (place : ℕ) (q : Piece) → p ≡ (place, q) → IsStartTag q.tokens → is_start_there p place ≡ true
stands_there p place q e s =
    let begins : p.0 ≡ place = ap (λ (x : ℕ × Piece). x.0) e in
    let tag : IsStartTag (p.1).tokens = subst (λ (x : ℕ × Piece). IsStartTag (x.1).tokens) (sym e) s in
    ap (λ (b : Bool). b && is_some (start_name (p.1).tokens)) (eq-eqb p.0 place begins) ∙ tag_has_name (p.1).tokens tag

pub start_none : (ps : List (ℕ × Piece)) (k place : ℕ) → start_from k ps place ≡ None → (n : ℕ) (q : Piece) → slice_get ps n ≡ Some (place, q) → IsStartTag q.tokens → ⊥
start_none [] k place e n q a s = cc
start_none (p ∷ ps) k place e zero q a s =
    let same : p ≡ (place, q) = cc in
    let here : is_start_there p place ≡ true = stands_there p place q same s in
    none-some k (sym e ∙ ap (λ (b : Bool). if b then Some k else start_from (suc k) ps place) here)
start_none (p ∷ ps) k place e (suc n) q a s = elim (cases_Bool (is_start_there p place)) [
  | inl y ↦ absurd (none-some k (sym e ∙ ap (λ (b : Bool). if b then Some k else start_from (suc k) ps place) y))
  | inr y ↦ start_none ps (suc k) place (sym (ap (λ (b : Bool). if b then Some k else start_from (suc k) ps place) y) ∙ e) n q a s
]

pub record IsThere (ps : List (ℕ × Piece)) (k place number : ℕ) : Type 0 where
  pub index : ℕ
  pub is : number ≡ k + index
  pub piece : Piece
  pub begins : slice_get ps index ≡ Some (place, piece)
  pub start : IsStartTag piece.tokens

start_some : (ps : List (ℕ × Piece)) (k place number : ℕ) → start_from k ps place ≡ Some number → IsThere ps k place number
start_some [] k place number e = absurd (none-some number e)
start_some (p ∷ ps) k place number e = elim (cases_Bool (is_start_there p place)) [
  | inl y ↦
      let same : k ≡ number = same_Some k number (sym (ap (λ (b : Bool). if b then Some k else start_from (suc k) ps place) y) ∙ e) in
      let both = and_parts (p.0 == place) (is_some (start_name (p.1).tokens)) y in
      record { index = 0; is = omega (arith, same); piece = p.1; begins = ap (λ n. Some (n, p.1)) (eqb-true p.0 place both.0); start = tag_is (p.1).tokens both.1 }
  | inr y ↦
      let r = start_some ps (suc k) place number (sym (ap (λ (b : Bool). if b then Some k else start_from (suc k) ps place) y) ∙ e) in
      record { index = suc r.index; is = omega (arith, r.is); piece = r.piece; begins = r.begins; start = r.start }
]

none_there : (ps : List (ℕ × Piece)) (k place : ℕ) → ((n : ℕ) (q : Piece) → slice_get ps n ≡ Some (place, q) → IsStartTag q.tokens → ⊥) → start_from k ps place ≡ None
none_there [] k place h = refl
none_there (p ∷ ps) k place h = elim (cases_Bool (is_start_there p place)) [
  | inl y ↦
      let both = and_parts (p.0 == place) (is_some (start_name (p.1).tokens)) y in
      absurd (h 0 p.1 (ap (λ n. Some (n, p.1)) (eqb-true p.0 place both.0)) (tag_is (p.1).tokens both.1))
  | inr y ↦ ap (λ (b : Bool). if b then Some k else start_from (suc k) ps place) y ∙ none_there ps (suc k) place (λ n q a s. h (suc n) q a s)
]

some_there : (ps : List (ℕ × Piece)) (k place n m : ℕ) (q : Piece) → slice_get ps n ≡ Some (place, q) → IsStartTag q.tokens → ((i : ℕ) (r : Piece) → i < n → slice_get ps i ≡ Some (place, r) → IsStartTag r.tokens → ⊥) →
    m ≡ k + n → start_from k ps place ≡ Some m
some_there [] k place n m q a s f e = cc
some_there (p ∷ ps) k place zero m q a s f e =
    let is : p ≡ (place, q) = cc in
    let here : is_start_there p place ≡ true = stands_there p place q is s in
    let same : k ≡ m = omega (arith, e) in
    ap (λ (b : Bool). if b then Some k else start_from (suc k) ps place) here ∙ ap (λ i. Some i) same
some_there (p ∷ ps) k place (suc n) m q a s f e = elim (cases_Bool (is_start_there p place)) [
  | inl y ↦
      let both = and_parts (p.0 == place) (is_some (start_name (p.1).tokens)) y in
      absurd (f 0 p.1 (omega arith) (ap (λ i. Some (i, p.1)) (eqb-true p.0 place both.0)) (tag_is (p.1).tokens both.1))
  | inr y ↦ ap (λ (b : Bool). if b then Some k else start_from (suc k) ps place) y
      ∙ some_there ps (suc k) place n m q a s (λ i r l b t. f (suc i) r (omega (arith, l)) b t) (omega (arith, e))
]

-- nothing, if it isn't to be
abbrev pub not_if : {X : Type 0} → Option X → Bool → Option X
not_if o b = if b then None else o

-- the start tags that are passed, where one was sought up to the greatest of some places

pub record AreSought (tokens : List Token) (greatest from : ℕ) : Type 0 where
  pub early : (place : ℕ) → greatest ≤ place → NoStartBetween 0 from tokens place
  pub late : (place : ℕ) → place < greatest → NoStartFrom from tokens place

pub none_sought : (tokens : List Token) → AreSought tokens 0 0
none_sought tokens = record { early = λ place g n t o l e s k. absurd (omega (arith, l)); late = λ place g n t o e s k. absurd (omega (arith, g)) }

pub begins_later : (page : List ℕ) (tokens : List Token) (m n : ℕ) (a b : Token) → AreTokensOf page tokens → m < n → slice_get tokens m ≡ Some a → slice_get tokens n ≡ Some b → a.start ≤ b.start
begins_later page tokens m n a b t l e f =
    let ps : List Piece = runs (pieces page) in
    let x : Meant page a (mark_len page) m ps = token_meant page tokens m a t e in
    let y : Meant page b (mark_len page) n ps = token_meant page tokens n b t f in
    let far : a.start + length (x.piece).bytes ≤ b.start = ends_before ps (mark_len page) m n a.start b.start x.piece y.piece l x.begins y.begins in
    omega (arith, far)

none_late : (page : List ℕ) (tokens : List Token) (place until : ℕ) → AreTokensOf page tokens → IsReachedAt tokens place until → (other : ℕ) → other < place → NoStartFrom until tokens other
none_late page tokens place until t reached other less = λ n x o e s k. elim (cases_Bool (ltb until n)) [
  | inl y ↦
      let before : until < n = ltb-true until n y in
      let in_page : n < length tokens = slice_get_within tokens n x e in
      let there : slice_get tokens until ≡ Some (get_or tokens until x) = slice_get-get_or tokens until x (omega (arith, before, in_page)) in
      let order : (get_or tokens until x).start ≤ x.start = begins_later page tokens until n (get_or tokens until x) x t before there e in
      elim (reached (get_or tokens until x) there) [
        | inl r ↦ absurd (omega (arith, r, order, s, less))
        | inr r ↦ (let at : (get_or tokens until x).start ≡ place = r.0 in absurd (omega (arith, at, order, s, less)))
      ]
  | inr y ↦
      let same : n ≡ until = omega (arith, ltb-false until n y, o) in
      elim (reached x (ap (slice_get tokens) (sym same) ∙ e)) [
        | inl r ↦ absurd (omega (arith, r, s, less))
        | inr r ↦ (let at : x.start ≡ place = r.0 in absurd (omega (arith, at, s, less)))
      ]
]

pub sought_more : (page : List ℕ) (tokens : List Token) (greatest place from until : ℕ) → AreTokensOf page tokens → from ≤ until → ArePassed tokens place from until → IsReachedAt tokens place until → AreSought tokens greatest from →
    AreSought tokens (max greatest place) until
sought_more page tokens greatest place from until t order passed reached h = record {
  early = λ other g n x o l e s k. elim (cases_Bool (ltb n from)) [
    | inl y ↦ (let above : greatest ≤ other = omega (arith, g) in h.early other above n x o (ltb-true n from y) e s k)
    | inr y ↦
        let p = passed n x (ltb-false n from y) l e in
        let above : place ≤ other = omega (arith, g) in
        let before : x.start ≤ place = p.0 in
        p.1 (omega (arith, above, before, s)) k
  ];
  late = λ other g n x o e s k. elim (cases_Bool (ltb other greatest)) [
    | inl y ↦ h.late other (ltb-true other greatest y) n x (omega (arith, order, o)) e s k
    | inr y ↦
        let less : other < place = (let past : greatest ≤ other = ltb-false other greatest y in omega (arith, past, g)) in
        none_late page tokens place until t reached other less n x o e s k
  ];
}

start_there_is : (page : List ℕ) (tokens : List Token) (place from until : ℕ) (start : Start) → AreTokensOf page tokens → NoStartBetween 0 from tokens place → ArePassed tokens place from until →
    IsStartAt tokens place start.number start.token → start.number ≡ until → start_from 0 (placed_pieces page) place ≡ Some start.number
start_there_is page tokens place from until start t early passed is at =
    let o : IsStartOf page start.number start.token = start_of page tokens place start.number start.token t is in
    some_there (placed_pieces page) 0 place start.number start.number o.piece (o.begins ∙ ap (λ n. Some (n, o.piece)) is.start) o.start
    (λ i r l b s.
    let k = token_at page tokens (placed (mark_len page) (runs (pieces page))) i place r t b in
    let begins : k.token.start ≡ place = (k.fits).start in
    let tag : k.token.kind ≡ kind.StartTag = kind_is k.token.kind r.tokens (k.fits).kind s in
    elim (cases_Bool (ltb i from)) [
      | inl y ↦ early i k.token (omega arith) (ltb-true i from y) k.is begins tag
      | inr y ↦ (passed i k.token (ltb-false i from y) (omega (arith, l, at)) k.is).1 begins tag
    ])
    (omega arith)

pub start_found : (page : List ℕ) (tokens : List Token) (greatest place from until : ℕ) (start : Option Start) → AreTokensOf page tokens → from ≤ until → AreSought tokens greatest from → ArePassed tokens place from until →
    IsReachedAt tokens place until → IfSome start (λ (s : Start). IsStartAt tokens place s.number s.token) → IfSome start (λ (s : Start). s.number ≡ until) → IfNone start (NoStartThere tokens place until) →
    option_map start_number start ≡ start_after greatest page place
start_found page tokens greatest place from until (Some start) t order h passed reached is at none =
    let there : IsStartAt tokens place start.number start.token = is in
    let same : start.number ≡ until = at in
    elim (cases_Bool (nat_lt place greatest)) [
      | inl y ↦ absurd (h.late place (ltb-true place greatest y) start.number start.token (omega (arith, order, same)) there.is there.start there.kind)
      | inr y ↦ sym (start_there_is page tokens place from until start t (h.early place (ltb-false place greatest y)) passed there same)
          ∙ sym (ap (not_if (start_from 0 (placed_pieces page) place)) y)
    ]
start_found page tokens greatest place from until None t order h passed reached is at none = elim (cases_Bool (nat_lt place greatest)) [
  | inl y ↦ sym (ap (not_if (start_from 0 (placed_pieces page) place)) y)
  | inr y ↦ sym (none_there (placed_pieces page) 0 place (none_begins page tokens place from until t (h.early place (ltb-false place greatest y)) passed reached none))
      ∙ sym (ap (not_if (start_from 0 (placed_pieces page) place)) y)
]

-- the places without a start tag, and the patches that are refused, so far

pub record AreUnstartedSoFar (page : List ℕ) (tokens : List Token) (places : List ℕ) (at from : ℕ) (found : List ℕ) : Type 0 where
  pub greatest : ℕ
  pub sought : AreSought tokens greatest from
  pub far : unstarted_in page places ≡ found ++ unstarted_from greatest page (drop at places)

pub unstarted_begin : (page : List ℕ) (tokens : List Token) (places found : List ℕ) → found ≡ [] → AreUnstartedSoFar page tokens places 0 0 found
unstarted_begin page tokens places found e = record { greatest = 0; sought = none_sought tokens; far = ap (λ (xs : List ℕ). xs ++ unstarted_in page places) (sym e) }

pub unstarted_more : (page : List ℕ) (tokens : List Token) (places : List ℕ) (at from until d : ℕ) (start : Option Start) (old new : List ℕ) → AreTokensOf page tokens → at < length places → from ≤ until →
    ArePassed tokens (get_or places at d) from until → IsReachedAt tokens (get_or places at d) until → IfSome start (λ (s : Start). IsStartAt tokens (get_or places at d) s.number s.token) → IfSome start (λ (s : Start). s.number ≡ until) →
    IfNone start (NoStartThere tokens (get_or places at d) until) → new ≡ old ++ unless_some (option_map start_number start) (get_or places at d) → AreUnstartedSoFar page tokens places at from old →
    AreUnstartedSoFar page tokens places (at + 1) until new
unstarted_more page tokens places at from until d start old new t l order passed reached is number none e h =
    let place : ℕ = get_or places at d in
    let more : List ℕ = unstarted_from (max h.greatest place) page (drop (at + 1) places) in
    let found : option_map start_number start ≡ start_after h.greatest page place = start_found page tokens h.greatest place from until start t order h.sought passed reached is number none in
    record {
      greatest = max h.greatest place;
      sought = sought_more page tokens h.greatest place from until t order passed reached h.sought;
      far = h.far ∙ ap (λ (ps : List ℕ). old ++ unstarted_from h.greatest page ps) (drop_more places at d l)
          ∙ ap (λ (o : Option ℕ). old ++ (unless_some o place ++ more)) (sym found)
          ∙ sym (append_assoc old (unless_some (option_map start_number start) place) more) ∙ ap (λ (xs : List ℕ). xs ++ more) (sym e);
    }

pub unstarted_end : (page : List ℕ) (tokens : List Token) (places : List ℕ) (at from : ℕ) (found : List ℕ) → drop at places ≡ [] → AreUnstartedSoFar page tokens places at from found → found ≡ unstarted_in page places
unstarted_end page tokens places at from found e h =
    sym (append-nil found) ∙ ap (λ (ps : List ℕ). found ++ unstarted_from h.greatest page ps) (sym e) ∙ sym h.far

pub record AreRefusedSoFar (page : List ℕ) (tokens : List Token) (patches : List PlacedPatch) (at from : ℕ) (gone : CodeGone) (errors : List EditError) : Type 0 where
  pub greatest : ℕ
  pub sought : AreSought tokens greatest from
  pub far : refused_apart page (patches_view patches) ≡ errors ++ refused_from greatest (gone_view gone) page (patches_view (drop at patches))

pub refused_begin : (page : List ℕ) (tokens : List Token) (patches : List PlacedPatch) (errors : List EditError) → errors ≡ [] → AreRefusedSoFar page tokens patches 0 0 (record { from = 0; until = 0 }) errors
refused_begin page tokens patches errors e = record {
  greatest = 0;
  sought = none_sought tokens;
  far = ap (λ (xs : List EditError). xs ++ refused_apart page (patches_view patches)) (sym e);
}

pub refused_more : (page : List ℕ) (tokens : List Token) (patches : List PlacedPatch) (at from until : ℕ) (d : PlacedPatch) (start : Option Start) (found : Option EditError) (gone next : CodeGone) (old new : List EditError) →
    AreTokensOf page tokens → at < length patches → from ≤ until → ArePassed tokens (get_or patches at d).place from until → IsReachedAt tokens (get_or patches at d).place until →
    IfSome start (λ (s : Start). IsStartAt tokens (get_or patches at d).place s.number s.token) → IfSome start (λ (s : Start). s.number ≡ until) → IfNone start (NoStartThere tokens (get_or patches at d).place until) →
    found ≡ refusal_of page (gone_view gone) ((get_or patches at d).place, patch_view (get_or patches at d).patch) (option_map start_number start) →
    gone_view next ≡ gone_with page (gone_view gone) ((get_or patches at d).place, patch_view (get_or patches at d).patch) (option_map start_number start) →
    new ≡ old ++ option_to_list found → AreRefusedSoFar page tokens patches at from gone old → AreRefusedSoFar page tokens patches (at + 1) until next new
refused_more page tokens patches at from until d start found gone next old new t l order passed reached is number none f g e h =
    let one : PlacedPatch = get_or patches at d in
    let p : ℕ × Patch = (one.place, patch_view one.patch) in
    let there : Option ℕ = option_map start_number start in
    let same : there ≡ start_after h.greatest page one.place = start_found page tokens h.greatest one.place from until start t order h.sought passed reached is number none in
    let left : List (ℕ × Patch) = patches_view (drop (at + 1) patches) in
    let more : List EditError = refused_from (max h.greatest one.place) (gone_view next) page left in
    record {
      greatest = max h.greatest one.place;
      sought = sought_more page tokens h.greatest one.place from until t order passed reached h.sought;
      far = h.far ∙ ap (λ (ps : List PlacedPatch). old ++ refused_from h.greatest (gone_view gone) page (patches_view ps)) (drop_more patches at d l)
          ∙ ap (λ (o : Option ℕ). old ++ (option_to_list (refusal_of page (gone_view gone) p o) ++ refused_from (max h.greatest one.place) (gone_with page (gone_view gone) p o) page left)) (sym same)
          ∙ ap (λ (x : Gone). old ++ (option_to_list (refusal_of page (gone_view gone) p there) ++ refused_from (max h.greatest one.place) x page left)) (sym g)
          ∙ ap (λ (o : Option EditError). old ++ (option_to_list o ++ more)) (sym f) ∙ sym (append_assoc old (option_to_list found) more) ∙ ap (λ (xs : List EditError). xs ++ more) (sym e);
    }

pub refused_end : (page : List ℕ) (tokens : List Token) (patches : List PlacedPatch) (at from : ℕ) (gone : CodeGone) (errors : List EditError) → drop at patches ≡ [] → AreRefusedSoFar page tokens patches at from gone errors →
    errors ≡ refused_apart page (patches_view patches)
refused_end page tokens patches at from gone errors e h =
    sym (append-nil errors) ∙ ap (λ (ps : List PlacedPatch). errors ++ refused_from h.greatest (gone_view gone) page (patches_view ps)) (sym e) ∙ sym h.far

-- each of them is one

abbrev pub IsGreatest : List ℕ → ℕ → Type 0
IsGreatest places greatest = (place : ℕ) → All (λ before. before ≤ place) places → greatest ≤ place

front_of : (P : ℕ → Type 0) (xs ys : List ℕ) → All P (xs ++ ys) → All P xs
front_of P xs ys h = λ k d l. All-contains P (xs ++ ys) (get_or xs k d) h (Contains-append_left xs ys (get_or xs k d) (Contains-get_or xs k d l))

greatest_more : (places : List ℕ) (greatest place : ℕ) → IsGreatest places greatest → IsGreatest (places ++ place ∷ []) (max greatest place)
greatest_more places greatest place h = λ other le.
    let front : greatest ≤ other = h other (front_of (λ before. before ≤ other) places (place ∷ []) le) in
    let last : place ≤ other = All-contains (λ before. before ≤ other) (places ++ place ∷ []) place le (Contains-append_right places (place ∷ []) place (0, omega arith, refl)) in
    omega (arith, front, last)

none_at_front : (places : List ℕ) → IsGreatest places 0
none_at_front places = λ place le. omega arith

lacking : (page front back : List ℕ) (greatest place : ℕ) → IsGreatest front greatest → start_after greatest page place ≡ None → LacksStartTag page (front ++ place ∷ back) place
lacking page front back greatest place g e = record {
  front = front;
  back = back;
  is = refl;
  none = λ le.
      let above : nat_lt place greatest ≡ false = (let l : greatest ≤ place = g place le in elim (cases_Bool (nat_lt place greatest)) [
        | inl y ↦ (let k : place < greatest = ltb-true place greatest y in absurd (omega (arith, l, k)))
        | inr y ↦ y
      ]) in
      start_none (placed_pieces page) 0 place (sym (ap (not_if (start_from 0 (placed_pieces page) place)) above) ∙ e);
}

one_lacks : (page front places : List ℕ) (greatest place : ℕ) (start : Option ℕ) → IsGreatest front greatest → start_after greatest page place ≡ start → All (LacksStartTag page (front ++ place ∷ places)) (unless_some start place)
one_lacks page front places greatest place (Some n) g e = λ k d l. absurd (omega (arith, l))
one_lacks page front places greatest place None g e = All-cons (LacksStartTag page (front ++ place ∷ places)) place [] (lacking page front places greatest place g e) (λ k x m. absurd (omega arith))

each_lacks : (page front places : List ℕ) (greatest : ℕ) → IsGreatest front greatest → All (LacksStartTag page (front ++ places)) (unstarted_from greatest page places)
each_lacks page front [] greatest g = λ k d l. absurd (omega (arith, l))
each_lacks page front (place ∷ places) greatest g =
    let P : ℕ → Type 0 = LacksStartTag page (front ++ place ∷ places) in
    let later : All (LacksStartTag page ((front ++ place ∷ []) ++ places)) (unstarted_from (max greatest place) page places) = each_lacks page (front ++ place ∷ []) places (max greatest place) (greatest_more front greatest place g) in
    All-append P (unless_some (start_after greatest page place) place) (unstarted_from (max greatest place) page places)
    (one_lacks page front places greatest place (start_after greatest page place) g refl)
    (subst (λ (ps : List ℕ). All (LacksStartTag page ps) (unstarted_from (max greatest place) page places)) (append_assoc front (place ∷ []) places) later)

pub all_lack : (page places : List ℕ) → All (LacksStartTag page places) (unstarted_in page places)
all_lack page places = each_lacks page [] places 0 (none_at_front [])

-- each of these patches is refused

places_append : (xs ys : List (ℕ × Patch)) → places_of (xs ++ ys) ≡ places_of xs ++ places_of ys
places_append [] ys = refl
places_append (x ∷ xs) ys = ap (λ (ns : List ℕ). x.0 ∷ ns) (places_append xs ys)

cannot_mean : (page : List ℕ) (greatest number : ℕ) (front back : List (ℕ × Patch)) (p : ℕ × Patch) → start_after greatest page p.0 ≡ Some number → asked_of (pieces_in page) number p.1 ≡ None → CannotBeMeant page (front ++ p ∷ back) p.0
cannot_mean page greatest number front back p e none = elim (cases_Bool (nat_lt p.0 greatest)) [
  | inl y ↦ absurd (none-some number (sym (ap (not_if (start_from 0 (placed_pieces page) p.0)) y) ∙ e))
  | inr y ↦
      let r = start_some (placed_pieces page) 0 p.0 number (sym (ap (not_if (start_from 0 (placed_pieces page) p.0)) y) ∙ e) in
      let same : r.index ≡ number = omega (arith, r.is) in
      record {
        at = record {
          patch = p.1;
          among = Contains-append_right front (p ∷ back) p (0, omega arith, refl);
          number = number;
          piece = r.piece;
          begins = ap (slice_get (placed_pieces page)) (sym same) ∙ r.begins;
        };
        start = r.start;
        none = none;
      }
]

unmeant_is : (page : List ℕ) (greatest number : ℕ) (front back : List (ℕ × Patch)) (p : ℕ × Patch) (asked : Option (List (Splice Put))) → start_after greatest page p.0 ≡ Some number → asked_of (pieces_in page) number p.1 ≡ asked →
    All (IsRefused page (front ++ p ∷ back)) (option_to_list (unmeant p.0 asked))
unmeant_is page greatest number front back p (Some asks) e a = λ k d l. absurd (omega (arith, l))
unmeant_is page greatest number front back p None e a =
    All-cons (IsRefused page (front ++ p ∷ back)) (error.NotMeant p.0) [] (cannot_mean page greatest number front back p e a) (λ k x m. absurd (omega arith))

refusal_is : (page : List ℕ) (greatest : ℕ) (gone : Gone) (front back : List (ℕ × Patch)) (p : ℕ × Patch) (start : Option ℕ) → IsGreatest (places_of front) greatest → start_after greatest page p.0 ≡ start →
    All (IsRefused page (front ++ p ∷ back)) (option_to_list (refusal_of page gone p start))
refusal_is page greatest gone front back p None g e =
    let lacks : LacksStartTag page (places_of (front ++ p ∷ back)) p.0 =
    subst (λ (ns : List ℕ). LacksStartTag page ns p.0) (sym (places_append front (p ∷ back))) (lacking page (places_of front) (places_of back) greatest p.0 g e) in
    All-cons (IsRefused page (front ++ p ∷ back)) (error.NoStartTag p.0) [] lacks (λ k x m. absurd (omega arith))
refusal_is page greatest gone front back p (Some number) g e =
    let P : EditError → Type 0 = IsRefused page (front ++ p ∷ back) in
    elim (cases_Bool (is_gone gone number)) [
      | inl y ↦ subst (λ (b : Bool). All P (option_to_list (not_if (unmeant p.0 (asked_of (pieces_in page) number p.1)) b))) (sym y) (λ k d l. absurd (omega (arith, l)))
      | inr y ↦ subst (λ (b : Bool). All P (option_to_list (not_if (unmeant p.0 (asked_of (pieces_in page) number p.1)) b))) (sym y)
          (unmeant_is page greatest number front back p (asked_of (pieces_in page) number p.1) e refl)
    ]

each_refused : (page : List ℕ) (front patches : List (ℕ × Patch)) (greatest : ℕ) (gone : Gone) → IsGreatest (places_of front) greatest → All (IsRefused page (front ++ patches)) (refused_from greatest gone page patches)
each_refused page front [] greatest gone g = λ k d l. absurd (omega (arith, l))
each_refused page front (p ∷ patches) greatest gone g =
    let P : EditError → Type 0 = IsRefused page (front ++ p ∷ patches) in
    let start : Option ℕ = start_after greatest page p.0 in
    let next : Gone = gone_with page gone p start in
    let more : List EditError = refused_from (max greatest p.0) next page patches in
    let greater : IsGreatest (places_of (front ++ p ∷ [])) (max greatest p.0) =
    subst (λ (ns : List ℕ). IsGreatest ns (max greatest p.0)) (sym (places_append front (p ∷ []))) (greatest_more (places_of front) greatest p.0 g) in
    All-append P (option_to_list (refusal_of page gone p start)) more (refusal_is page greatest gone front patches p start g refl)
    (subst (λ (qs : List (ℕ × Patch)). All (IsRefused page qs) more) (append_assoc front (p ∷ []) patches) (each_refused page (front ++ p ∷ []) patches (max greatest p.0) next greater))

pub all_refused_are : (page : List ℕ) (patches : List (ℕ × Patch)) → All (IsRefused page patches) (refused_apart page patches)
all_refused_are page patches = each_refused page [] patches 0 none_gone (none_at_front [])

-- the start tag of a patch

pub starts_of_page : (page : List ℕ) (tokens : List Token) (place : ℕ) (start : Option Start) → AreTokensOf page tokens → IfSome start (λ (s : Start). IsStartAt tokens place s.number s.token) → IfSome start (IsStartOfPage page place)
starts_of_page page tokens place None t h = tt
starts_of_page page tokens place (Some start) t h =
    let there : IsStartAt tokens place start.number start.token = h in
    record { stands = start_of page tokens place start.number start.token t there; begins = there.start }

pub start_within : (page : List ℕ) (number len : ℕ) (token : Token) → IsStartOf page number token → length (pieces_in page) ≤ len → number < len
start_within page number len token o l =
    let n : number < length (pieces_in page) = slice_get_within (pieces_in page) number o.piece o.stands in
    omega (arith, n, l)

-- what comes of one patch

pub gone_refusal : (page : List ℕ) (gone : Gone) (p : ℕ × Patch) (number : ℕ) → is_gone gone number ≡ true → None ≡ refusal_of page gone p (Some number)
gone_refusal page gone p number y = sym (ap (not_if (unmeant p.0 (asked_of (pieces_in page) number p.1))) y)

pub gone_stays : (page : List ℕ) (gone : Gone) (p : ℕ × Patch) (number : ℕ) → is_gone gone number ≡ true → gone ≡ gone_with page gone p (Some number)
gone_stays page gone p number y = sym (ap (λ (b : Bool). if b then gone else gone_if p.1 number (asked_of (pieces_in page) number p.1) gone) y)

pub asked_refusal : (page : List ℕ) (gone : Gone) (p : ℕ × Patch) (number : ℕ) (asked : Option (List (Splice Put))) → is_gone gone number ≡ false → asked_of (pieces_in page) number p.1 ≡ asked →
    unmeant p.0 asked ≡ refusal_of page gone p (Some number)
asked_refusal page gone p number asked y e = ap (unmeant p.0) (sym e) ∙ sym (ap (not_if (unmeant p.0 (asked_of (pieces_in page) number p.1))) y)

pub asked_gone : (page : List ℕ) (gone : Gone) (p : ℕ × Patch) (number : ℕ) (asked : Option (List (Splice Put))) → is_gone gone number ≡ false → asked_of (pieces_in page) number p.1 ≡ asked →
    gone_if p.1 number asked gone ≡ gone_with page gone p (Some number)
asked_gone page gone p number asked y e =
    ap (λ (o : Option (List (Splice Put))). gone_if p.1 number o gone) (sym e) ∙ sym (ap (λ (b : Bool). if b then gone else gone_if p.1 number (asked_of (pieces_in page) number p.1) gone) y)

pub token_count : (page : List ℕ) (tokens : List Token) (place : ℕ) (ps : List Piece) → AreTokens page tokens (placed place ps) → length tokens ≡ length ps
token_count page [] place [] h = refl
token_count page [] place (p ∷ ps) h = absurd h
token_count page (t ∷ tokens) place [] h = absurd h
token_count page (t ∷ tokens) place (p ∷ ps) h = ap suc (token_count page tokens (place + length p.bytes) ps h.1)

pub all_are_refused : (page : List ℕ) (patches wanted : List (ℕ × Patch)) (errors : List EditError) → patches ≡ wanted → errors ≡ refused_apart page patches → All (IsRefused page wanted) errors
all_are_refused page patches wanted errors s e =
    subst (λ (qs : List (ℕ × Patch)). All (IsRefused page qs) errors) s (subst (λ (es : List EditError). All (IsRefused page patches) es) (sym e) (all_refused_are page patches))

pub if_ok : {A E : Type 0} (P Q : A → Type 0) (r : Result A E) → ((a : A) → P a → Q a) → IfOk r P → IfOk r Q
if_ok P Q (Ok a) f h = f a h
if_ok P Q (Err e) f h = tt
