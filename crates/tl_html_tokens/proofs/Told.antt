-- What stands in front of a page tells any driver just what its bytes say.
use Rattle.std.proofs.Common.{◌≡◌, ◌⊎◌, ℕ, Bool, true, false, ◌&&◌, List, [], ◌∷◌, ◌++◌, drop, map, inl, inr, refl, ap, ap₂, sym, subst, ◌∙◌, true≢false, arith, if◌then◌else◌}
use Rattle.std.specs.Prelude.{⊤}
use Rattle.std.proofs.lemmas.Bool.{and_parts, cases_Bool}
use Rattle.tl_html_spec.specs.HtmlTokenizer as T
use Rattle.tl_html_spec.specs.HtmlTokenizer.{Character, CommentToken, DoctypeToken, EndTag, HtmlAttribute, HtmlToken, StartTag, State, with_feeds}
use Rattle.tl_html_spec.specs.Driven.{Driver, Emission, bare, characters, doctype_of, driven, in_state, plain, taken}
use Rattle.tl_html_spec.specs.Pieces.{AreRead, Piece, are_characters, piece, pieces_from, runs, with_piece}
use Rattle.tl_html_spec.specs.Reader.{Reader, at, emitted, next, read, rest_before, tokens_of}
use Rattle.tl_html_spec.proofs.Cutting.{none_or_some, pieces_read}
use Rattle.tl_html_tokens.specs.Characters.{characters_of}
use Rattle.tl_html_tokens.specs.Comments.{comment_of}
use Rattle.tl_html_tokens.specs.Doctypes.{doctype_said}
use Rattle.tl_html_tokens.specs.Driving.{is_start, opens_section}
use Rattle.tl_html_tokens.specs.Emits.{AreEmits, IsTold, front_bytes}
use Rattle.tl_html_tokens.specs.Fronts.{IsFront, pieces_at}
use Rattle.tl_html_tokens.specs.Kinds.{IsDoctype, IsEndTag, IsKind, IsStartTag}
use Rattle.tl_html_tokens.specs.Modes.{state_of}
use Rattle.tl_html_tokens.specs.declared.front.Front.{Front}
use Rattle.tl_html_tokens.specs.declared.mode.Mode.{Mode}
use Rattle.tl_html_tokens.specs.declared.mode.Mode.TheVariants as mode
use Rattle.tl_html_tokens.specs.declared.stage.TokenKind.{TokenKind}
use Rattle.tl_html_tokens.specs.declared.stage.TokenKind.TheVariants as kind
use Rattle.tl_html_tokens.proofs.Alone.{whole_is}
use Rattle.tl_html_tokens.proofs.Cuts.{first_is, later_is}
use Rattle.tl_html_tokens.proofs.Doctyped.{doctype_bytes, doctype_told}
use Rattle.tl_html_tokens.proofs.Drives.{front_driven}
use Rattle.tl_html_tokens.proofs.Ending.{mode_ends}
use Rattle.tl_html_tokens.proofs.Joining.{chars_join, kind_is}
use Rattle.tl_html_tokens.proofs.Places.{cut}
use Rattle.tl_html_tokens.proofs.Saying.{ArePieces, IsPiece, text_said}
use Rattle.tl_html_tokens.proofs.TextRuns.{AreRuns, run_text, runs_said}

-- runs that begin with a piece that is none of characters

runs_none : (ps : List Piece) → runs ps ≡ [] → ps ≡ []
runs_none [] e = refl
runs_none (p ∷ ps) e = absurd (never p (runs ps) e)
  where
    never : (p : Piece) (rs : List Piece) → with_piece p rs ≡ [] → ⊥
    never p [] e = let no : p ∷ [] ≡ [] = e in cc
    never p (r ∷ rs) e = elim (cases_Bool (are_characters p.tokens && are_characters r.tokens)) [
      | inl y ↦ (let no : piece p.rest (p.bytes ++ r.bytes) (p.tokens ++ r.tokens) ∷ rs ≡ [] = rw (y, with_piece) at e in cc)
      | inr n ↦ (let no : p ∷ r ∷ rs ≡ [] = rw (n, with_piece) at e in cc)
    ]

record Begins (ps : List Piece) (p : Piece) (rs : List Piece) : Type 0 where
  more : List Piece
  parts : ps ≡ p ∷ more
  runs_are : runs more ≡ rs

runs_begin : (ps : List Piece) (p : Piece) (rs : List Piece) → runs ps ≡ p ∷ rs → are_characters p.tokens ≡ false → Begins ps p rs
runs_begin [] p rs e n = let no : [] ≡ p ∷ rs = e in cc
runs_begin (q ∷ qs) p rs e n = by (runs qs) refl
  where
    by : (us : List Piece) → runs qs ≡ us → Begins (q ∷ qs) p rs
    by [] k =
        let all : q ∷ [] ≡ p ∷ rs = sym (ap (with_piece q) k) ∙ e in
        record { more = qs; parts = ap (λ x. x ∷ qs) (first_is q p [] rs all); runs_are = k ∙ later_is q p [] rs all }
    by (u ∷ us) k = elim (cases_Bool (are_characters q.tokens && are_characters u.tokens)) [
      | inl y ↦ (
          let both : Piece = piece q.rest (q.bytes ++ u.bytes) (q.tokens ++ u.tokens) in
          let joined : both ∷ us ≡ p ∷ rs = rw (y, with_piece) at (sym (ap (with_piece q) k) ∙ e) in
          let h = and_parts (are_characters q.tokens) (are_characters u.tokens) y in
          absurd (true≢false (sym (chars_join q.tokens u.tokens h.0 h.1) ∙ ap (λ (x : Piece). are_characters x.tokens) (first_is both p us rs joined) ∙ n)))
      | inr o ↦ (
          let all : q ∷ u ∷ us ≡ p ∷ rs = rw (o, with_piece) at (sym (ap (with_piece q) k) ∙ e) in
          record { more = qs; parts = ap (λ x. x ∷ qs) (first_is q p (u ∷ us) rs all); runs_are = k ∙ later_is q p (u ∷ us) rs all })
    ]

with_other : (p : Piece) (ps : List Piece) → are_characters p.tokens ≡ false → with_piece p ps ≡ p ∷ ps
with_other p [] n = refl
with_other p (q ∷ ps) n = rw (n, with_piece) refl

-- the first piece begins in the state of rest

record Rests (s : State) (ps : List Piece) : Type 0 where
  first : Piece
  more : List Piece
  parts : ps ≡ first ∷ more
  rest : first.rest ≡ s

pieces_rest : (t : List ℕ) (s : State) (r : Reader) (acc : List ℕ) (ts : List HtmlToken) → Rests s (pieces_from s r acc ts t)
pieces_rest [] s r acc ts = record { first = piece s acc (ts ++ T.at_end r.state); more = []; parts = refl; rest = refl }
pieces_rest (b ∷ t) s r acc ts = elim (none_or_some (rest_before r b)) [
  | inl n ↦ rw (n, pieces_from) (pieces_rest t s (next r b) (acc ++ b ∷ []) (ts ++ emitted r (b ∷ [])))
  | inr k ↦ rw (k.1, pieces_from) (record {
    first = piece s acc (ts ++ (k.0).emits);
    more = pieces_at (k.0).state (b ∷ t);
    parts = refl;
    rest = refl;
  })
]

run_rest : (s : State) (p : Piece) (rs : List Piece) → p.rest ≡ s → Rests s (with_piece p rs)
run_rest s p [] e = record { first = p; more = []; parts = refl; rest = e }
run_rest s p (r ∷ rs) e = elim (cases_Bool (are_characters p.tokens && are_characters r.tokens)) [
  | inl y ↦ rw (y, with_piece) (record { first = piece p.rest (p.bytes ++ r.bytes) (p.tokens ++ r.tokens); more = rs; parts = refl; rest = e })
  | inr n ↦ rw (n, with_piece) (record { first = p; more = r ∷ rs; parts = refl; rest = e })
]

runs_rest : (s : State) (ps : List Piece) → Rests s ps → Rests s (runs ps)
runs_rest s ps h = subst (λ (x : List Piece). Rests s (runs x)) (sym h.parts) (run_rest s h.first (runs h.more) h.rest)

-- states of rest in which the same runs are read are the same
same_rest : (s t : State) (b : ℕ) (text : List ℕ) → runs (pieces_at s (b ∷ text)) ≡ runs (pieces_at t (b ∷ text)) → s ≡ t
same_rest s t b text e =
    let x = runs_rest s _ (pieces_rest text s (next (at s) b) (b ∷ []) (emitted (at s) (b ∷ []))) in
    let y = runs_rest t _ (pieces_rest text t (next (at t) b) (b ∷ []) (emitted (at t) (b ∷ []))) in
    sym x.rest ∙ ap (λ (p : Piece). p.rest) (first_is x.first y.first x.more y.more (sym x.parts ∙ e ∙ y.parts)) ∙ y.rest

-- emissions of which none is a doctype

abbrev NoDoctype : List HtmlToken → Type 0
NoDoctype [] = ⊤
NoDoctype (DoctypeToken ∷ ts) = ⊥
NoDoctype (t ∷ ts) = NoDoctype ts

plain_of : (es : List Emission) → NoDoctype (map bare es) → es ≡ map plain (map bare es)
plain_of [] h = refl
plain_of (doctype_of x ∷ es) h = absurd h
plain_of (plain DoctypeToken ∷ es) h = absurd h
plain_of (plain (Character c) ∷ es) h = ap (λ fs. plain (Character c) ∷ fs) (plain_of es h)
plain_of (plain (StartTag n a c) ∷ es) h = ap (λ fs. plain (StartTag n a c) ∷ fs) (plain_of es h)
plain_of (plain (EndTag n) ∷ es) h = ap (λ fs. plain (EndTag n) ∷ fs) (plain_of es h)
plain_of (plain (CommentToken c) ∷ es) h = ap (λ fs. plain (CommentToken c) ∷ fs) (plain_of es h)

emits_are : (es : List Emission) (ts : List HtmlToken) → map bare es ≡ ts → NoDoctype ts → es ≡ map plain ts
emits_are es ts e h = plain_of es (subst NoDoctype (sym e) h) ∙ ap (map plain) e

characters_none : (cs : List ℕ) → NoDoctype (map Character cs)
characters_none [] = tt
characters_none (c ∷ cs) = characters_none cs

characters_are : (cs : List ℕ) → map plain (map Character cs) ≡ characters cs
characters_are [] = refl
characters_are (c ∷ cs) = ap (λ es. plain (Character c) ∷ es) (characters_are cs)

-- tokens of a kind

start_is : (ts : List HtmlToken) → IsStartTag ts → (n : List ℕ) × (a : List HtmlAttribute) × (c : Bool) × (ts ≡ StartTag n a c ∷ [])
start_is (StartTag n a c ∷ []) h = (n, a, c, refl)
start_is _ h = absurd h

end_is : (ts : List HtmlToken) → IsEndTag ts → (n : List ℕ) × (ts ≡ EndTag n ∷ [])
end_is (EndTag n ∷ []) h = (n, refl)
end_is _ h = absurd h

doctype_is : (ts : List HtmlToken) → IsDoctype ts → ts ≡ DoctypeToken ∷ []
doctype_is (DoctypeToken ∷ []) h = refl
doctype_is _ h = absurd h

apart : (c : ℕ) (ts : List HtmlToken) → Character c ∷ ts ≡ DoctypeToken ∷ [] → ⊥
apart c ts e = cc

-- a doctype stands in markup alone
only_data : (m : Mode) (x : List ℕ) → tokens_of (at (state_of m)) (60 ∷ 33 ∷ x) ≡ DoctypeToken ∷ [] → m ≡ mode.Data
unfolding read
only_data mode.Data x e = refl
only_data mode.Title x e = absurd (apart _ _ e)
only_data mode.Textarea x e = absurd (apart _ _ e)
only_data mode.ContextText x e = absurd (apart _ _ e)
only_data mode.Style x e = absurd (apart _ _ e)
only_data mode.Xmp x e = absurd (apart _ _ e)
only_data mode.Iframe x e = absurd (apart _ _ e)
only_data mode.Noembed x e = absurd (apart _ _ e)
only_data mode.Noframes x e = absurd (apart _ _ e)
only_data mode.Noscript x e = absurd (apart _ _ e)
only_data mode.Script x e = absurd (apart _ _ e)
only_data mode.ScriptEscaped x e = absurd (apart _ _ e)
only_data mode.ScriptEscapedDash x e = absurd (apart _ _ e)
only_data mode.ScriptEscapedDashDash x e = absurd (apart _ _ e)
only_data mode.Plaintext x e = absurd (apart _ _ e)

-- nothing is pending in a mode
pub nothing_at_end : {M : Type 0} (d : Driver M) (m : M) (n : Mode) → driven d m (in_state (state_of n)) [] ≡ m
nothing_at_end d m n = ap (λ ts. taken d m (map plain ts)) (mode_ends n)

-- what stands in front

all_read : (s : State) (bytes : List ℕ) → AreRead s (pieces_at s bytes)
all_read s [] = tt
all_read s (b ∷ text) = pieces_read s (b ∷ []) text

module _ (page : List ℕ) (start : ℕ) (m : Mode) (front : Front) (f : IsFront page start m front) where
  abbrev bytes : List ℕ
  bytes = front_bytes page start front

  abbrev here : Piece
  here = piece (state_of m) bytes f.tokens

  abbrev rest : List ℕ
  rest = drop front.end page

  text_is : are_characters f.tokens ≡ true → f.tokens ≡ map Character (characters_of m bytes)
  text_is y =
      let r = subst (AreRuns m) f.alone (runs_said (pieces_at (state_of m) bytes) m (text_said m bytes) (all_read (state_of m) bytes)) in
      run_text m here [] r.0 y

  -- of another kind

  one : are_characters f.tokens ≡ false → pieces_at (state_of m) bytes ≡ here ∷ []
  one n =
      let k = runs_begin (pieces_at (state_of m) bytes) here [] f.alone n in
      k.parts ∙ ap (λ x. here ∷ x) (runs_none k.more k.runs_are)

  is_piece : are_characters f.tokens ≡ false → IsPiece m here
  is_piece n = (subst (ArePieces m) (one n) (text_said m bytes)).0

  first : are_characters f.tokens ≡ false → Begins (pieces_at (state_of m) (drop start page)) here (runs (pieces_at (state_of front.mode) rest))
  first n = runs_begin (pieces_at (state_of m) (drop start page)) here (runs (pieces_at (state_of front.mode) rest)) (f.read ∙ with_other here _ n) n

  in_data : f.tokens ≡ DoctypeToken ∷ [] → are_characters f.tokens ≡ false → IsPiece m here → m ≡ mode.Data
  in_data e n p =
      let x = doctype_bytes bytes (p.doctype (subst IsDoctype (sym e) tt)) in
      only_data m x.0 (ap (tokens_of (at (state_of m))) (sym x.1) ∙ sym (whole_is m bytes f.tokens (one n)).is ∙ e)

  emits_of : (k : TokenKind) (es : List Emission) → IsKind k f.tokens → map bare es ≡ f.tokens → (k ≡ kind.Doctype → ⊥) → AreEmits m bytes k es
  emits_of kind.Text es i e never =
      let t = text_is i in
      emits_are es (map Character (characters_of m bytes)) (e ∙ t) (characters_none (characters_of m bytes)) ∙ characters_are (characters_of m bytes)
  emits_of kind.StartTag es i e never =
      let s = start_is f.tokens i in
      let n = kind_is kind.StartTag f.tokens i in
      record {
        name = s.0;
        attributes = s.1;
        closes = s.2;
        emits_are = emits_are es (StartTag s.0 s.1 s.2 ∷ []) (e ∙ s.3) tt;
        whole = one n ∙ ap (λ ts. piece (state_of m) bytes ts ∷ []) s.3;
      }
  emits_of kind.EndTag es i e never =
      let s = end_is f.tokens i in
      let n = kind_is kind.EndTag f.tokens i in
      record {
        name = s.0;
        emits_are = emits_are es (EndTag s.0 ∷ []) (e ∙ s.1) tt;
        whole = one n ∙ ap (λ ts. piece (state_of m) bytes ts ∷ []) s.1;
      }
  emits_of kind.Comment es i e never =
      emits_are es (CommentToken (comment_of bytes) ∷ []) (e ∙ (is_piece (kind_is kind.Comment f.tokens i)).comment i) tt
  emits_of kind.Nothing es i e never = emits_are es [] (e ∙ i) tt
  emits_of kind.Doctype es i e never = absurd (never refl)

  module _ {M : Type 0} (d : Driver M) (memory : M) where
    abbrev after : M
    after = d.take memory (doctype_of (doctype_said bytes))

    -- where the page ends the mode is no matter
    later_state : (t : List ℕ) → runs (pieces_at T.data_state t) ≡ runs (pieces_at (state_of front.mode) t) →
        driven d after (in_state T.data_state) (with_feeds t) ≡ driven d after (in_state (state_of front.mode)) (with_feeds t)
    later_state [] e = sym (nothing_at_end d after front.mode)
    later_state (b ∷ t) e = ap (λ (s : State). driven d after (in_state s) (with_feeds (b ∷ t))) (same_rest T.data_state (state_of front.mode) b t e)

    doctype_goes : front.kind ≡ kind.Doctype → IsTold d memory page start m front
    doctype_goes k =
        let i : IsKind kind.Doctype f.tokens = subst (λ (x : TokenKind). IsKind x f.tokens) k f.kind in
        let n = kind_is kind.Doctype f.tokens i in
        let e = doctype_is f.tokens i in
        let p = is_piece n in
        let markup : m ≡ mode.Data = in_data e n p in
        let in_markup : state_of m ≡ T.data_state = ap state_of markup in
        let o = f.order in
        let all : bytes ++ rest ≡ drop start page = cut page start front.end (omega arith) in
        let x = first n in
        let parts : pieces_at T.data_state (bytes ++ rest) ≡ piece T.data_state bytes f.tokens ∷ x.more =
        ap (pieces_at T.data_state) all ∙ subst (λ (s : State). pieces_at s (drop start page) ≡ piece s bytes f.tokens ∷ x.more) in_markup x.parts in
        let told = doctype_told d memory bytes rest f.tokens x.more (p.doctype i) parts in
        record {
          emits = doctype_of (doctype_said bytes) ∷ [];
          told = subst (λ (y : TokenKind). AreEmits m bytes y (doctype_of (doctype_said bytes) ∷ [])) (sym k) refl;
          goes_on = ap₂ (λ (s : State) t. driven d memory (in_state s) (with_feeds t)) in_markup (sym all)
              ∙ told.1
              ∙ later_state rest (ap runs (sym told.0) ∙ x.runs_are)
              ∙ sym (ap (λ (y : TokenKind). driven d after (in_state (if is_start y then d.sets after else state_of front.mode)) (with_feeds rest)) k);
        }

    other_goes : opens_section d memory page start m ≡ false → (front.kind ≡ kind.Doctype → ⊥) → IsTold d memory page start m front
    other_goes h never =
        let g = front_driven d memory page start m front f h in
        record { emits = g.emits; told = emits_of front.kind g.emits f.kind g.tokens_are never; goes_on = g.goes_on }

is_doctype : (k : TokenKind) → (k ≡ kind.Doctype) ⊎ (k ≡ kind.Doctype → ⊥)
is_doctype kind.Doctype = inl refl
is_doctype kind.Text = inr (λ e. cc)
is_doctype kind.StartTag = inr (λ e. cc)
is_doctype kind.EndTag = inr (λ e. cc)
is_doctype kind.Comment = inr (λ e. cc)
is_doctype kind.Nothing = inr (λ e. cc)

-- for any driver
pub front_told : {M : Type 0} (d : Driver M) (memory : M) (page : List ℕ) (start : ℕ) (m : Mode) (front : Front) → IsFront page start m front →
    opens_section d memory page start m ≡ false → IsTold d memory page start m front
front_told d memory page start m front f h = elim (is_doctype front.kind) [
  | inl k ↦ doctype_goes page start m front f d memory k
  | inr never ↦ other_goes page start m front f d memory h never
]
