-- The bytes of a tag are its piece by themselves.
use Rattle.std.proofs.Common.{◌≡◌, ℕ, ◌+◌, Bool, true, false, ◌==◌, ◌&&◌, List, [], ◌∷◌, ◌++◌, length, Some, refl, ap, sym, subst, ◌∙◌, inl, inr, true≢false, append-nil, append_assoc, if◌then◌else◌}
use Rattle.std.specs.Prelude.{⊤}
use Rattle.std.specs.Char.{is_ascii_alphabetic, is_ascii_alphanumeric, is_ascii_digit, is_ascii_hexdigit, to_ascii_lowercase}
use Rattle.std.proofs.lemmas.Bool.{cases_Bool}
use Rattle.tl_html_spec.specs.HtmlTokenizer.{HtmlToken, Character, StartTag, EndTag, CommentToken, DoctypeToken, State, Step, at_end, data_state, ends_name, is_white_space, step, without_mark}
use Rattle.tl_html_spec.specs.Pieces.{Piece, are_characters, piece, pieces, pieces_from, pieces_of, placed, runs, with_piece}
use Rattle.tl_html_spec.specs.Reader.{Reader, Rest, at, emitted, feed, is_at_rest, next, read, rest_before, resting, tokens_of}
use Rattle.tl_html_spec.proofs.Cutting.{front_of, none_or_some}
use Rattle.tl_html_spec.proofs.Resting.{settled_at_once}
use Rattle.tl_html_tokens.specs.Fronts.{pieces_at}
use Rattle.tl_html_tokens.specs.Kinds.{IsKind}
use Rattle.tl_html_tokens.specs.Inner.Machine as M
use Rattle.tl_html_tokens.specs.Modes.{state_of}
use Rattle.tl_html_tokens.specs.Tokens.{AreTokens, AreTokensOf, mark_len}
use Rattle.tl_html_tokens.specs.Whole.{AreWholeTags, IsWhole, TagsAreWhole, is_tag_kind}
use Rattle.tl_html_tokens.specs.declared.mode.Mode.{Mode}
use Rattle.tl_html_tokens.specs.declared.mode.Mode.TheVariants as mode
use Rattle.tl_html_tokens.specs.declared.stage.TokenKind.{TokenKind}
use Rattle.tl_html_tokens.specs.declared.stage.TokenKind.TheVariants as kind
use Rattle.tl_html_tokens.specs.declared.stage.Quote.{Quote}
use Rattle.tl_html_tokens.specs.declared.stage.Quote.TheVariants as quote
use Rattle.tl_html_tokens.specs.declared.stage.Tag.{Tag}
use Rattle.tl_html_tokens.specs.declared.stage.Place.{Place}
use Rattle.tl_html_tokens.specs.declared.stage.Place.TheVariants as place
use Rattle.tl_html_tokens.specs.declared.stage.Stage.{Stage}
use Rattle.tl_html_tokens.specs.declared.stage.Stage.TheVariants as stage
use Rattle.tl_html_tokens.specs.declared.stage.Turn.{Turn}
use Rattle.tl_html_tokens.specs.declared.stage.Turn.TheVariants.{Goes, Ends}
use Rattle.tl_html_tokens.specs.declared.token.Token.{Token}
use Rattle.tl_html_tokens.proofs.Ending.{mode_ends}
use Rattle.tl_html_tokens.proofs.Joining.{chars_join}
use Rattle.tl_html_tokens.proofs.Others.{IsAt, Next, Restless, apart, chars_no_tag, go, is_tag, other_no_tag, turn_leads, turn_other}
use Rattle.tl_html_tokens.proofs.Reading.{begun_or, first_is, no_rest, read_plain, reader, rest_passed, rest_plain}
use Rattle.tl_html_tokens.proofs.Steps.{IsBegun, IsStage, met, rests}
use Rattle.tl_html_tokens.proofs.Turns.{Turned, rest_here, turned}

-- a piece that ends before a byte, and wasn't whole, is no tag

abbrev ends_tag : Turn → Bool
ends_tag (Goes c) = false
ends_tag (Ends k m) = is_tag_kind k

record NoEnd (o : Turn) : Type 0 where
  no : ends_tag o ≡ false

pick : (v : Bool) (o p : Turn) → NoEnd o → NoEnd p → NoEnd (if v then o else p)
pick true o p h k = h
pick false o p h k = k

module _ (b : ℕ) where
  quoted : (q : Quote) (end : ℕ) (tag : Tag) → NoEnd (M.quoted_value q end tag b)
  quoted q end tag = pick (b == end) _ _ (record { no = refl }) (pick (b == 38) _ _ (record { no = refl }) (record { no = refl }))

  value : (q : Quote) (tag : Tag) → NoEnd (M.value q tag b)
  value quote.Double tag = quoted quote.Double 34 tag
  value quote.Single tag = quoted quote.Single 39 tag
  value quote.Absent tag = pick (is_white_space b) _ _ (record { no = refl }) (pick (b == 38) _ _ (record { no = refl }) (pick (b == 62) _ _ (record { no = refl }) (record { no = refl })))

  leave : (p : Place) → NoEnd (M.leave p b)
  leave (place.Text m) = record { no = refl }
  leave (place.Value q tag) = value q tag

  before_key : (tag : Tag) → NoEnd (M.before_key tag b)
  before_key tag = pick (is_white_space b) _ _ (record { no = refl }) (pick (b == 47) _ _ (record { no = refl }) (pick (b == 62) _ _ (record { no = refl }) (record { no = refl })))

  after_key : (tag : Tag) → NoEnd (M.after_key tag b)
  after_key tag =
      pick (is_white_space b) _ _ (record { no = refl }) (pick (b == 47) _ _ (record { no = refl })
      (pick (b == 61) _ _ (record { no = refl }) (pick (b == 62) _ _ (record { no = refl }) (record { no = refl }))))

  less : (m : Mode) → NoEnd (M.after_less_than m b)
  less mode.Script = pick (b == 33) _ _ (record { no = refl }) (record { no = refl })
  less mode.ScriptEscaped = pick (is_ascii_alphabetic b) _ _ (record { no = refl }) (record { no = refl })
  less _ = record { no = refl }

  by_leads : (o : Turn) → turn_leads o ≡ false → NoEnd o
  by_leads (Goes c) h = record { no = refl }
  by_leads (Ends k m) h = record { no = h }

  number_end : (p : Place) → NoEnd (M.number_end p b)
  number_end p = pick (b == 59) _ _ (record { no = refl }) (leave p)

  endless : (c : Stage) (w : List ℕ) → IsBegun c → NoEnd (M.turn c w b)
  endless (stage.Whole k m) w g = absurd g
  endless (stage.Reference p) w g = pick (is_ascii_alphanumeric b) _ _ (record { no = refl }) (pick (b == 35) _ _ (record { no = refl }) (leave p))
  endless (stage.NamedReference p) w g = pick (is_ascii_alphanumeric b) _ _ (record { no = refl }) (pick (b == 59) _ _ (record { no = refl }) (leave p))
  endless (stage.NumericReference p) w g = pick (to_ascii_lowercase b == 120) _ _ (record { no = refl }) (pick (is_ascii_digit b) _ _ (record { no = refl }) (leave p))
  endless (stage.HexadecimalStart p) w g = pick (is_ascii_hexdigit b) _ _ (record { no = refl }) (leave p)
  endless (stage.DecimalStart p) w g = pick (is_ascii_digit b) _ _ (record { no = refl }) (leave p)
  endless (stage.Hexadecimal p) w g = pick (is_ascii_hexdigit b) _ _ (record { no = refl }) (number_end p)
  endless (stage.Decimal p) w g = pick (is_ascii_digit b) _ _ (record { no = refl }) (number_end p)
  endless stage.TagOpen w g =
      pick (b == 33) _ _ (record { no = refl }) (pick (b == 47) _ _ (record { no = refl })
      (pick (is_ascii_alphabetic b) _ _ (record { no = refl }) (pick (b == 63) _ _ (record { no = refl }) (record { no = refl }))))
  endless stage.EndTagOpen w g = pick (is_ascii_alphabetic b) _ _ (record { no = refl }) (pick (b == 62) _ _ (record { no = refl }) (record { no = refl }))
  endless (stage.TagName e) w g =
      pick (is_white_space b) _ _ (record { no = refl }) (pick (b == 47) _ _ (record { no = refl }) (pick (b == 62) _ _ (record { no = refl }) (record { no = refl })))
  endless (stage.RawLessThan m) w g = pick (b == 47) _ _ (record { no = refl }) (less m)
  endless (stage.RawEndTagOpen m) w g = pick (is_ascii_alphabetic b) _ _ (record { no = refl }) (record { no = refl })
  endless (stage.RawEndTagName m) w g =
      pick (is_white_space b && M.is_own m w) _ _ (record { no = refl }) (pick ((b == 47) && M.is_own m w) _ _ (record { no = refl })
      (pick ((b == 62) && M.is_own m w) _ _ (record { no = refl }) (pick (is_ascii_alphabetic b) _ _ (record { no = refl }) (record { no = refl }))))
  endless (stage.BeforeKey tag) w g = before_key tag
  endless (stage.Key tag) w g = pick (ends_name b) _ _ (after_key tag) (pick (b == 61) _ _ (record { no = refl }) (record { no = refl }))
  endless (stage.AfterKey tag) w g = after_key tag
  endless (stage.BeforeValue tag) w g =
      pick (is_white_space b) _ _ (record { no = refl }) (pick (b == 34) _ _ (record { no = refl }) (pick (b == 39) _ _ (record { no = refl })
      (pick (b == 62) _ _ (record { no = refl }) (value quote.Absent tag))))
  endless (stage.Value q tag) w g = value q tag
  endless (stage.AfterValue tag) w g =
      pick (is_white_space b) _ _ (record { no = refl }) (pick (b == 47) _ _ (record { no = refl }) (pick (b == 62) _ _ (record { no = refl }) (before_key tag)))
  endless (stage.SelfClosing tag) w g = pick (b == 62) _ _ (record { no = refl }) (before_key tag)
  endless stage.EscapeStart w g = by_leads _ (turn_other b stage.EscapeStart w refl).no
  endless stage.EscapeStartDash w g = by_leads _ (turn_other b stage.EscapeStartDash w refl).no
  endless stage.DoubleEscapeStart w g = by_leads _ (turn_other b stage.DoubleEscapeStart w refl).no
  endless stage.DoubleEscaped w g = by_leads _ (turn_other b stage.DoubleEscaped w refl).no
  endless stage.DoubleEscapedDash w g = by_leads _ (turn_other b stage.DoubleEscapedDash w refl).no
  endless stage.DoubleEscapedDashDash w g = by_leads _ (turn_other b stage.DoubleEscapedDashDash w refl).no
  endless stage.DoubleEscapedLessThan w g = by_leads _ (turn_other b stage.DoubleEscapedLessThan w refl).no
  endless stage.DoubleEscapeEnd w g = by_leads _ (turn_other b stage.DoubleEscapeEnd w refl).no
  endless stage.BogusComment w g = by_leads _ (turn_other b stage.BogusComment w refl).no
  endless stage.Declaration w g = by_leads _ (turn_other b stage.Declaration w refl).no
  endless stage.CommentStart w g = by_leads _ (turn_other b stage.CommentStart w refl).no
  endless stage.CommentStartDash w g = by_leads _ (turn_other b stage.CommentStartDash w refl).no
  endless stage.Comment w g = by_leads _ (turn_other b stage.Comment w refl).no
  endless stage.CommentLessThan w g = by_leads _ (turn_other b stage.CommentLessThan w refl).no
  endless stage.CommentBang w g = by_leads _ (turn_other b stage.CommentBang w refl).no
  endless stage.CommentBangDash w g = by_leads _ (turn_other b stage.CommentBangDash w refl).no
  endless stage.CommentBangDashDash w g = by_leads _ (turn_other b stage.CommentBangDashDash w refl).no
  endless stage.CommentEndDash w g = by_leads _ (turn_other b stage.CommentEndDash w refl).no
  endless stage.CommentEnd w g = by_leads _ (turn_other b stage.CommentEnd w refl).no
  endless stage.CommentEndBang w g = by_leads _ (turn_other b stage.CommentEndBang w refl).no
  endless stage.Doctype w g = by_leads _ (turn_other b stage.Doctype w refl).no

-- a piece before a byte that finds the machine at rest

some_is : (x y : Rest) → Some x ≡ Some y → x ≡ y
some_is x y e = cc

record IsCut (s : State) (ts : List HtmlToken) (rest : Rest) : Type 0 where
  mode : Mode
  state : rest.state ≡ state_of mode
  same : is_tag (ts ++ rest.emits) ≡ true → at_end s ≡ rest.emits

cut_at : (c : Stage) (w : List ℕ) (s : State) (v : Bool) (ts : List HtmlToken) (b : ℕ) (rest : Rest) → IsAt c w s v ts → rest_before (reader s v) b ≡ Some rest → IsCut s ts rest
cut_at c w s v ts b rest h e = elim (cases_Bool (v && (b == 10))) [
  | inl y ↦ absurd (apart rest (sym (rest_passed s v b y) ∙ e))
  | inr p ↦ elim (begun_or c) [
    | inl g ↦ by_turn p g (M.turn c w (feed b)) refl (turned (feed b) w 2 ts s (M.turn c w (feed b)) (no_rest w c s ts h.stage g) (met (feed b) w c s ts h.stage g))
    | inr q ↦ (
        let st = subst (λ (d : Stage). IsStage w d s ts) q.2 h.stage in
        let r : is_at_rest s ≡ true = ap is_at_rest st.0 ∙ rests q.1 in
        let is : resting s ≡ rest = some_is (resting s) rest (sym (rest_plain s v b p ∙ rest_here (feed b) w 2 s r) ∙ e) in
        record {
          mode = q.1;
          state = sym (ap (λ (x : Rest). x.state) is) ∙ st.0;
          same = λ _. ap at_end st.0 ∙ mode_ends q.1 ∙ ap (λ (x : Rest). x.emits) is;
        })
  ]
]
  where
    by_turn : (v && (b == 10)) ≡ false → IsBegun c → (o : Turn) → M.turn c w (feed b) ≡ o → Turned (feed b) w 2 ts s o → IsCut s ts rest
    by_turn p g (Goes d) k t = absurd (apart rest (sym (rest_plain s v b p ∙ t.0) ∙ e))
    by_turn p g (Ends j m) k t =
        let is : (record { state = state_of m; emits = t.0 }) ≡ rest = some_is (record { state = state_of m; emits = t.0 }) rest (sym (rest_plain s v b p ∙ t.1) ∙ e) in
        let other : is_tag_kind j ≡ false = sym (ap ends_tag k) ∙ (endless (feed b) c w g).no in
        record {
          mode = m;
          state = sym (ap (λ (x : Rest). x.state) is);
          same = λ tag. absurd (true≢false (sym tag ∙ ap (λ (x : Rest). is_tag (ts ++ x.emits)) (sym is) ∙ other_no_tag j (ts ++ t.0) other t.2));
        }

-- a piece as far as it is read

record SoFar (m : Mode) (r : Reader) (bs : List ℕ) (ts : List HtmlToken) : Type 0 where
  stage : Stage
  word : List ℕ
  here : IsAt stage word r.state r.after_return ts
  alone : (text : List ℕ) → pieces_at (state_of m) (bs ++ text) ≡ pieces_from (state_of m) r bs ts text

first_so_far : (m : Mode) (b : ℕ) → SoFar m (next (at (state_of m)) b) (b ∷ []) (emitted (at (state_of m)) (b ∷ []))
first_so_far m b =
    let s : State = state_of m in
    let f = first_is m (feed b) in
    let x : Step = step s (feed b) in
    let is : read (at s) b ≡ x = read_plain s false b refl ∙ settled_at_once 3 x (feed b) f.once in
    record {
      stage = M.first m (feed b);
      word = [];
      here = record {
        stage = subst (λ (y : Step). IsStage [] (M.first m (feed b)) y.next (y.emits ++ [])) (sym is) (subst (IsStage [] (M.first m (feed b)) x.next) (sym (append-nil x.emits)) f.stage);
        returned = λ _. f.plain;
      };
      alone = λ text. refl;
    }

-- pieces of which each tag is whole

abbrev IsAlone : Piece → Type 0
IsAlone p = is_tag p.tokens ≡ true → pieces_at p.rest p.bytes ≡ p ∷ []

abbrev AreAlone : List Piece → Type 0
AreAlone [] = ⊤
AreAlone (p ∷ ps) = IsAlone p × AreAlone ps

all_alone : (text : List ℕ) (m : Mode) (r : Reader) (bs : List ℕ) (ts : List HtmlToken) → SoFar m r bs ts → AreAlone (pieces_from (state_of m) r bs ts text)
all_alone [] m r bs ts f = (λ _. ap (pieces_at (state_of m)) (sym (append-nil bs)) ∙ f.alone [], tt)
all_alone (b ∷ text) m r bs ts f = elim (none_or_some (rest_before r b)) [
  | inl e ↦ rw (e, pieces_from) (all_alone text m (next r b) (bs ++ b ∷ []) (ts ++ emitted r (b ∷ [])) (
      let x : Next f.stage f.word r.state r.after_return ts b = go f.stage f.word r.state r.after_return ts b f.here e in
      record {
        stage = x.to;
        word = x.word;
        here = subst (λ es. IsAt x.to x.word (next r b).state (b == 13) (ts ++ es)) (sym (append-nil (read r b).emits)) x.here;
        alone = λ more.
            let on : pieces_from (state_of m) r bs ts (b ∷ more) ≡ pieces_from (state_of m) (next r b) (bs ++ b ∷ []) (ts ++ emitted r (b ∷ [])) more = rw (e, pieces_from) refl in
            ap (pieces_at (state_of m)) (append_assoc bs (b ∷ []) more) ∙ f.alone (b ∷ more) ∙ on;
      }))
  | inr p ↦ rw (p.1, pieces_from) (
      let rest : Rest = p.0 in
      let k : IsCut r.state ts rest = cut_at f.stage f.word r.state r.after_return ts b rest f.here p.1 in (
        λ tag. ap (pieces_at (state_of m)) (sym (append-nil bs)) ∙ f.alone [] ∙ ap (λ es. piece (state_of m) bs (ts ++ es) ∷ []) (k.same tag),
        subst (λ (s : State). AreAlone (pieces_from s (next (at s) b) (b ∷ []) (emitted (at s) (b ∷ [])) text)) (sym k.state)
            (all_alone text k.mode (next (at (state_of k.mode)) b) (b ∷ []) (emitted (at (state_of k.mode)) (b ∷ [])) (first_so_far k.mode b)),
      ))
]

text_alone : (text : List ℕ) → AreAlone (pieces_of text)
text_alone [] = tt
text_alone (b ∷ text) = all_alone text mode.Data (next (at data_state) b) (b ∷ []) (emitted (at data_state) (b ∷ [])) (first_so_far mode.Data b)

-- texts side by side are no tag
both_alone : (p q : Piece) → (are_characters p.tokens && are_characters q.tokens) ≡ true → IsAlone (piece p.rest (p.bytes ++ q.bytes) (p.tokens ++ q.tokens))
both_alone p q h tag =
    let k = both (are_characters p.tokens) (are_characters q.tokens) h in
    absurd (true≢false (sym tag ∙ chars_no_tag (p.tokens ++ q.tokens) (chars_join p.tokens q.tokens k.0 k.1)))
  where
    both : (a c : Bool) → (a && c) ≡ true → (a ≡ true) × (c ≡ true)
    both true c h = (refl, h)
    both false c h = absurd (true≢false (sym h))

with_alone : (p : Piece) (ps : List Piece) → IsAlone p → AreAlone ps → AreAlone (with_piece p ps)
with_alone p [] h k = (h, tt)
with_alone p (q ∷ ps) h k = elim (cases_Bool (are_characters p.tokens && are_characters q.tokens)) [
  | inl y ↦ rw (y, with_piece) (both_alone p q y, k.1)
  | inr n ↦ rw (n, with_piece) (h, (k.0, k.1))
]

runs_alone : (ps : List Piece) → AreAlone ps → AreAlone (runs ps)
runs_alone [] h = tt
runs_alone (p ∷ ps) h = with_alone p (runs ps) h.0 (runs_alone ps h.1)

-- the tokens of a page

tag_of_kind : (k : TokenKind) (ts : List HtmlToken) → is_tag_kind k ≡ true → IsKind k ts → is_tag ts ≡ true
tag_of_kind kind.StartTag (StartTag n a c ∷ []) e h = refl
tag_of_kind kind.StartTag [] e h = absurd h
tag_of_kind kind.StartTag (StartTag n a c ∷ t ∷ ts) e h = absurd h
tag_of_kind kind.StartTag (EndTag n ∷ ts) e h = absurd h
tag_of_kind kind.StartTag (Character b ∷ ts) e h = absurd h
tag_of_kind kind.StartTag (CommentToken n ∷ ts) e h = absurd h
tag_of_kind kind.StartTag (DoctypeToken ∷ ts) e h = absurd h
tag_of_kind kind.EndTag (EndTag n ∷ []) e h = refl
tag_of_kind kind.EndTag [] e h = absurd h
tag_of_kind kind.EndTag (EndTag n ∷ t ∷ ts) e h = absurd h
tag_of_kind kind.EndTag (StartTag n a c ∷ ts) e h = absurd h
tag_of_kind kind.EndTag (Character b ∷ ts) e h = absurd h
tag_of_kind kind.EndTag (CommentToken n ∷ ts) e h = absurd h
tag_of_kind kind.EndTag (DoctypeToken ∷ ts) e h = absurd h
tag_of_kind _ ts e h = absurd (true≢false (sym e))

whole_tags : (page : List ℕ) (tokens : List Token) (place : ℕ) (ps : List Piece) → AreTokens page tokens (placed place ps) → AreAlone ps → AreWholeTags page tokens (placed place ps)
whole_tags page [] place ps h k = tt
whole_tags page (token ∷ tokens) place [] h k = tt
whole_tags page (token ∷ tokens) place (p ∷ ps) h k = (
  λ tag.
      let here : IsWhole token.mode p.bytes p.tokens =
      subst (λ (s : State). pieces_at s p.bytes ≡ piece s p.bytes p.tokens ∷ []) (h.0).rest (k.0 (tag_of_kind token.kind p.tokens tag (h.0).kind)) in
      subst (λ bs. IsWhole token.mode bs p.tokens) (h.0).bytes here,
  whole_tags page tokens (place + length p.bytes) ps h.1 k.1,
)

pub tags_are_whole : (page : List ℕ) (tokens : List Token) → AreTokensOf page tokens → TagsAreWhole page tokens
tags_are_whole page tokens h = whole_tags page tokens (mark_len page) (runs (pieces page)) h (runs_alone (pieces page) (text_alone (without_mark page)))

-- what is known of a piece by itself

pub record Whole (m : Mode) (bytes : List ℕ) (tokens : List HtmlToken) : Type 0 where
  pub first : ℕ
  pub text : List ℕ
  pub parts : bytes ≡ first ∷ text
  pub restless : Restless (next (at (state_of m)) first) text
  pub is : tokens ≡ tokens_of (at (state_of m)) bytes

one_is : (p q : Piece) → p ∷ [] ≡ q ∷ [] → p ≡ q
one_is p q e = cc

never_two : {A : Type 0} (p q : Piece) (ps : List Piece) → p ∷ ps ≡ q ∷ [] → (f : Piece) (more : List Piece) → ps ≡ f ∷ more → A
never_two p q ps e f more k = let no : p ∷ f ∷ more ≡ q ∷ [] = ap (λ x. p ∷ x) (sym k) ∙ e in absurd (two p f more q no)
  where
    two : (p f : Piece) (more : List Piece) (q : Piece) → p ∷ f ∷ more ≡ q ∷ [] → ⊥
    two p f more q e = cc

whole_from : (text : List ℕ) (s : State) (r : Reader) (bs : List ℕ) (ts : List HtmlToken) (p : Piece) → pieces_from s r bs ts text ≡ p ∷ [] →
    Restless r text × (p.tokens ≡ ts ++ tokens_of r text)
whole_from [] s r bs ts p e = (tt, ap (λ (x : Piece). x.tokens) (sym (one_is (piece s bs (ts ++ at_end r.state)) p e)))
whole_from (b ∷ text) s r bs ts p e = elim (none_or_some (rest_before r b)) [
  | inl n ↦ (
      let on : pieces_from s (next r b) (bs ++ b ∷ []) (ts ++ emitted r (b ∷ [])) text ≡ p ∷ [] = rw (n, pieces_from) at e in
      let more = whole_from text s (next r b) (bs ++ b ∷ []) (ts ++ emitted r (b ∷ [])) p on in (
        (n, more.0),
        more.1
            ∙ ap (λ es. (ts ++ es) ++ tokens_of (next r b) text) (append-nil (read r b).emits)
            ∙ append_assoc ts (read r b).emits (tokens_of (next r b) text),
      ))
  | inr k ↦ (
      let q : State = (k.0).state in
      let cut : piece s bs (ts ++ (k.0).emits) ∷ pieces_from q (next (at q) b) (b ∷ []) (emitted (at q) (b ∷ [])) text ≡ p ∷ [] = rw (k.1, pieces_from) at e in
      let f = front_of b [] q (next (at q) b) (emitted (at q) (b ∷ [])) text in
      never_two (piece s bs (ts ++ (k.0).emits)) p (pieces_from q (next (at q) b) (b ∷ []) (emitted (at q) (b ∷ [])) text) cut f.first f.more f.parts)
]

pub whole_is : (m : Mode) (bytes : List ℕ) (tokens : List HtmlToken) → IsWhole m bytes tokens → Whole m bytes tokens
whole_is m [] tokens h = absurd (none (piece (state_of m) [] tokens) h)
  where
    none : (p : Piece) → [] ≡ p ∷ [] → ⊥
    none p e = cc
whole_is m (b ∷ text) tokens h =
    let s : State = state_of m in
    let w = whole_from text s (next (at s) b) (b ∷ []) (emitted (at s) (b ∷ [])) (piece s (b ∷ text) tokens) h in
    record {
      first = b;
      text = text;
      parts = refl;
      restless = w.0;
      is = w.1 ∙ ap (λ es. es ++ tokens_of (next (at s) b) text) (append-nil (read (at s) b).emits);
    }
