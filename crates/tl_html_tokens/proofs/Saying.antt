-- What each piece of a page says that is a text or a comment.
use Rattle.std.proofs.Common.{◌≡◌, ℕ, Bool, true, false, ◌&&◌, ◌==◌, List, [], ◌∷◌, ◌++◌, map, Some, None, codes, inl, inr, refl, ap, ap₂, sym, subst, ◌∙◌, true≢false, append-nil}
use Rattle.std.specs.Prelude.{⊤, if◌then◌else◌}
use Rattle.std.proofs.lemmas.Bool.{cases_Bool, eqb-true}
use Rattle.tl_html_spec.specs.HtmlTokenizer as T
use Rattle.tl_html_spec.specs.HtmlTokenizer.{HtmlToken, Character, CommentToken, State, Step, at_end, char_of, step, whole_step, with_feeds}
use Rattle.tl_html_spec.specs.Pieces.{Piece, are_characters, bytes_of, piece, pieces_from}
use Rattle.tl_html_spec.specs.Reader.{at, feed, is_at_rest, read, rest_before}
use Rattle.tl_html_spec.proofs.Cutting.{bytes_joined}
use Rattle.tl_html_spec.proofs.Resting.{settled_at_once}
use Rattle.tl_html_tokens.specs.Comments.{data_of}
use Rattle.tl_html_tokens.specs.Fronts.{pieces_at}
use Rattle.tl_html_tokens.specs.Kinds.{IsComment, IsDoctype, IsKind}
use Rattle.tl_html_tokens.specs.Inner.Machine as M
use Rattle.tl_html_tokens.specs.Modes.{state_of}
use Rattle.tl_html_tokens.specs.Inner.Stages.{kind_at_end}
use Rattle.tl_html_tokens.specs.declared.mode.Mode.{Mode}
use Rattle.tl_html_tokens.specs.declared.mode.Mode.TheVariants as mode
use Rattle.tl_html_tokens.specs.declared.stage.TokenKind.{TokenKind}
use Rattle.tl_html_tokens.specs.declared.stage.TokenKind.TheVariants as kind
use Rattle.tl_html_tokens.specs.declared.stage.Place.TheVariants as place
use Rattle.tl_html_tokens.specs.declared.stage.Stage.{Stage}
use Rattle.tl_html_tokens.specs.declared.stage.Stage.TheVariants as stage
use Rattle.tl_html_tokens.specs.declared.stage.Turn.{Turn}
use Rattle.tl_html_tokens.specs.declared.stage.Turn.TheVariants.{Goes, Ends}
use Rattle.tl_html_tokens.proofs.Content.{BeginsDoctype, BeginsLess, Content, IsClass, IsText, Kept, Passes, Says, class_plain, class_same, doctype_less, has_references, no_special, one_text, said, said_plain}
use Rattle.tl_html_tokens.proofs.Ending.{end_kind}
use Rattle.tl_html_tokens.proofs.Fed.{IsFed, fed_before, fed_more, fed_one, fed_passed, fed_whole}
use Rattle.tl_html_tokens.proofs.Joining.{kind_is}
use Rattle.tl_html_tokens.proofs.Keeping.{kept, said_at_end}
use Rattle.tl_html_tokens.proofs.Reading.{begun_or, first_is, no_rest, pieces_before, pieces_on, read_passed, read_plain, reader, rest_passed, rest_plain}
use Rattle.tl_html_tokens.proofs.Steps.{IsStage, met, next_word, rests}
use Rattle.tl_html_tokens.proofs.Turns.{Turned, rest_here, turned}

-- the first byte

module _ (m : Mode) (b : ℕ) where
  abbrev First : Step → Stage → Type 0
  First x c = Content m c (b ∷ []) [] x.next x.emits

  pick : (v : Bool) (x y : Step) (c d : Stage) → (v ≡ true → First x c) → (v ≡ false → First y d) → First (if v then x else y) (if v then c else d)
  pick true x y c d f g = f refl
  pick false x y c d f g = g refl

  -- a byte by itself where references are read
  alone : (s : State) → (b == 38) ≡ false → First (T.emitting (said m b) s) (M.whole_text m)
  alone s h = (one_text m b h, λ _. class_same m)

  -- and where they aren't
  raw_alone : (s : State) (n : Mode) (bytes : List ℕ) → bytes ≡ said m b → has_references m ≡ false → has_references n ≡ false → First (T.emitting bytes s) (M.whole_text n)
  raw_alone s n bytes e h k =
      (record { kept = λ _. ap (map Character) (e ∙ sym (append-nil (said m b))); parts = λ y. absurd (true≢false (sym y ∙ h)) }, λ _. class_plain m n h k)

  of_byte : (c : ℕ) → (b == c) ≡ true → (c == 0) ≡ false → c ∷ [] ≡ said m b
  of_byte c y e = sym (said_plain m c e) ∙ ap (said m) (sym (eqb-true b c y))

  less : (n : Mode) (r : T.Raw) → IsClass m n → (b == 60) ≡ true → First (T.to (T.raw_less_than_sign r)) (stage.RawLessThan n)
  less n r c y = (c, ap (λ d. d ∷ []) (eqb-true b 60 y))

  refers : has_references m ≡ true → (s : State) → (b == 38) ≡ true → First (T.to (T.character_reference s)) (stage.Reference (place.Text m))
  refers h s y =
      let e = eqb-true b 38 y in
      let n = no_special m b (ap (λ d. d == 60) e) (ap (λ d. d == 0) e) in
      (h, rw n refl, class_same m)

in_rcdata : (m : Mode) (n : List ℕ) (b : ℕ) → has_references m ≡ true → said m b ≡ char_of b → First m b (step (T.raw (T.rcdata n)) b) (M.in_rcdata m b)
in_rcdata m n b h e =
    pick m b (b == 38) _ _ _ _ (refers m b h (T.raw (T.rcdata n)))
    (λ k. pick m b (b == 60) _ _ _ _ (less m b m (T.rcdata n) (class_same m))
    (λ _. subst (λ bytes. First m b (T.emitting bytes (T.raw (T.rcdata n))) (M.whole_text m)) e (alone m b (T.raw (T.rcdata n)) k)))

in_rawtext : (m : Mode) (n : List ℕ) (b : ℕ) → has_references m ≡ false → said m b ≡ char_of b → First m b (step (T.raw (T.rawtext n)) b) (M.in_rawtext m b)
in_rawtext m n b h e =
    pick m b (b == 60) _ _ _ _ (less m b m (T.rawtext n) (class_same m)) (λ _. raw_alone m b (T.raw (T.rawtext n)) m (char_of b) (sym e) h h)

first_said : (m : Mode) (b : ℕ) → First m b (step (state_of m) b) (M.first m b)
first_said mode.Data b =
    pick mode.Data b (b == 38) _ _ _ _ (refers mode.Data b refl T.data_state)
    (λ k. pick mode.Data b (b == 60) _ _ _ _ (λ y. (class_same mode.Data, ap (λ d. d ∷ []) (eqb-true b 60 y))) (λ _. alone mode.Data b T.data_state k))
first_said mode.Title b = in_rcdata mode.Title (codes "title") b refl refl
first_said mode.Textarea b = in_rcdata mode.Textarea (codes "textarea") b refl refl
first_said mode.ContextText b = in_rcdata mode.ContextText [] b refl refl
first_said mode.Style b = in_rawtext mode.Style (codes "style") b refl refl
first_said mode.Xmp b = in_rawtext mode.Xmp (codes "xmp") b refl refl
first_said mode.Iframe b = in_rawtext mode.Iframe (codes "iframe") b refl refl
first_said mode.Noembed b = in_rawtext mode.Noembed (codes "noembed") b refl refl
first_said mode.Noframes b = in_rawtext mode.Noframes (codes "noframes") b refl refl
first_said mode.Noscript b = in_rawtext mode.Noscript (codes "noscript") b refl refl
first_said mode.Script b =
    pick mode.Script b (b == 60) _ _ _ _ (less mode.Script b mode.Script T.script_data (class_same mode.Script))
    (λ _. raw_alone mode.Script b (T.raw T.script_data) mode.Script (char_of b) refl refl refl)
first_said mode.ScriptEscaped b =
    pick mode.ScriptEscaped b (b == 45) _ _ _ _
    (λ y. raw_alone mode.ScriptEscaped b (T.raw T.script_data_escaped_dash) mode.ScriptEscapedDash (codes "-") (of_byte mode.ScriptEscaped b 45 y refl) refl refl)
    (λ _. pick mode.ScriptEscaped b (b == 60) _ _ _ _ (less mode.ScriptEscaped b mode.ScriptEscaped T.script_data_escaped (class_same mode.ScriptEscaped))
    (λ _. raw_alone mode.ScriptEscaped b (T.raw T.script_data_escaped) mode.ScriptEscaped (char_of b) refl refl refl))
first_said mode.ScriptEscapedDash b =
    pick mode.ScriptEscapedDash b (b == 45) _ _ _ _
    (λ y. raw_alone mode.ScriptEscapedDash b (T.raw T.script_data_escaped_dash_dash) mode.ScriptEscapedDashDash (codes "-") (of_byte mode.ScriptEscapedDash b 45 y refl) refl refl)
    (λ _. pick mode.ScriptEscapedDash b (b == 60) _ _ _ _
    (less mode.ScriptEscapedDash b mode.ScriptEscaped T.script_data_escaped (class_plain mode.ScriptEscapedDash mode.ScriptEscaped refl refl))
    (λ _. raw_alone mode.ScriptEscapedDash b (T.raw T.script_data_escaped) mode.ScriptEscaped (char_of b) refl refl refl))
first_said mode.ScriptEscapedDashDash b =
    pick mode.ScriptEscapedDashDash b (b == 45) _ _ _ _
    (λ y. raw_alone mode.ScriptEscapedDashDash b (T.raw T.script_data_escaped_dash_dash) mode.ScriptEscapedDashDash (codes "-") (of_byte mode.ScriptEscapedDashDash b 45 y refl) refl refl)
    (λ _. pick mode.ScriptEscapedDashDash b (b == 60) _ _ _ _
    (less mode.ScriptEscapedDashDash b mode.ScriptEscaped T.script_data_escaped (class_plain mode.ScriptEscapedDashDash mode.ScriptEscaped refl refl))
    (λ _. pick mode.ScriptEscapedDashDash b (b == 62) _ _ _ _
    (λ y. raw_alone mode.ScriptEscapedDashDash b (T.raw T.script_data) mode.Script (codes ">") (of_byte mode.ScriptEscapedDashDash b 62 y refl) refl refl)
    (λ _. raw_alone mode.ScriptEscapedDashDash b (T.raw T.script_data_escaped) mode.ScriptEscaped (char_of b) refl refl refl)))
first_said mode.Plaintext b = raw_alone mode.Plaintext b T.plaintext mode.Plaintext (char_of b) refl refl refl

-- pieces

-- a piece that begins in a mode
pub record IsPiece (m : Mode) (p : Piece) : Type 0 where
  pub rest : p.rest ≡ state_of m
  pub text : are_characters p.tokens ≡ true → IsText m (with_feeds p.bytes) p.tokens
  pub comment : IsComment p.tokens → p.tokens ≡ CommentToken (data_of (with_feeds p.bytes)) ∷ []
  pub doctype : IsDoctype p.tokens → BeginsDoctype (with_feeds p.bytes)
  pub less : are_characters p.tokens ≡ false → BeginsLess (with_feeds p.bytes)

-- bytes between which no line feed is passed over
abbrev pub IsSeam : List ℕ → List ℕ → Type 0
IsSeam x y = (u v : List ℕ) → y ≡ u ++ v → with_feeds (x ++ u) ≡ with_feeds x ++ with_feeds u

pub seam_none : (x y : List ℕ) → y ≡ [] → IsSeam x y
seam_none x y e [] v h = ap with_feeds (append-nil x) ∙ sym (append-nil (with_feeds x))
seam_none x y e (c ∷ u) v h = let no : [] ≡ c ∷ (u ++ v) = sym e ∙ h in cc

seam_byte : (bytes : List ℕ) (p : Bool) (z : List ℕ) (b : ℕ) (y t : List ℕ) → IsFed bytes p z → (p && (b == 10)) ≡ false → y ≡ b ∷ t → IsSeam bytes y
seam_byte bytes p z b y t f n e [] v h = ap with_feeds (append-nil bytes) ∙ sym (append-nil (with_feeds bytes))
seam_byte bytes p z b y t f n e (c ∷ u) v h =
    let all : b ∷ t ≡ c ∷ (u ++ v) = sym e ∙ h in
    let is : b ≡ c = cc in
    ap (λ d. with_feeds (bytes ++ d ∷ u)) (sym is) ∙ fed_before bytes p z b u f n ∙ ap (λ d. with_feeds bytes ++ with_feeds (d ∷ u)) is

abbrev pub ArePieces : Mode → List Piece → Type 0
ArePieces m [] = ⊤
ArePieces m (p ∷ ps) =
    IsPiece m p × (n : Mode) × (are_characters p.tokens ≡ true → IsClass m n) × IsSeam p.bytes (bytes_of ps) × ArePieces n ps

no_comment : (k : TokenKind) (ts : List HtmlToken) → IsKind k ts → (k ≡ kind.Comment → ⊥) → IsComment ts → ⊥
no_comment kind.Comment ts h f i = f refl
no_comment kind.Text (CommentToken d ∷ []) h f i = true≢false (sym h)
no_comment kind.StartTag (CommentToken d ∷ []) h f i = h
no_comment kind.EndTag (CommentToken d ∷ []) h f i = h
no_comment kind.Doctype (CommentToken d ∷ []) h f i = h
no_comment kind.Nothing (CommentToken d ∷ []) h f i = let no : CommentToken d ∷ [] ≡ [] = h in cc
no_comment kind.Text [] h f i = i
no_comment kind.StartTag [] h f i = i
no_comment kind.EndTag [] h f i = i
no_comment kind.Doctype [] h f i = i
no_comment kind.Nothing [] h f i = i
no_comment _ (Character c ∷ ts) h f i = i
no_comment _ (T.StartTag n a c ∷ ts) h f i = i
no_comment _ (T.EndTag n ∷ ts) h f i = i
no_comment _ (T.DoctypeToken ∷ ts) h f i = i
no_comment _ (CommentToken d ∷ t ∷ ts) h f i = i

pub chars_no_comment : (ts : List HtmlToken) → are_characters ts ≡ true → IsComment ts → ⊥
chars_no_comment ts h i = no_comment kind.Text ts h (λ f. cc) i

no_doctype : (k : TokenKind) (ts : List HtmlToken) → IsKind k ts → (k ≡ kind.Doctype → ⊥) → IsDoctype ts → ⊥
no_doctype kind.Doctype ts h f i = f refl
no_doctype kind.Text (T.DoctypeToken ∷ []) h f i = true≢false (sym h)
no_doctype kind.StartTag (T.DoctypeToken ∷ []) h f i = h
no_doctype kind.EndTag (T.DoctypeToken ∷ []) h f i = h
no_doctype kind.Comment (T.DoctypeToken ∷ []) h f i = h
no_doctype kind.Nothing (T.DoctypeToken ∷ []) h f i = let no : T.DoctypeToken ∷ [] ≡ [] = h in cc
no_doctype kind.Text [] h f i = i
no_doctype kind.StartTag [] h f i = i
no_doctype kind.EndTag [] h f i = i
no_doctype kind.Comment [] h f i = i
no_doctype kind.Nothing [] h f i = i
no_doctype _ (Character c ∷ ts) h f i = i
no_doctype _ (T.StartTag n a c ∷ ts) h f i = i
no_doctype _ (T.EndTag n ∷ ts) h f i = i
no_doctype _ (CommentToken d ∷ ts) h f i = i
no_doctype _ (T.DoctypeToken ∷ t ∷ ts) h f i = i

piece_by : (m : Mode) (k : TokenKind) (bytes z : List ℕ) (ts : List HtmlToken) → IsKind k ts → Says m k z ts → with_feeds bytes ≡ z → IsPiece m (piece (state_of m) bytes ts)
piece_by m kind.Text bytes z ts i h e = record {
  rest = refl;
  text = λ _. subst (λ x. IsText m x ts) (sym e) h;
  comment = λ c. absurd (no_comment kind.Text ts i (λ f. cc) c);
  doctype = λ d. absurd (no_doctype kind.Text ts i (λ f. cc) d);
  less = λ n. absurd (true≢false (sym i ∙ n));
}
piece_by m kind.Comment bytes z ts i h e = record {
  rest = refl;
  text = λ y. absurd (true≢false (sym y ∙ kind_is kind.Comment ts i));
  comment = λ _. h.0 ∙ ap (λ x. CommentToken (data_of x) ∷ []) (sym e);
  doctype = λ d. absurd (no_doctype kind.Comment ts i (λ f. cc) d);
  less = λ _. subst BeginsLess (sym e) h.1;
}
piece_by m kind.StartTag bytes z ts i h e = record {
  rest = refl;
  text = λ y. absurd (true≢false (sym y ∙ kind_is kind.StartTag ts i));
  comment = λ c. absurd (no_comment kind.StartTag ts i (λ f. cc) c);
  doctype = λ d. absurd (no_doctype kind.StartTag ts i (λ f. cc) d);
  less = λ _. subst BeginsLess (sym e) h;
}
piece_by m kind.EndTag bytes z ts i h e = record {
  rest = refl;
  text = λ y. absurd (true≢false (sym y ∙ kind_is kind.EndTag ts i));
  comment = λ c. absurd (no_comment kind.EndTag ts i (λ f. cc) c);
  doctype = λ d. absurd (no_doctype kind.EndTag ts i (λ f. cc) d);
  less = λ _. subst BeginsLess (sym e) h;
}
piece_by m kind.Doctype bytes z ts i h e = record {
  rest = refl;
  text = λ y. absurd (true≢false (sym y ∙ kind_is kind.Doctype ts i));
  comment = λ c. absurd (no_comment kind.Doctype ts i (λ f. cc) c);
  doctype = λ _. subst BeginsDoctype (sym e) h;
  less = λ _. subst BeginsLess (sym e) (doctype_less z h);
}
piece_by m kind.Nothing bytes z ts i h e = record {
  rest = refl;
  text = λ y. absurd (true≢false (sym y ∙ kind_is kind.Nothing ts i));
  comment = λ c. absurd (no_comment kind.Nothing ts i (λ f. cc) c);
  doctype = λ d. absurd (no_doctype kind.Nothing ts i (λ f. cc) d);
  less = λ _. subst BeginsLess (sym e) h;
}

-- a piece that ends before a byte, and those after it

module _ (m : Mode) (bytes z : List ℕ) (s : State) (v : Bool) (ts : List HtmlToken) (b : ℕ) (text : List ℕ) where
  abbrev Here : Type 0
  Here = ArePieces m (pieces_from (state_of m) (reader s v) bytes ts (b ∷ text))

  ends_here : (k : TokenKind) (n : Mode) (es : List HtmlToken) → IsFed bytes v z → (v && (b == 10)) ≡ false →
      rest_before (reader s v) b ≡ Some (record { state = state_of n; emits = es }) → IsKind k (ts ++ es) → Passes m k n z (ts ++ es) →
      ArePieces n (pieces_at (state_of n) (b ∷ text)) → Here
  ends_here k n es f p e i h more =
      let all : bytes_of (pieces_at (state_of n) (b ∷ text)) ≡ b ∷ text = bytes_joined (state_of n) _ (b ∷ []) _ text in
      subst (ArePieces m) (sym (pieces_before (state_of m) (reader s v) bytes ts b text (record { state = state_of n; emits = es }) e)) (
        piece_by m k bytes z (ts ++ es) i h.0 (fed_whole bytes v z f),
        n,
        λ y. h.1 (sym (kind_is k (ts ++ es) i) ∙ y),
        seam_byte bytes v z b (bytes_of (pieces_at (state_of n) (b ∷ text))) text f p all,
        more,
      )

  goes_on : (x : Step) → rest_before (reader s v) b ≡ None → read (reader s v) b ≡ x →
      ArePieces m (pieces_from (state_of m) (reader x.next (b == 13)) (bytes ++ b ∷ []) (ts ++ x.emits) text) → Here
  goes_on x e r more = subst (ArePieces m) (sym (pieces_on (state_of m) (reader s v) bytes ts b text x e r)) more

begun : (n : Mode) (b : ℕ) (text : List ℕ) → let x : Step = step (state_of n) (feed b) in
    ArePieces n (pieces_from (state_of n) (reader x.next (b == 13)) (b ∷ []) x.emits text) → ArePieces n (pieces_at (state_of n) (b ∷ text))
begun n b text h =
    let s : State = state_of n in
    let x : Step = step s (feed b) in
    let is : read (at s) b ≡ x = read_plain s false b refl ∙ settled_at_once 3 x (feed b) (first_is n (feed b)).once in
    subst (ArePieces n)
    (sym (ap₂ (λ (y : State) us. pieces_from s (reader y (b == 13)) (b ∷ []) us text) (ap (λ (y : Step). y.next) is) (append-nil (read (at s) b).emits ∙ ap (λ (y : Step). y.emits) is)))
    h

pub pieces_said : (text : List ℕ) (m : Mode) (bytes z w : List ℕ) (c : Stage) (s : State) (v : Bool) (ts : List HtmlToken) →
    IsFed bytes v z → IsStage w c s ts → Content m c z w s ts → ArePieces m (pieces_from (state_of m) (reader s v) bytes ts text)
pieces_said [] m bytes z w c s v ts f i h = (
  piece_by m (kind_at_end c) bytes z (ts ++ at_end s) (end_kind w c s ts i) (said_at_end m z w c s ts i h) (fed_whole bytes v z f),
  m,
  λ _. class_same m,
  seam_none bytes [] refl,
  tt,
)
pieces_said (b ∷ text) m bytes z w c s v ts f i h = elim (cases_Bool (v && (b == 10))) [
  | inl y ↦
      goes_on m bytes z s v ts b text (T.to s) (rest_passed s v b y) (read_passed s v b y)
      (pieces_said text m (bytes ++ b ∷ []) z w c s (b == 13) (ts ++ []) (fed_passed bytes v z b f y)
      (subst (IsStage w c s) (sym (append-nil ts)) i) (subst (Content m c z w s) (sym (append-nil ts)) h))
  | inr p ↦ elim (begun_or c) [
    | inl g ↦
        (let go : (o : Turn) → Turned (feed b) w 2 ts s o → Kept m (feed b) z w s ts o → Here m bytes z s v ts b text = λ o. elim o as
        (λ o. Turned (feed b) w 2 ts s o → Kept m (feed b) z w s ts o → Here m bytes z s v ts b text) [
          | Goes d ↦ λ t k.
              goes_on m bytes z s v ts b text (whole_step s (feed b)) (rest_plain s v b p ∙ t.0) (read_plain s v b p)
              (pieces_said text m (bytes ++ b ∷ []) (z ++ feed b ∷ []) (next_word d w (feed b)) d (whole_step s (feed b)).next (b == 13) (ts ++ (whole_step s (feed b)).emits)
              (fed_more bytes v z b f p) t.1 k)
          | Ends k n ↦ λ t h.
              ends_here m bytes z s v ts b text k n t.0 f p (rest_plain s v b p ∙ t.1) t.2 (h t.0 t.1)
              (begun n b text (pieces_said text n (b ∷ []) (feed b ∷ []) [] (M.first n (feed b)) (step (state_of n) (feed b)).next (b == 13) (step (state_of n) (feed b)).emits
              (fed_one b) (first_is n (feed b)).stage (first_said n (feed b))))
        ] in
        go (M.turn c w (feed b)) (turned (feed b) w 2 ts s (M.turn c w (feed b)) (no_rest w c s ts i g) (met (feed b) w c s ts i g)) (kept m (feed b) z w c s ts i g h))
    | inr q ↦
        (let st : (s ≡ state_of q.1) × IsKind q.0 ts = subst (λ (d : Stage). IsStage w d s ts) q.2 i in
        let k : Passes m q.0 q.1 z ts = subst (λ (d : Stage). Content m d z w s ts) q.2 h in
        let n : Mode = q.1 in
        let r : is_at_rest s ≡ true = ap is_at_rest st.0 ∙ rests n in
        ends_here m bytes z s v ts b text q.0 n [] f p
        (rest_plain s v b p ∙ rest_here (feed b) w 2 s r ∙ ap (λ (x : State). Some (record { state = x; emits = [] })) st.0)
        (subst (IsKind q.0) (sym (append-nil ts)) st.1) (subst (Passes m q.0 n z) (sym (append-nil ts)) k)
        (begun n b text (pieces_said text n (b ∷ []) (feed b ∷ []) [] (M.first n (feed b)) (step (state_of n) (feed b)).next (b == 13) (step (state_of n) (feed b)).emits
        (fed_one b) (first_is n (feed b)).stage (first_said n (feed b)))))
  ]
]

pub text_said : (m : Mode) (text : List ℕ) → ArePieces m (pieces_at (state_of m) text)
text_said m [] = tt
text_said m (b ∷ text) =
    begun m b text
    (pieces_said text m (b ∷ []) (feed b ∷ []) [] (M.first m (feed b)) (step (state_of m) (feed b)).next (b == 13) (step (state_of m) (feed b)).emits
    (fed_one b) (first_is m (feed b)).stage (first_said m (feed b)))
