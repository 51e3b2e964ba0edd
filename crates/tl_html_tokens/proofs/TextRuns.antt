-- Characters side by side say what their bytes say as one text.
use Rattle.std.proofs.Common.{◌≡◌, ℕ, Bool, true, false, ◌&&◌, ◌||◌, ◌==◌, List, [], ◌∷◌, ◌++◌, map, codes, inl, inr, refl, ap, ap₂, sym, subst, ◌∙◌, true≢false, append-nil, append_assoc, if◌then◌else◌}
use Rattle.std.specs.Prelude.{⊤}
use Rattle.std.specs.List.{list_all}
use Rattle.std.proofs.lemmas.Bool.{and_parts, cases_Bool, eqb-true, not-true}
use Rattle.std.proofs.lemmas.Grind.{flat_map-append}
use Rattle.std.proofs.lemmas.List.{append_cancel_right, map-append}
use Rattle.std.proofs.lemmas.List.Folds.{list_all-append}
use Rattle.tl_html_spec.specs.HtmlTokenizer as T
use Rattle.tl_html_spec.specs.HtmlTokenizer.{HtmlToken, Character, CommentToken, State, char_of, tokens_from, with_feeds}
use Rattle.tl_html_spec.specs.Pieces.{AreRead, Piece, are_characters, bytes_of, piece, runs, tokens_in, with_piece}
use Rattle.tl_html_spec.specs.References.{begins_with}
use Rattle.tl_html_spec.specs.Unescaped.{unescaped_text}
use Rattle.tl_html_spec.proofs.Cutting.{runs_bytes, runs_tokens}
use Rattle.tl_html_spec.proofs.Fold.{all_stays, feeds_read}
use Rattle.tl_html_spec.proofs.Kept.{read_together}
use Rattle.tl_html_spec.proofs.Looked.{bytes-plain, is_plain}
use Rattle.tl_html_spec.proofs.Resolved as R
use Rattle.tl_html_spec.proofs.Resolved.{IsEnd, Reading}
use Rattle.tl_html_spec.proofs.Seams.{less_than_cut, replacement_cut}
use Rattle.tl_html_spec.proofs.Texts.{less_than-IsEnd, text_before}
use Rattle.tl_html_tokens.specs.Characters.{characters_of, without_nul}
use Rattle.tl_html_tokens.specs.Comments.{data_of}
use Rattle.tl_html_tokens.specs.Kinds.{IsComment}
use Rattle.tl_html_tokens.specs.Modes.{state_of}
use Rattle.tl_html_tokens.specs.declared.mode.Mode.{Mode}
use Rattle.tl_html_tokens.specs.declared.mode.Mode.TheVariants as mode
use Rattle.tl_html_tokens.proofs.Content.{BeginsLess, IsClass, IsSpecial, begins_more, has_references, is_ordinary, is_special, literal, said}
use Rattle.tl_html_tokens.proofs.Ending.{mode_ends}
use Rattle.tl_html_tokens.proofs.Joining.{chars_join}
use Rattle.tl_html_tokens.proofs.Saying.{ArePieces, IsPiece, IsSeam, chars_no_comment}

-- texts in which references are read

abbrev less_or_nul : ℕ → Bool
less_or_nul b = (b == 60) || (b == 0)

or_parts : (a c : Bool) → (a || c) ≡ false → (a ≡ false) × (c ≡ false)
or_parts true c e = absurd (true≢false e)
or_parts false c e = (refl, e)

in_rcdata : (n : List ℕ) → Reading false less_or_nul
in_rcdata n = record {
  at = λ d. T.raw (T.rcdata n);
  out = map Character;
  new = map Character;
  adds = λ d s. map-append Character d s;
  is = λ d. refl;
  flush = λ d s again. refl;
  ends = λ d. refl;
  plain = λ d b e h.
      let p = or_parts (b == 60) (b == 0) h in
      rw (e, p.0, p.1) refl;
  amp = λ d. refl;
  rests = λ d b. rests b (b == 38) (b == 60);
}
  where
    rests : (b : ℕ) (x y : Bool) →
        (if x then T.to (T.character_reference (T.raw (T.rcdata n))) else if y then T.to (T.raw_less_than_sign (T.rcdata n)) else T.emitting (char_of b) (T.raw (T.rcdata n))).again ≡ false
    rests b true y = refl
    rests b false true = refl
    rests b false false = refl

-- up to a byte that ends each reference, or the end
text_read : (m : Mode) (r t : List ℕ) → has_references m ≡ true → R.Rest r → list_all (is_ordinary m) t ≡ true →
    tokens_from (state_of m) (t ++ r) ≡ map Character (unescaped_text t) ++ tokens_from (state_of m) r
unfolding in_rcdata
text_read mode.Data r t h e k = text_before t r k e
text_read mode.Title r t h e k = R.read false less_or_nul (in_rcdata (codes "title")) r e [] t k
text_read mode.Textarea r t h e k = R.read false less_or_nul (in_rcdata (codes "textarea")) r e [] t k
text_read mode.ContextText r t h e k = R.read false less_or_nul (in_rcdata []) r e [] t k
text_read _ r t h e k = absurd (true≢false (sym h))

nul-IsEnd : IsEnd 0
nul-IsEnd = record { alphanumeric = refl; hexdigit = refl; digit = refl; semicolon = refl; number_sign = refl; equals = refl; x = refl }

by_special : (m : Mode) (q : ℕ) (P : ℕ → Type 0) → P 60 → P 0 → is_special m q ≡ true → P q
by_special mode.Data q P l k h = subst P (sym (eqb-true q 60 h)) l
by_special _ q P l k h = elim (cases_Bool (q == 60)) [
  | inl y ↦ subst P (sym (eqb-true q 60 y)) l
  | inr n ↦ (let y : (q == 0) ≡ true = rw n at h in subst P (sym (eqb-true q 0 y)) k)
]

begins_more_by : (test : ℕ → Bool) (z t : List ℕ) → begins_with test z ≡ true → begins_with test (z ++ t) ≡ true
begins_more_by test [] t h = absurd (true≢false (sym h))
begins_more_by test (b ∷ z) t h = h

rest_special : (m : Mode) (r : List ℕ) → begins_with (is_special m) r ≡ true → R.Rest r
rest_special m [] h = tt
rest_special m (q ∷ r) h = by_special m q IsEnd less_than-IsEnd nul-IsEnd h

rest_less : (r : List ℕ) → BeginsLess r → R.Rest r
rest_less [] h = tt
rest_less (q ∷ r) h = subst IsEnd (sym (eqb-true q 60 h)) less_than-IsEnd

-- what stands for itself

literal_append : (m : Mode) (x y : List ℕ) → literal m (x ++ y) ≡ literal m x ++ literal m y
literal_append m x y = flat_map-append (said m) x y

said_ordinary : (m : Mode) (b : ℕ) → has_references m ≡ true → is_ordinary m b ≡ true → said m b ≡ b ∷ []
said_ordinary mode.Data b r h = refl
said_ordinary mode.Title b r h = let p = or_parts (b == 60) (b == 0) (not-true (is_special mode.Title b) h) in rw p.1 refl
said_ordinary mode.Textarea b r h = let p = or_parts (b == 60) (b == 0) (not-true (is_special mode.Textarea b) h) in rw p.1 refl
said_ordinary mode.ContextText b r h = let p = or_parts (b == 60) (b == 0) (not-true (is_special mode.ContextText b) h) in rw p.1 refl
said_ordinary _ b r h = absurd (true≢false (sym r))

literal_ordinary : (m : Mode) (z : List ℕ) → has_references m ≡ true → list_all (is_ordinary m) z ≡ true → literal m z ≡ z
literal_ordinary m [] r h = refl
literal_ordinary m (b ∷ z) r h =
    let p = and_parts (is_ordinary m b) (list_all (is_ordinary m) z) h in
    ap (λ x. x ++ literal m z) (said_ordinary m b r p.0) ∙ ap (λ x. b ∷ x) (literal_ordinary m z r p.1)

char_plain : (b : ℕ) → is_plain b ≡ true → list_all is_plain (char_of b) ≡ true
char_plain b h = elim (cases_Bool (b == 0)) [
  | inl y ↦ rw y refl
  | inr n ↦ (let e = not-true (b == 38) h in rw (n, e) refl)
]

said_plain : (m : Mode) (b : ℕ) → is_plain b ≡ true → list_all is_plain (said m b) ≡ true
said_plain mode.Data b h = let e = not-true (b == 38) h in rw e refl
said_plain _ b h = char_plain b h

literal_plain : (m : Mode) (z : List ℕ) → list_all is_plain z ≡ true → list_all is_plain (literal m z) ≡ true
literal_plain m [] h = refl
literal_plain m (b ∷ z) h =
    let p = and_parts (is_plain b) (list_all is_plain z) h in
    list_all-append is_plain (said m b) (literal m z) ∙ ap₂ ◌&&◌ (said_plain m b p.0) (literal_plain m z p.1)

-- a text before a special piece, and what follows it

Cut : Mode → ℕ → Type 0
Cut m q = (z t l : List ℕ) → list_all is_plain z ≡ true → unescaped_text (t ++ (literal m (q ∷ z) ++ l)) ≡ unescaped_text t ++ (literal m (q ∷ z) ++ unescaped_text l)

less_cut : (m : Mode) → said m 60 ≡ 60 ∷ [] → Cut m 60
unfolding Cut
less_cut m e z t l h =
    ap (λ x. unescaped_text (t ++ ((x ++ literal m z) ++ l))) e
    ∙ less_than_cut t (literal m z ++ l)
    ∙ ap (λ x. unescaped_text t ++ 60 ∷ x) (bytes-plain false (literal m z) l (literal_plain m z h))
    ∙ ap (λ x. unescaped_text t ++ ((x ++ literal m z) ++ unescaped_text l)) (sym e)

nul_cut : (m : Mode) → said m 0 ≡ 0xEF ∷ 0xBF ∷ 0xBD ∷ [] → Cut m 0
unfolding Cut
nul_cut m e z t l h =
    ap (λ x. unescaped_text (t ++ ((x ++ literal m z) ++ l))) e
    ∙ replacement_cut t (0xBF ∷ 0xBD ∷ (literal m z ++ l))
    ∙ ap (λ x. unescaped_text t ++ 0xEF ∷ x) (bytes-plain false (0xBF ∷ 0xBD ∷ literal m z) l (literal_plain m z h))
    ∙ ap (λ x. unescaped_text t ++ ((x ++ literal m z) ++ unescaped_text l)) (sym e)

special_cut : (m : Mode) (q : ℕ) → is_special m q ≡ true → Cut m q
special_cut mode.Data q h = subst (Cut mode.Data) (sym (eqb-true q 60 h)) (less_cut mode.Data refl)
special_cut mode.Title q h = by_special mode.Title q (Cut mode.Title) (less_cut mode.Title refl) (nul_cut mode.Title refl) h
special_cut mode.Textarea q h = by_special mode.Textarea q (Cut mode.Textarea) (less_cut mode.Textarea refl) (nul_cut mode.Textarea refl) h
special_cut mode.ContextText q h = by_special mode.ContextText q (Cut mode.ContextText) (less_cut mode.ContextText refl) (nul_cut mode.ContextText refl) h
special_cut mode.Style q h = by_special mode.Style q (Cut mode.Style) (less_cut mode.Style refl) (nul_cut mode.Style refl) h
special_cut mode.Xmp q h = by_special mode.Xmp q (Cut mode.Xmp) (less_cut mode.Xmp refl) (nul_cut mode.Xmp refl) h
special_cut mode.Iframe q h = by_special mode.Iframe q (Cut mode.Iframe) (less_cut mode.Iframe refl) (nul_cut mode.Iframe refl) h
special_cut mode.Noembed q h = by_special mode.Noembed q (Cut mode.Noembed) (less_cut mode.Noembed refl) (nul_cut mode.Noembed refl) h
special_cut mode.Noframes q h = by_special mode.Noframes q (Cut mode.Noframes) (less_cut mode.Noframes refl) (nul_cut mode.Noframes refl) h
special_cut mode.Noscript q h = by_special mode.Noscript q (Cut mode.Noscript) (less_cut mode.Noscript refl) (nul_cut mode.Noscript refl) h
special_cut mode.Script q h = by_special mode.Script q (Cut mode.Script) (less_cut mode.Script refl) (nul_cut mode.Script refl) h
special_cut mode.ScriptEscaped q h = by_special mode.ScriptEscaped q (Cut mode.ScriptEscaped) (less_cut mode.ScriptEscaped refl) (nul_cut mode.ScriptEscaped refl) h
special_cut mode.ScriptEscapedDash q h = by_special mode.ScriptEscapedDash q (Cut mode.ScriptEscapedDash) (less_cut mode.ScriptEscapedDash refl) (nul_cut mode.ScriptEscapedDash refl) h
special_cut mode.ScriptEscapedDashDash q h =
    by_special mode.ScriptEscapedDashDash q (Cut mode.ScriptEscapedDashDash) (less_cut mode.ScriptEscapedDashDash refl) (nul_cut mode.ScriptEscapedDashDash refl) h
special_cut mode.Plaintext q h = by_special mode.Plaintext q (Cut mode.Plaintext) (less_cut mode.Plaintext refl) (nul_cut mode.Plaintext refl) h

cut_at : (m : Mode) (z t l : List ℕ) → begins_with (is_special m) z ≡ true → list_all is_plain z ≡ true →
    unescaped_text (t ++ (literal m z ++ l)) ≡ unescaped_text t ++ (literal m z ++ unescaped_text l)
unfolding Cut
cut_at m [] t l h k = absurd (true≢false (sym h))
cut_at m (q ∷ z) t l h k = special_cut m q h z t l (and_parts (is_plain q) (list_all is_plain z) k).1

-- characters up to a place, whatever ordinary bytes stand before them

abbrev Q : Mode → List ℕ → List Piece → Type 0
Q m x ys =
    (t : List ℕ) → list_all (is_ordinary m) t ≡ true →
    tokens_from (state_of m) (t ++ with_feeds (x ++ bytes_of ys)) ≡ map Character (unescaped_text (t ++ literal m (with_feeds x))) ++ tokens_in ys

abbrev Reads : Mode → List Piece → Type 0
Reads m ps = tokens_from (state_of m) (with_feeds (bytes_of ps)) ≡ tokens_in ps

tokens_joined : (x y : List ℕ) (ts : List HtmlToken) → map Character (x ++ y) ++ ts ≡ map Character x ++ (map Character y ++ ts)
tokens_joined x y ts = ap (λ us. us ++ ts) (map-append Character x y) ∙ append_assoc (map Character x) (map Character y) ts

module _ (m : Mode) (r : has_references m ≡ true) (p : Piece) (x : List ℕ) (ys : List Piece) where
  abbrev zp : List ℕ
  zp = with_feeds p.bytes

  abbrev later : List ℕ
  later = with_feeds (x ++ bytes_of ys)

  abbrev l : List ℕ
  l = literal m (with_feeds x)

  module _ (seam : IsSeam p.bytes (x ++ bytes_of ys)) (q : Q m x ys) where
    whole : with_feeds ((p.bytes ++ x) ++ bytes_of ys) ≡ zp ++ later
    whole = ap with_feeds (append_assoc p.bytes x (bytes_of ys)) ∙ seam (x ++ bytes_of ys) [] (sym (append-nil (x ++ bytes_of ys)))

    said_whole : literal m (with_feeds (p.bytes ++ x)) ≡ literal m zp ++ l
    said_whole = ap (literal m) (seam x (bytes_of ys) refl) ∙ literal_append m zp (with_feeds x)

    ordinary : list_all (is_ordinary m) zp ≡ true → Q m (p.bytes ++ x) ys
    ordinary h t k =
        ap (λ u. tokens_from (state_of m) (t ++ u)) whole
        ∙ ap (tokens_from (state_of m)) (sym (append_assoc t zp later))
        ∙ q (t ++ zp) (list_all-append (is_ordinary m) t zp ∙ ap₂ ◌&&◌ k h)
        ∙ ap (λ u. map Character (unescaped_text u) ++ tokens_in ys)
        (append_assoc t zp l ∙ ap (λ u. t ++ u) (ap (λ u. u ++ l) (sym (literal_ordinary m zp r h)) ∙ sym said_whole))

    special : IsSpecial m zp p.tokens → tokens_from (state_of m) (zp ++ later) ≡ p.tokens ++ tokens_from (state_of m) later → Q m (p.bytes ++ x) ys
    special h here t k =
        ap (λ u. tokens_from (state_of m) (t ++ u)) whole
        ∙ text_read m (zp ++ later) t r (rest_special m (zp ++ later) (begins_more_by (is_special m) zp later h.first)) k
        ∙ ap (λ us. map Character (unescaped_text t) ++ us)
        (here ∙ ap₂ (λ us vs. us ++ vs) h.tokens (q [] refl) ∙ sym (tokens_joined (literal m zp) (unescaped_text l) (tokens_in ys)))
        ∙ sym (tokens_joined (unescaped_text t) (literal m zp ++ unescaped_text l) (tokens_in ys))
        ∙ ap (λ u. map Character u ++ tokens_in ys) (sym (ap (λ u. unescaped_text (t ++ u)) said_whole ∙ cut_at m zp t l h.first h.plain))

-- runs

-- a piece that may be a run of characters, before others
pub record IsRun (m : Mode) (p : Piece) (ps : List Piece) : Type 0 where
  pub rest : p.rest ≡ state_of m
  pub seam : IsSeam p.bytes (bytes_of ps)
  pub reads : Reads m (p ∷ ps)
  pub comment : IsComment p.tokens → p.tokens ≡ CommentToken (data_of (with_feeds p.bytes)) ∷ []
  pub less : are_characters p.tokens ≡ false → BeginsLess (with_feeds p.bytes)
  pub kept : are_characters p.tokens ≡ true → has_references m ≡ false → p.tokens ≡ map Character (literal m (with_feeds p.bytes))
  pub read : are_characters p.tokens ≡ true → has_references m ≡ true → Q m p.bytes ps

abbrev pub AreRuns : Mode → List Piece → Type 0
AreRuns m [] = ⊤
AreRuns m (p ∷ ps) = IsRun m p ps × (n : Mode) × (are_characters p.tokens ≡ true → IsClass m n) × AreRuns n ps

class_both : (m n k : Mode) → IsClass m n → IsClass n k → IsClass m k
class_both m n k c d = record { same = λ y. d.same (ap has_references (c.same y) ∙ y) ∙ c.same y; none = λ y. d.none (c.none y) }

literal_char : (m : Mode) (z : List ℕ) → has_references m ≡ false → literal m z ≡ without_nul z
literal_char mode.Data z h = absurd (true≢false h)
literal_char _ z h = refl

left_true : (a c : Bool) → (a && c) ≡ true → a ≡ true
left_true true c h = refl
left_true false c h = absurd (true≢false (sym h))

right_true : (a c : Bool) → (a && c) ≡ true → c ≡ true
right_true true c h = h
right_true false c h = absurd (true≢false (sym h))

right_false : (a c : Bool) → (a && c) ≡ false → a ≡ true → c ≡ false
right_false true c h y = h
right_false false c h y = absurd (true≢false (sym y))

-- the pieces after one are read in the next mode
later_reads : (n : Mode) (rs : List Piece) → AreRuns n rs → Reads n rs
later_reads n [] h = mode_ends n
later_reads n (q ∷ qs) h = h.0.reads

module _ (m n : Mode) (p : Piece) (i : IsPiece m p) (c : are_characters p.tokens ≡ true → IsClass m n) where
  -- after what the piece says the text goes on
  goes_on : (x : List ℕ) (ys rs : List Piece) → bytes_of rs ≡ x ++ bytes_of ys → IsSeam p.bytes (bytes_of rs) → Reads m (p ∷ rs) → AreRuns n rs → are_characters p.tokens ≡ true → (r : has_references m ≡ true) →
      tokens_from (state_of m) (with_feeds p.bytes ++ with_feeds (x ++ bytes_of ys)) ≡ p.tokens ++ tokens_from (state_of m) (with_feeds (x ++ bytes_of ys))
  goes_on x ys rs e seam reads h y r =
      let all : with_feeds (p.bytes ++ bytes_of rs) ≡ with_feeds p.bytes ++ with_feeds (bytes_of rs) = seam (bytes_of rs) [] (sym (append-nil (bytes_of rs))) in
      ap (λ u. tokens_from (state_of m) (with_feeds p.bytes ++ with_feeds u)) (sym e)
      ∙ ap (tokens_from (state_of m)) (sym all)
      ∙ reads
      ∙ ap (λ us. p.tokens ++ us) (sym (later_reads n rs h))
      ∙ ap (λ (k : Mode). p.tokens ++ tokens_from (state_of k) (with_feeds (bytes_of rs))) ((c y).same r)
      ∙ ap (λ u. p.tokens ++ tokens_from (state_of m) (with_feeds u)) e

  step : (x : List ℕ) (ys rs : List Piece) → bytes_of rs ≡ x ++ bytes_of ys → IsSeam p.bytes (bytes_of rs) → Reads m (p ∷ rs) → AreRuns n rs → are_characters p.tokens ≡ true → (r : has_references m ≡ true) →
      Q m x ys → Q m (p.bytes ++ x) ys
  step x ys rs e seam reads h y r q =
      let here : IsSeam p.bytes (x ++ bytes_of ys) = subst (IsSeam p.bytes) e seam in
      elim ((i.text y).parts r) [
        | inl o ↦ ordinary m r p x ys here q o
        | inr s ↦ special m r p x ys here q s (goes_on x ys rs e seam reads h y r)
      ]

  -- the piece by itself
  base : (rs : List Piece) → AreRuns n rs → R.Rest (with_feeds (bytes_of rs)) → are_characters p.tokens ≡ true → (r : has_references m ≡ true) → Q m [] rs
  base rs h f y r = λ t k.
      text_read m (with_feeds (bytes_of rs)) t r f k
      ∙ ap₂ (λ u us. map Character (unescaped_text u) ++ us) (sym (append-nil t))
      (ap (λ (j : Mode). tokens_from (state_of j) (with_feeds (bytes_of rs))) (sym ((c y).same r)) ∙ later_reads n rs h)

  alone : (rs : List Piece) → IsSeam p.bytes (bytes_of rs) → Reads m (p ∷ rs) → AreRuns n rs → (are_characters p.tokens ≡ true → R.Rest (with_feeds (bytes_of rs))) → IsRun m p rs
  alone rs seam reads h f = record {
    rest = i.rest;
    seam = seam;
    reads = reads;
    comment = i.comment;
    less = i.less;
    kept = λ y k. (i.text y).kept k;
    read = λ y r. subst (λ u. Q m u rs) (append-nil p.bytes) (step [] rs rs refl seam reads h y r (base rs h (f y) y r));
  }

  both : Piece → Piece
  both q = piece p.rest (p.bytes ++ q.bytes) (p.tokens ++ q.tokens)

  together : (q : Piece) (qs : List Piece) → IsSeam p.bytes (bytes_of (q ∷ qs)) → Reads m (p ∷ q ∷ qs) → (h : AreRuns n (q ∷ qs)) → are_characters p.tokens ≡ true → are_characters q.tokens ≡ true →
      IsRun m (both q) qs
  unfolding both
  together q qs seam reads h y k =
      let chars : are_characters (p.tokens ++ q.tokens) ≡ true = chars_join p.tokens q.tokens y k in
      let feeds : with_feeds (p.bytes ++ q.bytes) ≡ with_feeds p.bytes ++ with_feeds q.bytes = seam q.bytes (bytes_of qs) refl in
      record {
        rest = i.rest;
        seam = λ u v e.
            ap with_feeds (append_assoc p.bytes q.bytes u)
            ∙ seam (q.bytes ++ u) v (ap (λ x. q.bytes ++ x) e ∙ sym (append_assoc q.bytes u v))
            ∙ ap (λ x. with_feeds p.bytes ++ x) (h.0.seam u v e)
            ∙ sym (append_assoc (with_feeds p.bytes) (with_feeds q.bytes) (with_feeds u))
            ∙ ap (λ x. x ++ with_feeds u) (sym feeds);
        reads = ap (λ x. tokens_from (state_of m) (with_feeds x)) (append_assoc p.bytes q.bytes (bytes_of qs)) ∙ reads ∙ sym (append_assoc p.tokens q.tokens (tokens_in qs));
        comment = λ s. absurd (chars_no_comment (p.tokens ++ q.tokens) chars s);
        less = λ s. absurd (true≢false (sym chars ∙ s));
        kept = λ _ r.
            let none : has_references n ≡ false = (c y).none r in
            ap₂ (λ us vs. us ++ vs) ((i.text y).kept r) (h.0.kept k none ∙ ap (map Character) (literal_char n (with_feeds q.bytes) none ∙ sym (literal_char m (with_feeds q.bytes) r)))
            ∙ sym (map-append Character (literal m (with_feeds p.bytes)) (literal m (with_feeds q.bytes)))
            ∙ ap (map Character) (sym (ap (literal m) feeds ∙ literal_append m (with_feeds p.bytes) (with_feeds q.bytes)));
        read = λ _ r.
            let same : n ≡ m = (c y).same r in
            step q.bytes qs (q ∷ qs) refl seam reads h y r (subst (λ (j : Mode). Q j q.bytes qs) same (h.0.read k (ap has_references same ∙ r)));
      }

  joined : (rs : List Piece) → IsSeam p.bytes (bytes_of rs) → Reads m (p ∷ rs) → AreRuns n rs → AreRuns m (with_piece p rs)
  unfolding both
  joined [] seam reads h = (alone [] seam reads h (λ _. tt), n, c, tt)
  joined (q ∷ qs) seam reads h = elim (cases_Bool (are_characters p.tokens && are_characters q.tokens)) [
    | inl y ↦
        (let a = left_true (are_characters p.tokens) (are_characters q.tokens) y in
        let k = right_true (are_characters p.tokens) (are_characters q.tokens) y in
        rw y (together q qs seam reads h a k, h.1, λ _. class_both m n h.1 (c a) (h.2 k), h.3))
    | inr o ↦
        rw o (
          alone (q ∷ qs) seam reads h
              (λ y. subst R.Rest (sym (h.0.seam (bytes_of qs) [] (sym (append-nil (bytes_of qs)))))
              (rest_less (with_feeds q.bytes ++ with_feeds (bytes_of qs))
              (begins_more (with_feeds q.bytes) (with_feeds (bytes_of qs)) (h.0.less (right_false (are_characters p.tokens) (are_characters q.tokens) o y))))),
          n,
          c,
          h,
        )
  ]

-- a page

reads_of : (m : Mode) (p : Piece) (ps : List Piece) → AreRead (state_of m) (p ∷ ps) → Reads m (p ∷ ps)
reads_of m p ps h =
    let s : State = state_of m in
    let bytes : List ℕ = bytes_of (p ∷ ps) in
    sym (feeds_read false s bytes ∙ ap (λ t. tokens_from s (with_feeds t)) (all_stays bytes)) ∙ read_together s p ps h

first_rest : (s : State) (q : Piece) (qs : List Piece) → AreRead s (q ∷ qs) → q.rest ≡ s
first_rest s q [] h = h.0
first_rest s q (r ∷ qs) h = h.1

later_read : (s : State) (n : Mode) (p : Piece) (ps : List Piece) → AreRead s (p ∷ ps) → ArePieces n ps → AreRead (state_of n) ps
later_read s n p [] h i = tt
later_read s n p (q ∷ qs) h i = subst (λ (x : State). AreRead x (q ∷ qs)) (sym (first_rest (h.0).state q qs h.4) ∙ i.0.rest) h.4

pub runs_said : (ps : List Piece) (m : Mode) → ArePieces m ps → AreRead (state_of m) ps → AreRuns m (runs ps)
runs_said [] m h r = tt
runs_said (p ∷ ps) m h r =
    let n : Mode = h.1 in
    let more = runs_said ps n h.4 (later_read (state_of m) n p ps r h.4) in
    joined m n p h.0 h.2 (runs ps) (subst (IsSeam p.bytes) (sym (runs_bytes ps)) h.3)
    (ap (λ t. tokens_from (state_of m) (with_feeds (p.bytes ++ t))) (runs_bytes ps) ∙ reads_of m p ps r ∙ ap (λ us. p.tokens ++ us) (sym (runs_tokens ps)))
    more

-- what a run of characters says
pub run_text : (m : Mode) (p : Piece) (ps : List Piece) → IsRun m p ps → are_characters p.tokens ≡ true → p.tokens ≡ map Character (characters_of m p.bytes)
run_text m p ps h y = elim (cases_Bool (has_references m)) [
  | inl r ↦
      (let z : List ℕ = with_feeds p.bytes in
      let both : p.tokens ++ tokens_in ps ≡ map Character (unescaped_text (literal m z)) ++ tokens_in ps = sym h.reads ∙ h.read y r [] refl in
      append_cancel_right p.tokens (map Character (unescaped_text (literal m z))) (tokens_in ps) both ∙ ap (map Character) (referring m p.bytes r))
  | inr r ↦ h.kept y r ∙ ap (map Character) (plain m p.bytes r)
]
  where
    single : (z : List ℕ) → literal mode.Data z ≡ z
    single [] = refl
    single (b ∷ z) = ap (λ x. b ∷ x) (single z)

    referring : (m : Mode) (bytes : List ℕ) → has_references m ≡ true → unescaped_text (literal m (with_feeds bytes)) ≡ characters_of m bytes
    referring mode.Data bytes r = ap unescaped_text (single (with_feeds bytes))
    referring mode.Title bytes r = refl
    referring mode.Textarea bytes r = refl
    referring mode.ContextText bytes r = refl
    referring _ bytes r = absurd (true≢false (sym r))

    plain : (m : Mode) (bytes : List ℕ) → has_references m ≡ false → literal m (with_feeds bytes) ≡ characters_of m bytes
    plain mode.Data bytes r = absurd (true≢false r)
    plain mode.Title bytes r = absurd (true≢false r)
    plain mode.Textarea bytes r = absurd (true≢false r)
    plain mode.ContextText bytes r = absurd (true≢false r)
    plain _ bytes r = refl
