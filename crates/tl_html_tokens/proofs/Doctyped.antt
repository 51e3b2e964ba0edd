-- A doctype is read up to its first `>`, and says its parts.
use Rattle.std.proofs.Common.{◌≡◌, ℕ, suc, Bool, true, false, not, ◌==◌, ◌&&◌, ◌||◌, List, [], ◌∷◌, ◌++◌, codes, drop, length, length-append, map, take, None, inl, inr, refl, ap, ap₂, sym, ◌∙◌, true≢false, append-nil, append_assoc, arith, if◌then◌else◌}
use Rattle.std.specs.Char.{to_ascii_lowercase}
use Rattle.std.specs.List.{list_all, starts_with}
use Rattle.std.specs.Str.{bytes_eq}
use Rattle.std.proofs.lemmas.Bool.{and_parts, and_from, cases_Bool, eqb-true}
use Rattle.std.proofs.lemmas.List.{length-map, map-append, take-append-drop}
use Rattle.std.proofs.Math.Seq.{drop-append_seam}
use Rattle.std.proofs.lemmas.Slice.Eq.{bytes_eq-Decides}
use Rattle.tl_html_spec.specs.HtmlTokenizer as T
use Rattle.tl_html_spec.specs.HtmlTokenizer.{DoctypeToken, HtmlToken, State, Step, step, whole_step, with_feeds}
use Rattle.tl_html_spec.specs.Doctypes.{Doctyping, doctype_step, no_doctype}
use Rattle.tl_html_spec.specs.Driven.{Driver, cdata_start, doctype_of, driven, driven_step, entered, going, in_doctype, in_state, of_step, opens_cdata}
use Rattle.tl_html_spec.specs.Pieces.{Piece, piece, pieces_from}
use Rattle.tl_html_spec.specs.Reader.{at, feed, is_at_rest, read, rest_within, resting}
use Rattle.tl_html_spec.proofs.Fold.{all_stays, feeds_cons, without_feed}
use Rattle.tl_html_spec.proofs.Resting.{settled_at_once, strict_rest}
use Rattle.tl_html_tokens.specs.Doctypes.{doctype_at, doctype_from, doctype_said}
use Rattle.tl_html_tokens.specs.Fronts.{pieces_at}
use Rattle.tl_html_tokens.proofs.Content.{BeginsDoctype}
use Rattle.tl_html_tokens.proofs.Cuts.{first_is, later_is}
use Rattle.tl_html_tokens.proofs.Plain.{three}
use Rattle.tl_html_tokens.proofs.Sections.{bang_goes, fed, fed_more, fed_passed, less_goes, stepped}
use Rattle.tl_html_tokens.proofs.Turns.{rest_none}
use Rattle.tl_html_tokens.proofs.Reading.{pieces_before, pieces_on, read_passed, read_plain, reader, rest_passed, rest_plain}

-- up to behind its `>`, or the end of the page
abbrev pub past : List ℕ → ℕ
past [] = 0
past (b ∷ t) = if b == 62 then 1 else suc (past t)

-- driven, where line ends are line feeds already

pub doctype_driven : {M : Type 0} (d : Driver M) (u : List ℕ) (x : Doctyping) (m : M) →
    driven d m (in_doctype x) u ≡ driven d (d.take m (doctype_of (doctype_from x u))) (in_state T.data_state) (drop (past u) u)
doctype_driven d [] x m = refl
doctype_driven d (c ∷ u) x m = elim (cases_Bool (c == 62)) [
  | inl y ↦ rw y refl
  | inr n ↦ rw n (doctype_driven d u (doctype_step x.part x c) m)
]

-- as a piece

pub doctype_no_rest : (c : ℕ) → rest_within 2 T.doctype c ≡ None
doctype_no_rest c = elim (cases_Bool (c == 62)) [
  | inl y ↦ rw y refl
  | inr n ↦ rw n refl
]

ended : (acc t : List ℕ) → pieces_from T.data_state (at T.data_state) acc (DoctypeToken ∷ []) t ≡ piece T.data_state acc (DoctypeToken ∷ []) ∷ pieces_at T.data_state t
ended acc [] = refl
ended acc (c ∷ t) = pieces_before T.data_state (at T.data_state) acc (DoctypeToken ∷ []) c t (resting T.data_state) (strict_rest T.data_state c refl)

fed_greater : (b : ℕ) → (feed b == 62) ≡ (b == 62)
fed_greater b = elim (cases_Bool (b == 13)) [
  | inl y ↦ rw y (sym (ap (λ c. c == 62) (eqb-true b 13 y)))
  | inr n ↦ rw n refl
]

doctype_piece : (t acc : List ℕ) (v : Bool) →
    pieces_from T.data_state (reader T.doctype v) acc [] t ≡ piece T.data_state (acc ++ take (past t) t) (DoctypeToken ∷ []) ∷ pieces_at T.data_state (drop (past t) t)
doctype_piece [] acc v = ap (λ bs. piece T.data_state bs (DoctypeToken ∷ []) ∷ []) (sym (append-nil acc))
doctype_piece (b ∷ t) acc v = elim (cases_Bool (v && (b == 10))) [
  | inl y ↦ (
      let ten : (b == 62) ≡ false = ap (λ c. c == 62) (eqb-true b 10 (and_parts v (b == 10) y).1) in
      pieces_on T.data_state (reader T.doctype v) acc [] b t (T.to T.doctype) (rest_passed T.doctype v b y) (read_passed T.doctype v b y)
      ∙ doctype_piece t (acc ++ b ∷ []) (b == 13)
      ∙ more acc b t ten)
  | inr p ↦ elim (cases_Bool (b == 62)) [
    | inl y ↦ (
        let is : whole_step T.doctype (feed b) ≡ T.emitting_token DoctypeToken T.data_state =
        settled_at_once 3 (step T.doctype (feed b)) (feed b) (let k = fed_greater b ∙ y in rw k refl) ∙ (let k = fed_greater b ∙ y in rw k refl) in
        let plain : (b == 13) ≡ false = ap (λ c. c == 13) (eqb-true b 62 y) in
        pieces_on T.data_state (reader T.doctype v) acc [] b t (T.emitting_token DoctypeToken T.data_state) (rest_plain T.doctype v b p ∙ doctype_no_rest (feed b)) (read_plain T.doctype v b p ∙ is)
        ∙ ap (λ w. pieces_from T.data_state (reader T.data_state w) (acc ++ b ∷ []) (DoctypeToken ∷ []) t) plain
        ∙ ended (acc ++ b ∷ []) t
        ∙ sym (ap (λ (w : Bool). piece T.data_state (acc ++ take (if w then 1 else suc (past t)) (b ∷ t)) (DoctypeToken ∷ []) ∷ pieces_at T.data_state (drop (if w then 1 else suc (past t)) (b ∷ t))) y))
    | inr n ↦ (
        let is : whole_step T.doctype (feed b) ≡ T.to T.doctype =
        settled_at_once 3 (step T.doctype (feed b)) (feed b) (let k = fed_greater b ∙ n in rw k refl) ∙ (let k = fed_greater b ∙ n in rw k refl) in
        pieces_on T.data_state (reader T.doctype v) acc [] b t (T.to T.doctype) (rest_plain T.doctype v b p ∙ doctype_no_rest (feed b)) (read_plain T.doctype v b p ∙ is)
        ∙ doctype_piece t (acc ++ b ∷ []) (b == 13)
        ∙ more acc b t n)
  ]
]
  where
    more : (acc : List ℕ) (b : ℕ) (t : List ℕ) → (b == 62) ≡ false →
        piece T.data_state ((acc ++ b ∷ []) ++ take (past t) t) (DoctypeToken ∷ []) ∷ pieces_at T.data_state (drop (past t) t)
        ≡ piece T.data_state (acc ++ take (past (b ∷ t)) (b ∷ t)) (DoctypeToken ∷ []) ∷ pieces_at T.data_state (drop (past (b ∷ t)) (b ∷ t))
    more acc b t n =
        ap (λ bs. piece T.data_state bs (DoctypeToken ∷ []) ∷ pieces_at T.data_state (drop (past t) t)) (append_assoc acc (b ∷ []) (take (past t) t))
        ∙ sym (ap (λ (w : Bool). piece T.data_state (acc ++ take (if w then 1 else suc (past t)) (b ∷ t)) (DoctypeToken ∷ []) ∷ pieces_at T.data_state (drop (if w then 1 else suc (past t)) (b ∷ t))) n)

-- its first word

abbrev pub word : List ℕ
word = codes "doctype"

begins_itself : (p t : List ℕ) → starts_with ◌==◌ (p ++ t) p ≡ true
begins_itself [] t = refl
begins_itself (c ∷ p) t = and_from (c == c) (starts_with ◌==◌ (p ++ t) p) (same c) (begins_itself p t)
  where
    same : (c : ℕ) → (c == c) ≡ true
    same c = grind arith

-- a beginning of it, with the bytes `buffer` in any case
record IsBeginning (buffer rest : List ℕ) : Type 0 where
  all : map to_ascii_lowercase buffer ++ rest ≡ word

no_dashes : (buffer rest : List ℕ) → IsBeginning buffer rest → bytes_eq buffer (codes "--") ≡ false
no_dashes buffer rest h = elim (cases_Bool (bytes_eq buffer (codes "--"))) [
  | inl y ↦ (
      let e : codes "--" ++ rest ≡ word = ap (λ (x : List ℕ). map to_ascii_lowercase x ++ rest) (sym ((bytes_eq-Decides buffer (codes "--")).0 y)) ∙ h.all in
      absurd (true≢false (ap (λ x. starts_with ◌==◌ x (codes "-")) e)))
  | inr n ↦ n
]

not_whole : (buffer rest : List ℕ) (c : ℕ) → IsBeginning buffer (c ∷ rest) → bytes_eq (map to_ascii_lowercase buffer) word ≡ false
not_whole buffer rest c h = elim (cases_Bool (bytes_eq (map to_ascii_lowercase buffer) word)) [
  | inl y ↦ (
      let e = ap length ((bytes_eq-Decides (map to_ascii_lowercase buffer) word).0 y) in
      let k = ap length h.all in
      let n = length-append (map to_ascii_lowercase buffer) (c ∷ rest) in
      absurd (omega arith))
  | inr n ↦ n
]

may_go_on : (buffer rest : List ℕ) → IsBeginning buffer rest → (T.begins (codes "--") buffer || T.begins word buffer) ≡ true
may_go_on buffer rest h =
    let e : T.begins word buffer ≡ true = ap (λ x. starts_with ◌==◌ x (map to_ascii_lowercase buffer)) (sym h.all) ∙ begins_itself (map to_ascii_lowercase buffer) rest in
    right (T.begins (codes "--") buffer) (T.begins word buffer) e
  where
    right : (a c : Bool) → c ≡ true → (a || c) ≡ true
    right true c h = refl
    right false c h = h

goes_on : (buffer rest : List ℕ) (b c : ℕ) → IsBeginning (buffer ++ b ∷ []) (c ∷ rest) → step (T.markup_declaration_open buffer) b ≡ T.to (T.markup_declaration_open (buffer ++ b ∷ []))
goes_on buffer rest b c h =
    let a = no_dashes (buffer ++ b ∷ []) (c ∷ rest) h in
    let k = not_whole (buffer ++ b ∷ []) rest c h in
    let j = may_go_on (buffer ++ b ∷ []) (c ∷ rest) h in
    rw (a, k, j) refl

ends : (buffer : List ℕ) (b : ℕ) → IsBeginning (buffer ++ b ∷ []) [] → step (T.markup_declaration_open buffer) b ≡ T.to T.doctype
ends buffer b h =
    let a = no_dashes (buffer ++ b ∷ []) [] h in
    let k : bytes_eq (map to_ascii_lowercase (buffer ++ b ∷ [])) word ≡ true = (bytes_eq-Decides (map to_ascii_lowercase (buffer ++ b ∷ [])) word).1 (sym (append-nil (map to_ascii_lowercase (buffer ++ b ∷ []))) ∙ h.all) in
    rw (a, k) refl

-- bytes that are read as they are, and begin no section
abbrev is_letter : ℕ → Bool
is_letter c = not ((c == 10) || (c == 13) || (c == 91))

lower_letter : (c : ℕ) → is_letter (to_ascii_lowercase c) ≡ true → is_letter c ≡ true
lower_letter c h = rw (none 10 refl, none 13 refl, none 91 refl) refl
  where
    none : (x : ℕ) → is_letter (to_ascii_lowercase x) ≡ false → (c == x) ≡ false
    none x k = elim (cases_Bool (c == x)) [
      | inl y ↦ absurd (true≢false (sym h ∙ ap (λ d. is_letter (to_ascii_lowercase d)) (eqb-true c x y) ∙ k))
      | inr n ↦ n
    ]

lower_letters : (w : List ℕ) → list_all is_letter (map to_ascii_lowercase w) ≡ true → list_all is_letter w ≡ true
lower_letters [] h = refl
lower_letters (c ∷ w) h =
    let p = and_parts (is_letter (to_ascii_lowercase c)) (list_all is_letter (map to_ascii_lowercase w)) h in
    and_from (is_letter c) (list_all is_letter w) (lower_letter c p.0) (lower_letters w p.1)

feed_letter : (c : ℕ) → (c == 13) ≡ false → feed c ≡ c
feed_letter c n = rw n refl

-- the rest of the word, of which `buffer` is read

abbrev Splits : List ℕ → List ℕ → Type 0
Splits buffer left = map to_ascii_lowercase (buffer ++ left) ≡ word

front_of : (buffer left : List ℕ) → Splits buffer left → IsBeginning buffer (map to_ascii_lowercase left)
front_of buffer left h = record { all = sym (map-append to_ascii_lowercase buffer left) ∙ h }

shifted : (buffer left : List ℕ) (c : ℕ) → Splits buffer (c ∷ left) → Splits (buffer ++ c ∷ []) left
shifted buffer left c h = ap (map to_ascii_lowercase) (append_assoc buffer (c ∷ []) left) ∙ h

on_piece : (s x : State) (acc : List ℕ) (b : ℕ) (t : List ℕ) → is_at_rest s ≡ false → step s b ≡ T.to x → (b == 13) ≡ false →
    pieces_from T.data_state (reader s false) acc [] (b ∷ t) ≡ pieces_from T.data_state (reader x false) (acc ++ b ∷ []) [] t
on_piece s x acc b t f e n =
    let fed = feed_letter b n in
    let now : step s (feed b) ≡ T.to x = ap (step s) fed ∙ e in
    let once : (step s (feed b)).again ≡ false = ap (λ (y : Step). y.again) now in
    pieces_on T.data_state (reader s false) acc [] b t (T.to x) (rest_plain s false b refl ∙ rest_none (feed b) [] 2 s f once)
    (read_plain s false b refl ∙ settled_at_once 3 (step s (feed b)) (feed b) once ∙ now)
    ∙ ap (λ v. pieces_from T.data_state (reader x v) (acc ++ b ∷ []) [] t) n

word_piece : (left buffer acc t : List ℕ) (c : ℕ) → Splits buffer (c ∷ left) → list_all is_letter (c ∷ left) ≡ true →
    pieces_from T.data_state (reader (T.markup_declaration_open buffer) false) acc [] (c ∷ (left ++ t)) ≡ pieces_from T.data_state (reader T.doctype false) (acc ++ c ∷ left) [] t
word_piece [] buffer acc t c h k =
    let p = three (c == 10) (c == 13) (c == 91) (and_parts (is_letter c) true k).0 in
    on_piece (T.markup_declaration_open buffer) T.doctype acc c t refl (ends buffer c (front_of (buffer ++ c ∷ []) [] (shifted buffer [] c h))) p.1
word_piece (b ∷ left) buffer acc t c h k =
    let q = and_parts (is_letter c) (list_all is_letter (b ∷ left)) k in
    let p = three (c == 10) (c == 13) (c == 91) q.0 in
    let more = shifted buffer (b ∷ left) c h in
    on_piece (T.markup_declaration_open buffer) (T.markup_declaration_open (buffer ++ c ∷ [])) acc c (b ∷ (left ++ t)) refl
    (goes_on buffer (map to_ascii_lowercase left) c (to_ascii_lowercase b) (front_of (buffer ++ c ∷ []) (b ∷ left) more)) p.1
    ∙ word_piece left (buffer ++ c ∷ []) (acc ++ c ∷ []) t b more q.1
    ∙ ap (λ bs. pieces_from T.data_state (reader T.doctype false) bs [] t) (append_assoc acc (c ∷ []) (b ∷ left))

some_left : (w : List ℕ) → map to_ascii_lowercase w ≡ word → (c : ℕ) × (left : List ℕ) × (w ≡ c ∷ left)
some_left [] h = absurd (true≢false (sym (ap (λ (x : List ℕ). starts_with ◌==◌ x (codes "d")) h)))
some_left (c ∷ left) h = (c, left, refl)

word_letters : (w : List ℕ) → map to_ascii_lowercase w ≡ word → list_all is_letter w ≡ true
word_letters w h = lower_letters w (ap (list_all is_letter) h)

opened_piece : (w t : List ℕ) → map to_ascii_lowercase w ≡ word →
    pieces_at T.data_state (60 ∷ 33 ∷ (w ++ t)) ≡ piece T.data_state (60 ∷ 33 ∷ (w ++ take (past t) t)) (DoctypeToken ∷ []) ∷ pieces_at T.data_state (drop (past t) t)
unfolding read
opened_piece w t h =
    let q = some_left w h in
    let letters = word_letters w h in
    on_piece T.tag_open (T.markup_declaration_open []) (60 ∷ []) 33 (w ++ t) refl refl refl
    ∙ ap (λ (x : List ℕ). pieces_from T.data_state (reader (T.markup_declaration_open []) false) (60 ∷ 33 ∷ []) [] (x ++ t)) q.2
    ∙ word_piece q.1 [] (60 ∷ 33 ∷ []) t q.0 (ap (map to_ascii_lowercase) (sym q.2) ∙ h) (ap (list_all is_letter) (sym q.2) ∙ letters)
    ∙ ap (λ (x : List ℕ). pieces_from T.data_state (reader T.doctype false) (60 ∷ 33 ∷ x) [] t) (sym q.2)
    ∙ doctype_piece t (60 ∷ 33 ∷ w) false

-- the same, driven

pub and_false : (a c : Bool) → c ≡ false → (a && c) ≡ false
and_false true c h = h
and_false false c h = refl

no_section : (buffer : List ℕ) (c : ℕ) → (c == 91) ≡ false → opens_cdata (T.markup_declaration_open buffer) c ≡ false
no_section [] c n = n
no_section (b ∷ buffer) c n = refl

on_driven : (f : Bool) (buffer : List ℕ) (c : ℕ) (x : State) → (c == 91) ≡ false → step (T.markup_declaration_open buffer) c ≡ T.to x →
    driven_step f (in_state (T.markup_declaration_open buffer)) c ≡ going (entered x) []
on_driven f buffer c x n e =
    let s : State = T.markup_declaration_open buffer in
    let is : whole_step s c ≡ T.to x = settled_at_once 3 (step s c) c (ap (λ (y : Step). y.again) e) ∙ e in
    let off : (f && opens_cdata s c) ≡ false = and_false f (opens_cdata s c) (no_section buffer c n) in
    ap (λ (v : Bool). if v then going (cdata_start (c ∷ [])) [] else of_step (whole_step s c)) off ∙ ap of_step is

word_driven : {M : Type 0} (d : Driver M) (m : M) (left buffer u : List ℕ) (c : ℕ) → Splits buffer (c ∷ left) → list_all is_letter (c ∷ left) ≡ true →
    driven d m (in_state (T.markup_declaration_open buffer)) (c ∷ (left ++ u)) ≡ driven d m (in_doctype no_doctype) u
word_driven d m [] buffer u c h k =
    let p = three (c == 10) (c == 13) (c == 91) (and_parts (is_letter c) true k).0 in
    stepped d m (in_state (T.markup_declaration_open buffer)) (in_doctype no_doctype) c u
    (on_driven (d.is_foreign m) buffer c T.doctype p.2 (ends buffer c (front_of (buffer ++ c ∷ []) [] (shifted buffer [] c h))))
word_driven d m (b ∷ left) buffer u c h k =
    let q = and_parts (is_letter c) (list_all is_letter (b ∷ left)) k in
    let p = three (c == 10) (c == 13) (c == 91) q.0 in
    let more = shifted buffer (b ∷ left) c h in
    stepped d m (in_state (T.markup_declaration_open buffer)) (in_state (T.markup_declaration_open (buffer ++ c ∷ []))) c (b ∷ (left ++ u))
    (on_driven (d.is_foreign m) buffer c (T.markup_declaration_open (buffer ++ c ∷ [])) p.2
    (goes_on buffer (map to_ascii_lowercase left) c (to_ascii_lowercase b) (front_of (buffer ++ c ∷ []) (b ∷ left) more)))
    ∙ word_driven d m left (buffer ++ c ∷ []) u b more q.1

opened_driven : {M : Type 0} (d : Driver M) (m : M) (w u : List ℕ) → map to_ascii_lowercase w ≡ word →
    driven d m (in_state T.data_state) (60 ∷ 33 ∷ (w ++ u)) ≡ driven d (d.take m (doctype_of (doctype_from no_doctype u))) (in_state T.data_state) (drop (past u) u)
opened_driven d m w u h =
    let q = some_left w h in
    let letters = word_letters w h in
    stepped d m (in_state T.data_state) (in_state T.tag_open) 60 (33 ∷ (w ++ u)) (less_goes d (d.is_foreign m))
    ∙ stepped d m (in_state T.tag_open) (in_state (T.markup_declaration_open [])) 33 (w ++ u) (bang_goes d (d.is_foreign m))
    ∙ ap (λ (x : List ℕ). driven d m (in_state (T.markup_declaration_open [])) (x ++ u)) q.2
    ∙ word_driven d m q.1 [] u q.0 (ap (map to_ascii_lowercase) (sym q.2) ∙ h) (ap (list_all is_letter) (sym q.2) ∙ letters)
    ∙ doctype_driven d u no_doctype m

-- line ends

fed_word : (w t : List ℕ) → list_all is_letter w ≡ true → with_feeds (w ++ t) ≡ w ++ with_feeds t
fed_word [] t h = refl
fed_word (c ∷ w) t h =
    let q = and_parts (is_letter c) (list_all is_letter w) h in
    let p = three (c == 10) (c == 13) (c == 91) q.0 in
    feeds_cons c (w ++ t) ∙ ap₂ (λ b x. b ∷ with_feeds x) (feed_letter c p.1) (ap (λ v. without_feed v (w ++ t)) p.1 ∙ all_stays (w ++ t)) ∙ ap (λ x. c ∷ x) (fed_word w t q.1)

-- bytes whose text begins so begin so
unfed : (w bytes z : List ℕ) → list_all is_letter w ≡ true → with_feeds bytes ≡ w ++ z → (u : List ℕ) × (bytes ≡ w ++ u)
unfed [] bytes z h e = (bytes, refl)
unfed (c ∷ w) [] z h e = let no : [] ≡ c ∷ (w ++ z) = e in cc
unfed (c ∷ w) (b ∷ bytes) z h e =
    let q = and_parts (is_letter c) (list_all is_letter w) h in
    let p = three (c == 10) (c == 13) (c == 91) q.0 in
    let all : feed b ∷ with_feeds (without_feed (b == 13) bytes) ≡ c ∷ (w ++ z) = sym (feeds_cons b bytes) ∙ e in
    let first : feed b ≡ c = cc in
    let later : with_feeds (without_feed (b == 13) bytes) ≡ w ++ z = cc in
    elim (cases_Bool (b == 13)) [
      | inl y ↦ (let ten : 10 ≡ c = sym (rw y refl) ∙ first in absurd (true≢false (ap (λ x. x == 10) ten ∙ p.0)))
      | inr n ↦ (
          let more = unfed w bytes z q.1 (ap with_feeds (sym (ap (λ v. without_feed v bytes) n ∙ all_stays bytes)) ∙ later) in
          (more.0, ap₂ (λ x s. x ∷ s) (sym (feed_letter b n) ∙ first) more.1))
    ]

record Fed (v : Bool) (s : List ℕ) : Type 0 where
  past_is : drop (past (fed v s)) (fed v s) ≡ with_feeds (drop (past s) s)
  says : (x : Doctyping) → doctype_from x (fed v s) ≡ doctype_from x (fed v (take (past s) s))

is_fed : (s : List ℕ) (v : Bool) → Fed v s
is_fed [] v = record { past_is = refl; says = λ x. refl }
is_fed (c ∷ t) v = elim (cases_Bool (v && (c == 10))) [
  | inl y ↦ (
      let ten : (c == 62) ≡ false = ap (λ b. b == 62) (eqb-true c 10 (and_parts v (c == 10) y).1) in
      let more = is_fed t false in
      let w = fed_passed c t v y in
      record {
        past_is = ap (λ u. drop (past u) u) w ∙ more.past_is ∙ sym (ap (λ (o : Bool). with_feeds (drop (if o then 1 else suc (past t)) (c ∷ t))) ten);
        says = λ x. ap (doctype_from x) w ∙ more.says x
            ∙ sym (ap (λ (o : Bool). doctype_from x (fed v (take (if o then 1 else suc (past t)) (c ∷ t)))) ten ∙ ap (doctype_from x) (fed_passed c (take (past t) t) v y));
      })
  | inr n ↦ elim (cases_Bool (c == 62)) [
    | inl y ↦ (
        let plain : (c == 13) ≡ false = ap (λ b. b == 13) (eqb-true c 62 y) in
        let greater : (feed c == 62) ≡ true = fed_greater c ∙ y in
        let w = fed_more c t v n in
        record {
          past_is = ap (λ u. drop (past u) u) w ∙ ap (λ (o : Bool). drop (if o then 1 else suc (past (fed (c == 13) t))) (feed c ∷ fed (c == 13) t)) greater
              ∙ ap (λ o. fed o t) plain ∙ ap with_feeds (all_stays t) ∙ sym (ap (λ (o : Bool). with_feeds (drop (if o then 1 else suc (past t)) (c ∷ t))) y);
          says = λ x.
              ap (doctype_from x) w ∙ here x (feed c) (fed (c == 13) t) greater
              ∙ sym (ap (λ (o : Bool). doctype_from x (fed v (take (if o then 1 else suc (past t)) (c ∷ t)))) y ∙ ap (doctype_from x) (fed_more c [] v n) ∙ here x (feed c) (fed (c == 13) []) greater);
        })
    | inr o ↦ (
        let off : (feed c == 62) ≡ false = fed_greater c ∙ o in
        let w = fed_more c t v n in
        let more = is_fed t (c == 13) in
        record {
          past_is = ap (λ u. drop (past u) u) w ∙ ap (λ (e : Bool). drop (if e then 1 else suc (past (fed (c == 13) t))) (feed c ∷ fed (c == 13) t)) off
              ∙ more.past_is ∙ sym (ap (λ (e : Bool). with_feeds (drop (if e then 1 else suc (past t)) (c ∷ t))) o);
          says = λ x.
              ap (doctype_from x) w ∙ later x (feed c) (fed (c == 13) t) off ∙ more.says (doctype_step x.part x (feed c)) ∙ sym (later x (feed c) (fed (c == 13) (take (past t) t)) off)
              ∙ sym (ap (λ (e : Bool). doctype_from x (fed v (take (if e then 1 else suc (past t)) (c ∷ t)))) o ∙ ap (doctype_from x) (fed_more c (take (past t) t) v n));
        })
  ]
]
  where
    here : (x : Doctyping) (b : ℕ) (t : List ℕ) → (b == 62) ≡ true → doctype_from x (b ∷ t) ≡ doctype_at true x
    here x b t y = rw y refl

    later : (x : Doctyping) (b : ℕ) (t : List ℕ) → (b == 62) ≡ false → doctype_from x (b ∷ t) ≡ doctype_from (doctype_step x.part x b) t
    later x b t n = rw n refl

-- a piece that begins so

word_length : (w : List ℕ) → map to_ascii_lowercase w ≡ word → length w ≡ 7
word_length w h = sym (length-map w to_ascii_lowercase) ∙ ap length h

pub doctype_bytes : (bytes : List ℕ) → BeginsDoctype (with_feeds bytes) → (t : List ℕ) × (bytes ≡ 60 ∷ 33 ∷ t)
doctype_bytes bytes (w, z, e, h) = let q = unfed (60 ∷ 33 ∷ w) bytes z (word_letters w h) e in (w ++ q.0, q.1)

pub doctype_told : {M : Type 0} (d : Driver M) (m : M) (bytes rest : List ℕ) (ts : List HtmlToken) (ps : List Piece) → BeginsDoctype (with_feeds bytes) →
    pieces_at T.data_state (bytes ++ rest) ≡ piece T.data_state bytes ts ∷ ps →
    (ps ≡ pieces_at T.data_state rest)
    × (driven d m (in_state T.data_state) (with_feeds (bytes ++ rest)) ≡ driven d (d.take m (doctype_of (doctype_said bytes))) (in_state T.data_state) (with_feeds rest))
doctype_told d m bytes rest ts ps (w, z, e, h) k =
    let letters = word_letters w h in
    let q = unfed (60 ∷ 33 ∷ w) bytes z letters e in
    let u : List ℕ = q.0 in
    let v : List ℕ = u ++ rest in
    let text : bytes ++ rest ≡ 60 ∷ 33 ∷ (w ++ v) = ap (λ x. x ++ rest) q.1 ∙ ap (λ x. 60 ∷ 33 ∷ x) (append_assoc w u rest) in
    let p : Piece = piece T.data_state bytes ts in
    let q0 : Piece = piece T.data_state (60 ∷ 33 ∷ (w ++ take (past v) v)) (DoctypeToken ∷ []) in
    let pieces : p ∷ ps ≡ q0 ∷ pieces_at T.data_state (drop (past v) v) = sym k ∙ ap (pieces_at T.data_state) text ∙ opened_piece w v h in
    let cut = first_is p q0 ps (pieces_at T.data_state (drop (past v) v)) pieces in
    let same : 60 ∷ 33 ∷ (w ++ u) ≡ 60 ∷ 33 ∷ (w ++ take (past v) v) = sym q.1 ∙ ap (λ (p : Piece). p.bytes) cut in
    let first : u ≡ take (past v) v =
    sym (drop-append_seam w u) ∙ ap (λ (x : List ℕ). drop (length w) (drop 2 x)) same ∙ drop-append_seam w (take (past v) v) in
    let after : drop (past v) v ≡ rest =
    sym (drop-append_seam u (drop (past v) v)) ∙ ap (drop (length u)) (ap (λ x. x ++ drop (past v) v) first ∙ take-append-drop (past v) v) ∙ drop-append_seam u rest in
    let f = is_fed v false in
    let whole : fed false v ≡ with_feeds v = ap with_feeds (all_stays v) in
    let behind : drop 9 bytes ≡ u = ap (drop 9) q.1 ∙ ap (λ n. drop n (w ++ u)) (sym (word_length w h)) ∙ drop-append_seam w u in
    let says : doctype_from no_doctype (with_feeds v) ≡ doctype_said bytes =
    sym (ap (doctype_from no_doctype) whole) ∙ f.says no_doctype ∙ ap (λ x. doctype_from no_doctype (with_feeds x)) (all_stays (take (past v) v) ∙ sym first ∙ sym behind) in
    let past_is : drop (past (with_feeds v)) (with_feeds v) ≡ with_feeds rest = sym (ap (λ x. drop (past x) x) whole) ∙ f.past_is ∙ ap with_feeds after in (
      later_is p q0 ps (pieces_at T.data_state (drop (past v) v)) pieces ∙ ap (pieces_at T.data_state) after,
      ap (λ x. driven d m (in_state T.data_state) (with_feeds x)) text
          ∙ ap (driven d m (in_state T.data_state)) (fed_word (60 ∷ 33 ∷ w) v letters)
          ∙ opened_driven d m w (with_feeds v) h
          ∙ ap₂ (λ x t. driven d (d.take m (doctype_of x)) (in_state T.data_state) t) says past_is,
    )
