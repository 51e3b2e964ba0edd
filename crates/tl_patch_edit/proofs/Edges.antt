-- Parts and pieces that stand alike between others.
use Rattle.std.proofs.Common.{◌≡◌, ℕ, zero, suc, Bool, true, false, ◌==◌, ◌&&◌, not, List, [], ◌∷◌, ◌++◌, length, Option, Some, None, slice_get, get_or, ◌-◌, arith, map, refl, ap, ap₂, sym, subst, ◌∙◌, inl, inr, true≢false, if◌then◌else◌}
use Rattle.std.specs.Prelude.{is_none}
use Rattle.std.specs.Char.{is_ascii_alphanumeric, is_ascii_digit, is_ascii_hexdigit, to_ascii_lowercase}
use Rattle.std.specs.List.{list_all}
use Rattle.std.proofs.lemmas.Bool.{and_parts, cases_Bool, eqb-true}
use Rattle.tl_html_spec.specs.Escapes.{text_escape}
use Rattle.tl_html_spec.specs.HtmlTokenizer.{Character, CommentToken, DoctypeToken, EndTag, HtmlToken, StartTag, State, data_state}
use Rattle.tl_html_spec.specs.Pieces.{Piece, are_characters, first_byte, piece, with_piece}
use Rattle.tl_html_tokens.specs.Modes.{state_of}
use Rattle.tl_html_tokens.specs.Tokens as tokens
use Rattle.tl_html_tokens.specs.Whole.{is_tag_kind}
use Rattle.tl_html_tokens.specs.declared.mode.Mode.{Mode}
use Rattle.tl_html_tokens.specs.declared.mode.Mode.TheVariants as mode
use Rattle.tl_html_tokens.specs.declared.stage.TokenKind.{TokenKind}
use Rattle.tl_html_tokens.specs.declared.stage.TokenKind.TheVariants as kind
use Rattle.tl_html_tokens.proofs.Joining.{kind_is}
use Rattle.tl_patch_spec.specs.Markup.{text_byte_markup, text_markup}
use Rattle.tl_patch_spec.specs.Patches.{Put, end_tag_piece, separator_if}
use Rattle.tl_patch_spec.specs.Seams.{begins_with_mark, is_apart, is_apart_from, is_data_state}
use Rattle.tl_patch_spec.specs.Splices.{Splice}
use Rattle.tl_patch_edit.specs.Asks.{text_form}
use Rattle.tl_patch_edit.specs.Inner.Parts.{ArePieces, IsPieceOf, Part, is_data, is_text_kind, part_view, parts_view, separator_parts}
use Rattle.tl_patch_edit.specs.Inner.Seams.{HoldTexts, HoldsText, SameAfter, SameBefore, SameEdges, part_byte, part_goes, part_seam, piece_byte, part_mark, piece_goes, piece_mark, seam_by}
use Rattle.tl_patch_edit.specs.Inner.Within.{after_byte, first, goes_on_with, going_on, is_markup, or_first, within_from, within_text}
use Rattle.tl_patch_edit.specs.Sayings.{is_tag}
use Rattle.tl_patch_edit.specs.Seams.{begins_at, behind, first_of, is_empty, last_of, needs_separator}
use Rattle.tl_patch_edit.specs.declared.part.Part.{Part as CodePart}
use Rattle.tl_patch_edit.specs.declared.seam.Within.{Within}
use Rattle.tl_patch_edit.specs.declared.seam.Within.TheVariants as within
use Rattle.tl_patch_edit.proofs.Texts.{goes_on_is, within_append}

-- where a separator stands between parts it stands between their pieces

and_none : (a : Bool) → (a && false) ≡ false
and_none true = refl
and_none false = refl

in_data : (a d e : Bool) (x y : List ℕ) (m : Bool) → seam_by false (λ n. a && (d && is_apart x n)) (if e then first_byte y else None) m ≡ (a && ((d && e) && is_apart_from x y))
in_data true true true x [] m = refl
in_data true true true x (b ∷ y) m = refl
in_data true false true x [] m = refl
in_data true false true x (b ∷ y) m = refl
in_data false d true x [] m = refl
in_data false d true x (b ∷ y) m = refl
in_data true true false x y m = refl
in_data true false false x y m = refl
in_data false d false x y m = refl

needs_is : (p q : Option Piece) → seam_by (is_none p) (piece_goes p) (piece_byte q) (piece_mark q) ≡ needs_separator p q
needs_is None None = refl
needs_is None (Some q) = refl
needs_is (Some p) None = sym (and_none (are_characters p.tokens))
needs_is (Some p) (Some q) = in_data (are_characters p.tokens) (is_data_state p.rest) (is_data_state q.rest) p.bytes q.bytes (begins_with_mark q.bytes)

goes_alike : (v : Bool) (f g : ℕ → Bool) (o : Option ℕ) (m : Bool) → ((n : ℕ) → f n ≡ g n) → seam_by v f o m ≡ seam_by v g o m
goes_alike true f g o m h = refl
goes_alike false f g None m h = refl
goes_alike false f g (Some n) m h = h n

pub seam_same : (x y : Option Part) (p q : Option Piece) → SameBefore x p → SameAfter y q → part_seam x y ≡ needs_separator p q
seam_same x y p q b a =
    ap (λ (v : Bool). seam_by v (part_goes x) (part_byte y) (part_mark y)) b.none
    ∙ goes_alike (is_none p) (part_goes x) (piece_goes p) (part_byte y) (part_mark y) b.goes
    ∙ ap₂ (λ (o : Option ℕ) (m : Bool). seam_by (is_none p) (piece_goes p) o m) a.byte a.mark
    ∙ needs_is p q

-- a part and its piece

text_same : (k : TokenKind) → tokens.is_text k ≡ is_text_kind k
text_same kind.Text = refl
text_same kind.StartTag = refl
text_same kind.EndTag = refl
text_same kind.Comment = refl
text_same kind.Doctype = refl
text_same kind.Nothing = refl

pub data_same : (m : Mode) → is_data_state (state_of m) ≡ is_data m
data_same mode.Data = refl
data_same mode.Title = refl
data_same mode.Textarea = refl
data_same mode.ContextText = refl
data_same mode.Style = refl
data_same mode.Xmp = refl
data_same mode.Iframe = refl
data_same mode.Noembed = refl
data_same mode.Noframes = refl
data_same mode.Noscript = refl
data_same mode.Script = refl
data_same mode.ScriptEscaped = refl
data_same mode.ScriptEscapedDash = refl
data_same mode.ScriptEscapedDashDash = refl
data_same mode.Plaintext = refl

data_of : (s : State) → is_data_state s ≡ true → s ≡ data_state
data_of data_state h = refl
data_of _ h = absurd (true≢false (sym h))

both_if : (a c d e v w : Bool) → a ≡ c → d ≡ e → (c ≡ true → e ≡ true → v ≡ w) → (a && (d && v)) ≡ (c && (e && w))
both_if a true d true v w h k l = ap₂ (λ (x y : Bool). x && (y && v)) h k ∙ l refl refl
both_if a true d false v w h k l = ap₂ (λ (x y : Bool). x && (y && v)) h k
both_if a false d e v w h k l = ap (λ (x : Bool). x && (d && v)) h

apart_is : (bytes : List ℕ) (n : ℕ) → is_markup (within_text bytes) ≡ false → goes_on_with (within_text bytes) n ≡ is_apart bytes n
unfolding is_apart
apart_is bytes n h = sym (goes_on_is bytes n h)

before_same : (x : Part) (p : Piece) → IsPieceOf x p → HoldsText p → SameBefore (Some x) (Some p)
before_same x p i h = record {
  none = refl;
  goes = λ n. both_if (is_text_kind x.kind) (are_characters p.tokens) (is_data x.mode) (is_data_state p.rest) (goes_on_with (within_text x.bytes) n) (is_apart p.bytes n)
      (sym (kind_is x.kind p.tokens i.kind ∙ text_same x.kind)) (sym (ap is_data_state i.rest ∙ data_same x.mode))
      (λ c d. ap (λ (b : List ℕ). goes_on_with (within_text b) n) (sym i.bytes) ∙ apart_is p.bytes n (h (data_of p.rest d) c));
}

after_by : (m : Mode) (s : State) (x y : List ℕ) (k : TokenKind) (ts : List HtmlToken) → s ≡ state_of m → y ≡ x → SameAfter (Some (record { kind = k; mode = m; bytes = x })) (Some (piece s y ts))
after_by m s x y k ts e h = record {
  byte = ap₂ (λ (d : Bool) (b : List ℕ). if d then first_byte b else None) (sym (ap is_data_state e ∙ data_same m)) (sym h);
  mark = ap begins_with_mark (sym h);
}

after_same : (x : Part) (p : Piece) → IsPieceOf x p → SameAfter (Some x) (Some p)
after_same x p i = after_by x.mode p.rest x.bytes p.bytes x.kind p.tokens i.rest i.bytes

-- some of them

pub pieces_edges : (xs : List Part) (ps : List Piece) → ArePieces xs ps → HoldTexts ps → SameEdges xs ps
pieces_edges xs ps h t = record { empty = none xs ps h; last = last xs ps h t; first = first xs ps h }
  where
    none : (xs : List Part) (ps : List Piece) → ArePieces xs ps → is_empty xs ≡ is_empty ps
    none [] [] h = refl
    none [] (p ∷ ps) h = absurd h
    none (x ∷ xs) [] h = absurd h
    none (x ∷ xs) (p ∷ ps) h = refl

    last : (xs : List Part) (ps : List Piece) → ArePieces xs ps → HoldTexts ps → (x : Option Part) (p : Option Piece) → SameBefore x p → SameBefore (last_of x xs) (last_of p ps)
    last [] [] h t y q s = s
    last [] (p ∷ ps) h t y q s = absurd h
    last (x ∷ xs) [] h t y q s = absurd h
    last (x ∷ xs) (p ∷ ps) h t y q s = last xs ps h.1 t.1 (Some x) (Some p) (before_same x p h.0 t.0)

    first : (xs : List Part) (ps : List Piece) → ArePieces xs ps → (y : Option Part) (q : Option Piece) → SameAfter y q → SameAfter (first_of xs y) (first_of ps q)
    first [] [] h y q s = s
    first [] (p ∷ ps) h y q s = absurd h
    first (x ∷ xs) [] h y q s = absurd h
    first (x ∷ xs) (p ∷ ps) h y q s = after_same x p h.0

pub last_append : {A : Type 0} (x : Option A) (xs ys : List A) → last_of x (xs ++ ys) ≡ last_of (last_of x xs) ys
last_append x [] ys = refl
last_append x (z ∷ xs) ys = last_append (Some z) xs ys

first_append : {A : Type 0} (xs ys : List A) (y : Option A) → first_of (xs ++ ys) y ≡ first_of xs (first_of ys y)
first_append [] ys y = refl
first_append (x ∷ xs) ys y = refl

empty_append : {A : Type 0} (xs ys : List A) → is_empty (xs ++ ys) ≡ (is_empty xs && is_empty ys)
empty_append [] ys = refl
empty_append (x ∷ xs) ys = refl

pub edges_both : (xs ys : List Part) (ps qs : List Piece) → SameEdges xs ps → SameEdges ys qs → SameEdges (xs ++ ys) (ps ++ qs)
edges_both xs ys ps qs h k = record {
  empty = empty_append xs ys ∙ ap₂ (λ (a b : Bool). a && b) h.empty k.empty ∙ sym (empty_append ps qs);
  last = λ x p s.
      subst (λ (y : Option Part). SameBefore y (last_of p (ps ++ qs))) (sym (last_append x xs ys))
      (subst (λ (q : Option Piece). SameBefore (last_of (last_of x xs) ys) q) (sym (last_append p ps qs)) (k.last (last_of x xs) (last_of p ps) (h.last x p s)));
  first = λ y q s.
      subst (λ (z : Option Part). SameAfter z (first_of (ps ++ qs) q)) (sym (first_append xs ys y))
      (subst (λ (r : Option Piece). SameAfter (first_of xs (first_of ys y)) r) (sym (first_append ps qs q)) (h.first (first_of ys y) (first_of qs q) (k.first y q s)));
}

-- the last of the parts that the code has

last_at : (o : Option Part) (y : CodePart) (ys : List CodePart) (d : CodePart) → Some (part_view (get_or (y ∷ ys) (length ys) d)) ≡ last_of o (parts_view (y ∷ ys))
last_at o y [] d = refl
last_at o y (z ∷ zs) d = last_at (Some (part_view y)) z zs d

pub last_is : (xs : List CodePart) (d : CodePart) → (length xs == 0) ≡ false → Some (part_view (get_or xs (length xs - 1) d)) ≡ last_of None (parts_view xs)
last_is [] d h = absurd (true≢false h)
last_is (y ∷ ys) d h =
    let len : length (y ∷ ys) - 1 ≡ length ys = omega arith in
    ap (λ n. Some (part_view (get_or (y ∷ ys) n d))) len ∙ last_at None y ys d

pub empty_view : (xs : List CodePart) → is_empty (parts_view xs) ≡ (length xs == 0)
empty_view [] = refl
empty_view (x ∷ xs) = elim (cases_Bool (length (x ∷ xs) == 0)) [
  | inl y ↦ (let e : length (x ∷ xs) ≡ 0 = eqb-true (length (x ∷ xs)) 0 y in absurd (omega (arith, e)))
  | inr n ↦ sym n
]

pub none_before : SameBefore None None
none_before = record { none = refl; goes = λ n. refl }

pub separator_edges : (b : Bool) → SameEdges (separator_parts b) (separator_if b)
separator_edges true = record {
  empty = refl;
  last = λ x p s. record { none = refl; goes = λ n. refl };
  first = λ y q s. record { byte = refl; mark = refl };
}
separator_edges false = record { empty = refl; last = λ x p s. s; first = λ y q s. s }

-- a part of what is no text
one_edges : (k : TokenKind) (m : Mode) (x y : List ℕ) (s : State) (ts : List HtmlToken) → s ≡ state_of m → y ≡ x → is_text_kind k ≡ false → are_characters ts ≡ false →
    SameEdges (record { kind = k; mode = m; bytes = x } ∷ []) (piece s y ts ∷ [])
one_edges k m x y s ts e h a c = record {
  empty = refl;
  last = λ z p i. record {
    none = refl;
    goes = λ n. ap (λ (v : Bool). v && (is_data m && goes_on_with (within_text x) n)) a ∙ sym (ap (λ (v : Bool). v && (is_data_state s && is_apart y n)) c);
  };
  first = λ z q i. after_by m s x y k ts e h;
}

tag_no_text : (k : TokenKind) → is_tag_kind k ≡ true → is_text_kind k ≡ false
tag_no_text kind.Text h = absurd (true≢false (sym h))
tag_no_text _ h = refl

tag_no_characters : (ts : List HtmlToken) → is_tag ts ≡ true → are_characters ts ≡ false
tag_no_characters [] h = refl
tag_no_characters (Character b ∷ ts) h = absurd (true≢false (sym h))
tag_no_characters (StartTag n a v ∷ ts) h = refl
tag_no_characters (EndTag n ∷ ts) h = refl
tag_no_characters (CommentToken b ∷ ts) h = refl
tag_no_characters (DoctypeToken ∷ ts) h = refl

pub tag_edges : (k : TokenKind) (m : Mode) (x y : List ℕ) (s : State) (ts : List HtmlToken) → s ≡ state_of m → y ≡ x → is_tag_kind k ≡ true → is_tag ts ≡ true →
    SameEdges (record { kind = k; mode = m; bytes = x } ∷ []) (piece s y ts ∷ [])
tag_edges k m x y s ts e h t c = one_edges k m x y s ts e h (tag_no_text k t) (tag_no_characters ts c)

-- an end tag before others
pub end_tag_runs : (name : List ℕ) (rs : List Piece) → with_piece (end_tag_piece name) rs ≡ end_tag_piece name ∷ rs
end_tag_runs name [] = refl
end_tag_runs name (r ∷ rs) = refl

-- an escaped text has no `<`

is_open : Within → Bool
is_open within.TagOpen = true
is_open within.EndTagOpen = true
is_open within.Markup = true
is_open _ = false

opens : Option Within → Bool
opens None = false
opens (Some w) = is_open w

neither : (v : Bool) (w u : Option Within) → opens w ≡ false → opens u ≡ false → opens (if v then w else u) ≡ false
neither true w u h k = h
neither false w u h k = k

stays_closed : (w : Within) (b : ℕ) → is_open w ≡ false → opens (going_on w b) ≡ false
unfolding is_open opens
stays_closed within.Text b h = refl
stays_closed within.Return b h = neither (b == 10) _ _ refl refl
stays_closed within.Reference b h = neither (is_ascii_alphanumeric b) _ _ refl (neither (b == 35) _ _ refl refl)
stays_closed within.Name b h = neither (is_ascii_alphanumeric b) _ _ refl (neither (b == 59) _ _ refl refl)
stays_closed within.Number b h = neither (to_ascii_lowercase b == 120) _ _ refl (neither (is_ascii_digit b) _ _ refl refl)
stays_closed within.HexadecimalStart b h = neither (is_ascii_hexdigit b) _ _ refl refl
stays_closed within.Hexadecimal b h = neither (is_ascii_hexdigit b) _ _ refl (neither (b == 59) _ _ refl refl)
stays_closed within.Decimal b h = neither (is_ascii_digit b) _ _ refl (neither (b == 59) _ _ refl refl)
stays_closed within.TagOpen b h = absurd (true≢false h)
stays_closed within.EndTagOpen b h = absurd (true≢false h)
stays_closed within.Markup b h = absurd (true≢false h)

first_closed : (b : ℕ) → (b == 60) ≡ false → is_open (first b) ≡ false
unfolding is_open
first_closed b h = elim (cases_Bool (b == 38)) [
  | inl y ↦ rw (y, first) refl
  | inr n ↦ elim (cases_Bool (b == 13)) [
    | inl y ↦ rw (n, h, y, first) refl
    | inr m ↦ rw (n, h, m, first) refl
  ]
]

closed_after : (w : Within) (b : ℕ) → is_open w ≡ false → (b == 60) ≡ false → is_open (after_byte w b) ≡ false
unfolding is_open opens
closed_after w b h k = by_option (going_on w b) (stays_closed w b h)
  where
    by_option : (o : Option Within) → opens o ≡ false → is_open (or_first o b) ≡ false
    by_option None e = first_closed b k
    by_option (Some u) e = e

closed_from : (w : Within) (x : List ℕ) → is_open w ≡ false → list_all (λ b. not (b == 60)) x ≡ true → is_open (within_from w x) ≡ false
closed_from w [] h k = h
closed_from w (b ∷ x) h k = let r = and_parts (not (b == 60)) (list_all (λ n. not (n == 60)) x) k in closed_from (after_byte w b) x (closed_after w b h (not_true (b == 60) r.0)) r.1
  where
    not_true : (v : Bool) → not v ≡ true → v ≡ false
    not_true true e = absurd (true≢false (sym e))
    not_true false e = refl

byte_closed : (b : ℕ) → list_all (λ n. not (n == 60)) (text_byte_markup b) ≡ true
byte_closed b = elim (cases_Bool (b == 13)) [
  | inl y ↦ rw (y, text_byte_markup) refl
  | inr n ↦ elim (cases_Bool (b == 38)) [
    | inl y ↦ rw (n, y, text_byte_markup, text_escape) refl
    | inr m ↦ elim (cases_Bool (b == 60)) [
      | inl y ↦ rw (n, m, y, text_byte_markup, text_escape) refl
      | inr k ↦ rw (n, m, k, text_byte_markup, text_escape) (rw k refl)
    ]
  ]
]

markup_closed : (w : Within) (t : List ℕ) → is_open w ≡ false → is_open (within_from w (text_markup t)) ≡ false
markup_closed w [] h = h
markup_closed w (b ∷ t) h =
    ap is_open (within_append w (text_byte_markup b) (text_markup t)) ∙ markup_closed (within_from w (text_byte_markup b)) t (closed_from w (text_byte_markup b) h (byte_closed b))

closed_no_markup : (w : Within) → is_open w ≡ false → is_markup w ≡ false
unfolding is_open
closed_no_markup within.Markup h = absurd (true≢false h)
closed_no_markup _ h = refl

some_characters : (b : ℕ) (t : List ℕ) → are_characters (map Character (b ∷ t)) ≡ true
some_characters b [] = refl
some_characters b (c ∷ t) = some_characters c t

text_goes : (m : Mode) (t : List ℕ) (n : ℕ) → (is_data m && goes_on_with (within_text (text_form m t)) n) ≡ (are_characters (map Character t) && (is_data m && is_apart (text_form m t) n))
unfolding is_open
text_goes mode.Data [] n = refl
text_goes mode.Data (b ∷ t) n =
    apart_is (text_markup (b ∷ t)) n (closed_no_markup (within_text (text_markup (b ∷ t))) (markup_closed within.Text (b ∷ t) refl))
    ∙ sym (ap (λ (v : Bool). v && is_apart (text_markup (b ∷ t)) n) (some_characters b t))
text_goes mode.Title t n = sym (and_none (are_characters (map Character t)))
text_goes mode.Textarea t n = sym (and_none (are_characters (map Character t)))
text_goes mode.ContextText t n = sym (and_none (are_characters (map Character t)))
text_goes mode.Style t n = sym (and_none (are_characters (map Character t)))
text_goes mode.Xmp t n = sym (and_none (are_characters (map Character t)))
text_goes mode.Iframe t n = sym (and_none (are_characters (map Character t)))
text_goes mode.Noembed t n = sym (and_none (are_characters (map Character t)))
text_goes mode.Noframes t n = sym (and_none (are_characters (map Character t)))
text_goes mode.Noscript t n = sym (and_none (are_characters (map Character t)))
text_goes mode.Script t n = sym (and_none (are_characters (map Character t)))
text_goes mode.ScriptEscaped t n = sym (and_none (are_characters (map Character t)))
text_goes mode.ScriptEscapedDash t n = sym (and_none (are_characters (map Character t)))
text_goes mode.ScriptEscapedDashDash t n = sym (and_none (are_characters (map Character t)))
text_goes mode.Plaintext t n = sym (and_none (are_characters (map Character t)))

pub text_edges : (m : Mode) (t : List ℕ) → SameEdges (record { kind = kind.Text; mode = m; bytes = text_form m t } ∷ []) (piece (state_of m) (text_form m t) (map Character t) ∷ [])
text_edges m t = record {
  empty = refl;
  last = λ x p s. record {
    none = refl;
    goes = λ n. text_goes m t n ∙ ap (λ (d : Bool). are_characters (map Character t) && (d && is_apart (text_form m t) n)) (sym (data_same m));
  };
  first = λ y q s. after_by m (state_of m) (text_form m t) (text_form m t) kind.Text (map Character t) refl refl;
}

-- what stands behind a splice

at_same : (xs : List Part) (ps : List Piece) (n : ℕ) → ArePieces xs ps → SameAfter (slice_get xs n) (slice_get ps n)
at_same [] [] n h = record { byte = refl; mark = refl }
at_same [] (p ∷ ps) n h = absurd h
at_same (x ∷ xs) [] n h = absurd h
at_same (x ∷ xs) (p ∷ ps) zero h = after_same x p h.0
at_same (x ∷ xs) (p ∷ ps) (suc n) h = at_same xs ps n h.1

pub behind_same : (xs : List Part) (ps : List Piece) (asks : List (Splice Put)) (n : ℕ) → ArePieces xs ps → SameAfter (behind xs asks n) (behind ps asks n)
behind_same xs ps asks n h = elim (cases_Bool (begins_at asks n)) [
  | inl y ↦ rw (y, behind) (record { byte = refl; mark = refl })
  | inr z ↦ rw (z, behind) (at_same xs ps n h)
]
