-- What the tokenizer emits can be written so that it is read again: names, keys, values, comments and doctypes.
use Rattle.std.proofs.Common.{◌≡◌, ℕ, zero, suc, Bool, true, false, not, ◌==◌, ◌&&◌, ◌||◌, List, [], ◌∷◌, ◌++◌, map, codes, refl, ap, ap₂, append-nil, append_assoc, cond, nat_lt, subst, sym, ◌∙◌, ◌≤◌, inl, inr, true≢false, arith, if◌then◌else◌}
use Rattle.std.specs.Prelude.{⊤, ◌+◌, ◌*◌}
use Rattle.std.specs.Char.{is_ascii_alphabetic, is_ascii_alphanumeric, is_ascii_digit, is_ascii_hexdigit, to_ascii_lowercase}
use Rattle.std.specs.List.{list_all, list_any, starts_with}
use Rattle.std.specs.Str.{bytes_eq}
use Rattle.std.proofs.lemmas.Bool.{and_from, and_parts, cases_Bool, cond_both, eqb-true, ne_eqb}
use Rattle.std.proofs.lemmas.Bool.Decides.{nat_tests}
use Rattle.std.proofs.lemmas.Str.Ascii.{lowercase-lowercase}
use Rattle.tl_names.specs.Elements.{is_among, rawtext_names, rcdata_names}
use Rattle.tl_html_print.proofs.NoNuls.{HasNoNul, both_all, named_has_none, number_has_none}
use Rattle.tl_html_print.proofs.PageComments.{Comes, Ends, IsOpen, IsWritten, Leads, any_leads, comes_written, ended, greater, inside, is_bogus, is_inside, led, nothing_comes, nothing_open, open_all, open_next, open_written}
use Rattle.tl_html_print.proofs.Reread.{lower-nul}
use Rattle.tl_html_print.specs.ReadAgain.{begins_key, is_in_key, is_in_name, is_key, is_name, lowered}
use Rattle.tl_html_spec.specs.References.{named_value, not_zero, number_value}
use Rattle.tl_html_spec.specs.HtmlTokenizer as T
use Rattle.tl_html_spec.specs.HtmlTokenizer.{HtmlAttribute, HtmlToken, Character, StartTag, EndTag, CommentToken, DoctypeToken, OpenTag, Raw, State, Step, char_of, ends_name, is_white_space, replacement, settled, step, whole_step}

-- what holds of tags

-- a key that is read as it is written, in lower case
abbrev pub IsFitKey : List ℕ → Type 0
IsFitKey key = (is_key key ≡ true) × (lowered key ≡ key)

-- a name of a tag, in lower case
abbrev pub IsFitName : List ℕ → Type 0
IsFitName name = (is_name name ≡ true) × (lowered name ≡ name)

abbrev pub EachIsFit : List HtmlAttribute → Type 0
EachIsFit [] = ⊤
EachIsFit (a ∷ attributes) = IsFitKey a.0 × HasNoNul a.1 × EachIsFit attributes

-- no key comes twice, nor is it one of those before
abbrev pub AreApart : List HtmlAttribute → List HtmlAttribute → Type 0
AreApart before [] = ⊤
AreApart before (a ∷ attributes) =
    (list_any (λ (b : HtmlAttribute). bytes_eq b.0 a.0) before ≡ false) × AreApart (before ++ a ∷ []) attributes

pub record AreFit (attributes : List HtmlAttribute) : Type 0 where
  pub each : EachIsFit attributes
  pub apart : AreApart [] attributes

pub record Fit (tag : OpenTag) : Type 0 where
  pub name : tag.is_end ≡ false → IsFitName tag.name
  pub attributes : AreFit tag.attributes

abbrev pub IsFit : HtmlToken → Type 0
IsFit (StartTag name attributes closes) = IsFitName name × AreFit attributes
IsFit (CommentToken x) = IsWritten x
IsFit _ = ⊤

abbrev pub AreAllFit : List HtmlToken → Type 0
AreAllFit [] = ⊤
AreAllFit (t ∷ ts) = IsFit t × AreAllFit ts

-- the states in which a reference may stand
abbrev Returns : State → Type 0
Returns T.data_state = ⊤
Returns (T.raw r) = ⊤
Returns (T.double_quoted tag key value) = Fit tag × IsFitKey key × HasNoNul value
Returns (T.single_quoted tag key value) = Fit tag × IsFitKey key × HasNoNul value
Returns (T.unquoted tag key value) = Fit tag × IsFitKey key × HasNoNul value
Returns _ = ⊥

-- what holds of a state between two bytes
abbrev pub Holds : State → Type 0
Holds (T.tag_name tag) = Fit tag
Holds (T.before_attribute_name tag) = Fit tag
Holds (T.attribute_name tag key) = Fit tag × IsFitKey key
Holds (T.after_attribute_name tag key) = Fit tag × IsFitKey key
Holds (T.before_attribute_value tag key) = Fit tag × IsFitKey key
Holds (T.double_quoted tag key value) = Fit tag × IsFitKey key × HasNoNul value
Holds (T.single_quoted tag key value) = Fit tag × IsFitKey key × HasNoNul value
Holds (T.unquoted tag key value) = Fit tag × IsFitKey key × HasNoNul value
Holds (T.after_attribute_value tag) = Fit tag
Holds (T.self_closing_start_tag tag) = Fit tag
Holds (T.bogus_comment bytes) = IsOpen bytes
Holds (T.markup_declaration_open buffer) = list_all is_bogus (map to_ascii_lowercase buffer) ≡ true
Holds T.comment_start = Comes T.comment_start []
Holds T.comment_start_dash = Comes T.comment_start_dash (codes "-")
Holds (T.comment x) = Comes (T.comment x) x
Holds (T.comment_less_than_sign x) = Comes (T.comment_less_than_sign x) x
Holds (T.comment_less_than_sign_bang x) = Comes (T.comment_less_than_sign_bang x) x
Holds (T.comment_less_than_sign_bang_dash x) = Comes (T.comment_less_than_sign_bang_dash x) (x ++ codes "-")
Holds (T.comment_less_than_sign_bang_dash_dash x) = Comes (T.comment_less_than_sign_bang_dash_dash x) (x ++ codes "--")
Holds (T.comment_end_dash x) = Comes (T.comment_end_dash x) (x ++ codes "-")
Holds (T.comment_end x) = Comes (T.comment_end x) (x ++ codes "--")
Holds (T.comment_end_bang x) = Comes (T.comment_end_bang x) (x ++ codes "--!")
Holds (T.character_reference s) = Returns s
Holds (T.named_character_reference s buffer) = Returns s × HasNoNul buffer
Holds (T.numeric_character_reference s) = Returns s
Holds (T.hexadecimal_start s x) = Returns s × ((x == 0) ≡ false)
Holds (T.decimal_start s) = Returns s
Holds (T.hexadecimal s code) = Returns s
Holds (T.decimal s code) = Returns s
Holds _ = ⊤

-- a step after which so many reconsumes come at most, all of which emit what is sound and end in such a state
abbrev Good : ℕ → ℕ → Step → Type 0
Good zero b x = AreAllFit x.emits × (x.again ≡ false) × Holds x.next
Good (suc n) b x = AreAllFit x.emits × elim x.again as (λ _. Type 0) [ false ↦ Holds x.next | true ↦ Good n b (step x.next b) ]

stay : (n b : ℕ) (s : State) (ts : List HtmlToken) → AreAllFit ts → Holds s → Good n b (record { next = s; emits = ts; again = false })
stay zero b s ts h i = (h, refl, i)
stay (suc n) b s ts h i = (h, i)

pick : (n b : ℕ) (v : Bool) (x y : Step) → (v ≡ true → Good n b x) → (v ≡ false → Good n b y) → Good n b (if v then x else y)
pick n b v x y f g = cond_both v x y (Good n b) f g

fit_chars : (bytes : List ℕ) → AreAllFit (map Character bytes)
fit_chars [] = tt
fit_chars (b ∷ bytes) = (tt, fit_chars bytes)

-- names and keys

-- a byte in lower case
data Lowered (b : ℕ) : Type 0 where
  same : to_ascii_lowercase b ≡ b → Lowered b
  letter : 97 ≤ to_ascii_lowercase b → to_ascii_lowercase b ≤ 122 → Lowered b

in_range : (b : ℕ) → nat_lt b 65 ≡ false → nat_lt b 91 ≡ true → (97 ≤ b + 32) × (b + 32 ≤ 122)
in_range b h k = (grind (arith, nat_tests), grind (arith, nat_tests))

lowered_is : (b : ℕ) → Lowered b
lowered_is b = elim (cases_Bool (nat_lt b 65)) [
  | inl y ↦ same (ap (λ v. cond v b (cond (nat_lt b 91) (b + 32) b)) y)
  | inr n ↦ elim (cases_Bool (nat_lt b 91)) [
    | inl y ↦ (
        let r = in_range b n y in
        let is : to_ascii_lowercase b ≡ b + 32 = ap (λ v. cond v b (cond (nat_lt b 91) (b + 32) b)) n ∙ ap (λ v. cond v (b + 32) b) y in
        letter (subst (λ x. 97 ≤ x) (sym is) r.0) (subst (λ x. x ≤ 122) (sym is) r.1))
    | inr m ↦ same (ap (λ v. cond v b (cond (nat_lt b 91) (b + 32) b)) n ∙ ap (λ v. cond v (b + 32) b) m)
  ]
]

pub apart_from : (x k : ℕ) → 97 ≤ x → x ≤ 122 → (k ≤ 96) → (x == k) ≡ false
apart_from x k h l m = ne_eqb x k (λ e. omega (arith, e, h, m))

letter_in_name : (x : ℕ) → 97 ≤ x → x ≤ 122 → is_in_name x ≡ true
letter_in_name x h l = simp (apart_from x 9 h l (omega arith), apart_from x 10 h l (omega arith), apart_from x 12 h l (omega arith), apart_from x 32 h l (omega arith), apart_from x 47 h l (omega arith), apart_from x 62 h l (omega arith), apart_from x 13 h l (omega arith), apart_from x 0 h l (omega arith))

letter_in_key : (x : ℕ) → 97 ≤ x → x ≤ 122 → is_in_key x ≡ true
letter_in_key x h l = simp (apart_from x 9 h l (omega arith), apart_from x 10 h l (omega arith), apart_from x 12 h l (omega arith), apart_from x 32 h l (omega arith), apart_from x 47 h l (omega arith), apart_from x 62 h l (omega arith), apart_from x 61 h l (omega arith), apart_from x 13 h l (omega arith), apart_from x 0 h l (omega arith))

-- a byte of a name or a key, as it is taken
abbrev low : ℕ → List ℕ
low b = char_of (to_ascii_lowercase b)

set_low : (b : ℕ) → (b == 0) ≡ false → low b ≡ to_ascii_lowercase b ∷ []
set_low b z = ap (λ v. if v then replacement else to_ascii_lowercase b ∷ []) (lower-nul b z)

-- of what holds of U+FFFD, of letters and of the byte
pub low_all : (p : ℕ → Bool) (b : ℕ) → list_all p replacement ≡ true → ((x : ℕ) → 97 ≤ x → x ≤ 122 → p x ≡ true) → ((b == 0) ≡ false → p b ≡ true) → list_all p (low b) ≡ true
low_all p b r l h = elim (cases_Bool (b == 0)) [
  | inl y ↦ rw (eqb-true b 0 y) r
  | inr z ↦ subst (λ w. list_all p w ≡ true) (sym (set_low b z)) (and_from _ _ (elim (lowered_is b) [
    | same e ↦ ap p e ∙ h z
    | letter m n ↦ l (to_ascii_lowercase b) m n
  ]) refl)
]

low_stays : (b : ℕ) → lowered (low b) ≡ low b
low_stays b = elim (cases_Bool (b == 0)) [
  | inl y ↦ rw (eqb-true b 0 y) refl
  | inr z ↦ subst (λ w. lowered w ≡ w) (sym (set_low b z)) (ap (λ x. x ∷ []) (lowercase-lowercase b))
]

in_name : (b : ℕ) → ends_name b ≡ false → (b == 13) ≡ false → (b == 0) ≡ false → is_in_name b ≡ true
in_name b e n z = rw (e, n, z) refl

in_key : (b : ℕ) → ends_name b ≡ false → (b == 61) ≡ false → (b == 13) ≡ false → (b == 0) ≡ false → is_in_key b ≡ true
in_key b e q n z = rw (e, q, n, z) refl

pub low_in_name : (b : ℕ) → ends_name b ≡ false → (b == 13) ≡ false → list_all is_in_name (low b) ≡ true
low_in_name b e n = low_all is_in_name b refl letter_in_name (in_name b e n)

low_in_key : (b : ℕ) → ends_name b ≡ false → (b == 61) ≡ false → (b == 13) ≡ false → list_all is_in_key (low b) ≡ true
low_in_key b e q n = low_all is_in_key b refl letter_in_key (in_key b e q n)

name_longer : (name w : List ℕ) → is_name name ≡ true → list_all is_in_name w ≡ true → is_name (name ++ w) ≡ true
name_longer [] w h k = absurd (true≢false (sym h))
name_longer (b ∷ name) w h k = here (is_ascii_alphabetic b) h
  where
    here : (v : Bool) → (if v then list_all is_in_name (b ∷ name) else false) ≡ true → (if v then list_all is_in_name (b ∷ (name ++ w)) else false) ≡ true
    here true h = let p = and_parts (is_in_name b) (list_all is_in_name name) h in and_from _ _ p.0 (both_all is_in_name name w p.1 k)
    here false h = absurd (true≢false (sym h))

key_longer : (key w : List ℕ) → is_key key ≡ true → list_all is_in_key w ≡ true → is_key (key ++ w) ≡ true
key_longer [] w h k = absurd (true≢false (sym h))
key_longer (b ∷ key) w h k = let p = and_parts (begins_key b) (list_all is_in_key key) h in and_from _ _ p.0 (both_all is_in_key key w p.1 k)

lowered_append : (x y : List ℕ) → lowered (x ++ y) ≡ lowered x ++ lowered y
lowered_append [] y = refl
lowered_append (b ∷ x) y = ap (λ z. to_ascii_lowercase b ∷ z) (lowered_append x y)

fit_longer : (key w : List ℕ) → IsFitKey key → list_all is_in_key w ≡ true → lowered w ≡ w → IsFitKey (key ++ w)
fit_longer key w h k l = (key_longer key w h.0 k, lowered_append key w ∙ ap₂ (λ (a b : List ℕ). a ++ b) h.1 l)

letter_alphabetic : (x : ℕ) → 97 ≤ x → x ≤ 122 → is_ascii_alphabetic x ≡ true
letter_alphabetic x h l = grind (arith, nat_tests)

letter_no_space : (b : ℕ) → is_ascii_alphabetic b ≡ true → is_white_space b ≡ false
letter_no_space b h = grind arith

letter_no_solidus : (b : ℕ) → is_ascii_alphabetic b ≡ true → (b == 47) ≡ false
letter_no_solidus b h = grind arith

letter_no_greater : (b : ℕ) → is_ascii_alphabetic b ≡ true → (b == 62) ≡ false
letter_no_greater b h = grind arith

letter_no_nul : (b : ℕ) → is_ascii_alphabetic b ≡ true → (b == 0) ≡ false
letter_no_nul b h = grind arith

none_ends : (b : ℕ) → is_white_space b ≡ false → (b == 47) ≡ false → (b == 62) ≡ false → ends_name b ≡ false
none_ends b w s g = rw (w, s, g) refl

letter_ends_none : (b : ℕ) → is_ascii_alphabetic b ≡ true → ends_name b ≡ false
letter_ends_none b h = none_ends b (letter_no_space b h) (letter_no_solidus b h) (letter_no_greater b h)

low_alphabetic : (b : ℕ) → is_ascii_alphabetic b ≡ true → is_ascii_alphabetic (to_ascii_lowercase b) ≡ true
low_alphabetic b h = elim (lowered_is b) [
  | same e ↦ ap is_ascii_alphabetic e ∙ h
  | letter m n ↦ letter_alphabetic (to_ascii_lowercase b) m n
]

-- the first letter of a name
low_name : (b : ℕ) → is_ascii_alphabetic b ≡ true → (b == 13) ≡ false → is_name (low b) ≡ true
low_name b h n =
    let is = set_low b (letter_no_nul b h) in
    let all = subst (λ w. list_all is_in_name w ≡ true) is (low_in_name b (letter_ends_none b h) n) in
    subst (λ w. is_name w ≡ true) (sym is) (ap (λ v. if v then list_all is_in_name (to_ascii_lowercase b ∷ []) else false) (low_alphabetic b h) ∙ all)

low_key : (b : ℕ) → ends_name b ≡ false → (b == 61) ≡ false → (b == 13) ≡ false → IsFitKey (low b)
low_key b e q n = elim (cases_Bool (b == 0)) [
  | inl y ↦ rw (eqb-true b 0 y) (refl, refl)
  | inr z ↦ (
      let is = set_low b z in
      let one = subst (λ w. list_all is_in_key w ≡ true) is (low_in_key b e q n) in
      let first = (and_parts (is_in_key (to_ascii_lowercase b)) true one).0 in
      let key : is_key (to_ascii_lowercase b ∷ []) ≡ true = and_from _ _ (begun (is_in_key (to_ascii_lowercase b)) (to_ascii_lowercase b == 61) first) refl in
      (subst (λ w. is_key w ≡ true) (sym is) key, low_stays b))
]
  where
    begun : (x y : Bool) → x ≡ true → (x || y) ≡ true
    begun true y h = refl
    begun false y h = absurd (true≢false (sym h))

equals_key : (b : ℕ) → (b == 61) ≡ true → IsFitKey (b ∷ [])
equals_key b y = rw (eqb-true b 61 y) (refl, refl)

-- attributes

pub each_append : (xs : List HtmlAttribute) (a : HtmlAttribute) → EachIsFit xs → IsFitKey a.0 → HasNoNul a.1 → EachIsFit (xs ++ a ∷ [])
each_append [] a h k v = (k, v, tt)
each_append (x ∷ xs) a h k v = (h.0, h.1, each_append xs a h.2 k v)

has_key : List ℕ → List HtmlAttribute → Bool
has_key key attributes = list_any (λ (b : HtmlAttribute). bytes_eq b.0 key) attributes

apart_append : (before xs : List HtmlAttribute) (a : HtmlAttribute) → AreApart before xs → list_any (λ (b : HtmlAttribute). bytes_eq b.0 a.0) (before ++ xs) ≡ false → AreApart before (xs ++ a ∷ [])
apart_append before [] a h k = (ap (λ (y : List HtmlAttribute). list_any (λ (b : HtmlAttribute). bytes_eq b.0 a.0) y) (sym (append-nil before)) ∙ k, tt)
apart_append before (x ∷ xs) a h k =
    (h.0, apart_append (before ++ x ∷ []) xs a h.1 (ap (λ (y : List HtmlAttribute). list_any (λ (b : HtmlAttribute). bytes_eq b.0 a.0) y) (append_assoc before (x ∷ []) xs) ∙ k))

with_pair : (tag : OpenTag) (key value : List ℕ) → Fit tag → IsFitKey key → HasNoNul value → Fit (T.with_attribute tag key value)
with_pair tag key value h k v =
    cond_both (list_any (λ (a : HtmlAttribute). bytes_eq a.0 key) tag.attributes) _ _ Fit (λ _. h)
    (λ m. record {
      name = h.name;
      attributes = record {
        each = each_append tag.attributes (key, value) h.attributes.each k v;
        apart = apart_append [] tag.attributes (key, value) h.attributes.apart m;
      };
    })

no_attributes : AreFit []
no_attributes = record { each = tt; apart = tt }

own_tag : (r : Raw) → Fit (T.own_end_tag r)
own_tag r = record { name = λ n. absurd (true≢false n); attributes = no_attributes }

pub after_start : (name : List ℕ) → Holds (T.after_start name)
after_start name =
    cond_both (is_among rcdata_names name) _ _ Holds (λ _. tt)
    (λ _. cond_both (is_among rawtext_names name) _ _ Holds (λ _. tt)
    (λ _. cond_both (bytes_eq name (codes "script")) _ _ Holds (λ _. tt)
    (λ _. cond_both (bytes_eq name (codes "plaintext")) _ _ Holds (λ _. tt) (λ _. tt))))

emitted : (n b : ℕ) (tag : OpenTag) (closes : Bool) → Fit tag → Good n b (T.emitted tag closes)
emitted n b tag closes h =
    pick n b tag.is_end _ _ (λ _. stay n b T.data_state (EndTag tag.name ∷ []) (tt, tt) tt)
    (λ m. stay n b (T.after_start tag.name) (StartTag tag.name tag.attributes closes ∷ []) ((h.name m, h.attributes), tt) (after_start tag.name))

to : (n b : ℕ) (s : State) → Holds s → Good n b (T.to s)
to n b s h = stay n b s [] tt h

out : (n b : ℕ) (bytes : List ℕ) (s : State) → Holds s → Good n b (T.emitting bytes s)
out n b bytes s h = stay n b s (map Character bytes) (fit_chars bytes) h

again : (n b : ℕ) (s : State) → Good n b (step s b) → Good (suc n) b (T.again_in s)
again n b s h = (tt, h)

out_again : (n b : ℕ) (bytes : List ℕ) (s : State) → Good n b (step s b) → Good (suc n) b (T.emitting_again bytes s)
out_again n b bytes s h = (fit_chars bytes, h)

-- texts

in_data : (n b : ℕ) → Good n b (step T.data_state b)
in_data n b =
    pick n b (b == 38) _ _ (λ _. to n b (T.character_reference T.data_state) tt)
    (λ _. pick n b (b == 60) _ _ (λ _. to n b T.tag_open tt) (λ _. out n b (b ∷ []) T.data_state tt))

in_raw : (n b : ℕ) (r : Raw) → Good n b (step (T.raw r) b)
in_raw n b (T.rcdata name) =
    pick n b (b == 38) _ _ (λ _. to n b (T.character_reference (T.raw (T.rcdata name))) tt)
    (λ _. pick n b (b == 60) _ _ (λ _. to n b (T.raw_less_than_sign (T.rcdata name)) tt) (λ _. out n b (char_of b) (T.raw (T.rcdata name)) tt))
in_raw n b (T.rawtext name) =
    pick n b (b == 60) _ _ (λ _. to n b (T.raw_less_than_sign (T.rawtext name)) tt) (λ _. out n b (char_of b) (T.raw (T.rawtext name)) tt)
in_raw n b T.script_data =
    pick n b (b == 60) _ _ (λ _. to n b (T.raw_less_than_sign T.script_data) tt) (λ _. out n b (char_of b) (T.raw T.script_data) tt)
in_raw n b T.script_data_escaped =
    pick n b (b == 45) _ _ (λ _. out n b (codes "-") (T.raw T.script_data_escaped_dash) tt)
    (λ _. pick n b (b == 60) _ _ (λ _. to n b (T.raw_less_than_sign T.script_data_escaped) tt) (λ _. out n b (char_of b) (T.raw T.script_data_escaped) tt))
in_raw n b T.script_data_escaped_dash =
    pick n b (b == 45) _ _ (λ _. out n b (codes "-") (T.raw T.script_data_escaped_dash_dash) tt)
    (λ _. pick n b (b == 60) _ _ (λ _. to n b (T.raw_less_than_sign T.script_data_escaped) tt) (λ _. out n b (char_of b) (T.raw T.script_data_escaped) tt))
in_raw n b T.script_data_escaped_dash_dash =
    pick n b (b == 45) _ _ (λ _. out n b (codes "-") (T.raw T.script_data_escaped_dash_dash) tt)
    (λ _. pick n b (b == 60) _ _ (λ _. to n b (T.raw_less_than_sign T.script_data_escaped) tt)
    (λ _. pick n b (b == 62) _ _ (λ _. out n b (codes ">") (T.raw T.script_data) tt) (λ _. out n b (char_of b) (T.raw T.script_data_escaped) tt)))

after_word : (buffer : List ℕ) (s u : State) → Holds s → Holds u → Holds (T.after_word buffer s u)
after_word buffer s u h k = cond_both (bytes_eq buffer (codes "script")) s u Holds (λ _. h) (λ _. k)

double_escape_start : (n b : ℕ) (buffer : List ℕ) → Good (suc n) b (step (T.script_data_double_escape_start buffer) b)
double_escape_start n b buffer =
    pick (suc n) b (ends_name b) _ _
    (λ _. out (suc n) b (b ∷ []) (T.after_word buffer T.script_data_double_escaped (T.raw T.script_data_escaped)) (after_word buffer _ _ tt tt))
    (λ _. pick (suc n) b (is_ascii_alphabetic b) _ _ (λ _. out (suc n) b (b ∷ []) (T.script_data_double_escape_start (buffer ++ to_ascii_lowercase b ∷ [])) tt)
    (λ _. again n b (T.raw T.script_data_escaped) (in_raw n b T.script_data_escaped)))

double_escaped : (n b : ℕ) → Good n b (step T.script_data_double_escaped b)
double_escaped n b =
    pick n b (b == 45) _ _ (λ _. out n b (codes "-") T.script_data_double_escaped_dash tt)
    (λ _. pick n b (b == 60) _ _ (λ _. out n b (codes "<") T.script_data_double_escaped_less_than_sign tt) (λ _. out n b (char_of b) T.script_data_double_escaped tt))

after_less : (n b : ℕ) (r : Raw) → Good (suc (suc n)) b (T.after_less_than_sign r b)
after_less n b T.script_data =
    pick (suc (suc n)) b (b == 33) _ _ (λ _. out (suc (suc n)) b (codes "<!") T.script_data_escape_start tt)
    (λ _. out_again (suc n) b (codes "<") (T.raw T.script_data) (in_raw (suc n) b T.script_data))
after_less n b T.script_data_escaped =
    pick (suc (suc n)) b (is_ascii_alphabetic b) _ _
    (λ _. out_again (suc n) b (codes "<") (T.script_data_double_escape_start []) (double_escape_start n b []))
    (λ _. out_again (suc n) b (codes "<") (T.raw T.script_data_escaped) (in_raw (suc n) b T.script_data_escaped))
after_less n b (T.rcdata name) = out_again (suc n) b (codes "<") (T.raw (T.rcdata name)) (in_raw (suc n) b (T.rcdata name))
after_less n b (T.rawtext name) = out_again (suc n) b (codes "<") (T.raw (T.rawtext name)) (in_raw (suc n) b (T.rawtext name))
after_less n b T.script_data_escaped_dash = out_again (suc n) b (codes "<") (T.raw T.script_data_escaped_dash) (in_raw (suc n) b T.script_data_escaped_dash)
after_less n b T.script_data_escaped_dash_dash =
    out_again (suc n) b (codes "<") (T.raw T.script_data_escaped_dash_dash) (in_raw (suc n) b T.script_data_escaped_dash_dash)

raw_end_tag_name : (n b : ℕ) (r : Raw) (buffer : List ℕ) → Good (suc n) b (step (T.raw_end_tag_name r buffer) b)
raw_end_tag_name n b r buffer =
    pick (suc n) b (is_white_space b && T.is_appropriate r buffer) _ _ (λ _. to (suc n) b (T.before_attribute_name (T.own_end_tag r)) (own_tag r))
    (λ _. pick (suc n) b ((b == 47) && T.is_appropriate r buffer) _ _ (λ _. to (suc n) b (T.self_closing_start_tag (T.own_end_tag r)) (own_tag r))
    (λ _. pick (suc n) b ((b == 62) && T.is_appropriate r buffer) _ _ (λ _. emitted (suc n) b (T.own_end_tag r) false (own_tag r))
    (λ _. pick (suc n) b (is_ascii_alphabetic b) _ _ (λ _. to (suc n) b (T.raw_end_tag_name r (buffer ++ b ∷ [])) tt)
    (λ _. out_again n b (codes "</" ++ buffer) (T.raw r) (in_raw n b r)))))

-- tags

with_letter : (tag : OpenTag) (b : ℕ) → Fit tag → ends_name b ≡ false → (b == 13) ≡ false → Fit (T.with_letter tag b)
with_letter tag b h e c = record {
  name = λ n. (name_longer tag.name (low b) (h.name n).0 (low_in_name b e c), lowered_append tag.name (low b) ∙ ap₂ (λ (x y : List ℕ). x ++ y) (h.name n).1 (low_stays b));
  attributes = h.attributes;
}

tag_name : (n b : ℕ) (tag : OpenTag) → (b == 13) ≡ false → Fit tag → Good n b (step (T.tag_name tag) b)
tag_name n b tag c h =
    pick n b (is_white_space b) _ _ (λ _. to n b (T.before_attribute_name tag) h)
    (λ w. pick n b (b == 47) _ _ (λ _. to n b (T.self_closing_start_tag tag) h)
    (λ s. pick n b (b == 62) _ _ (λ _. emitted n b tag false h) (λ g. to n b (T.tag_name (T.with_letter tag b)) (with_letter tag b h (none_ends b w s g) c))))

new_name : (n b : ℕ) (is_end : Bool) → is_ascii_alphabetic b ≡ true → (b == 13) ≡ false → Good n b (step (T.tag_name (T.new_tag is_end)) b)
new_name n b is_end l c =
    rw (letter_no_space b l, letter_no_solidus b l, letter_no_greater b l)
    (to n b (T.tag_name (T.with_letter (T.new_tag is_end) b)) (record { name = λ _. (low_name b l c, low_stays b); attributes = no_attributes }))

-- attributes

new_key : (n b : ℕ) (tag : OpenTag) → Fit tag → (b == 13) ≡ false → ends_name b ≡ false → (b == 61) ≡ false → Good n b (step (T.attribute_name tag []) b)
new_key n b tag h c e q =
    rw (e, q) (to n b (T.attribute_name tag (char_of (to_ascii_lowercase b))) (h, low_key b e q c))

char_set : (b : ℕ) → HasNoNul (char_of b)
char_set b = elim (cases_Bool (b == 0)) [
  | inl y ↦ rw (eqb-true b 0 y) refl
  | inr z ↦ subst HasNoNul (sym (ap (λ v. if v then replacement else b ∷ []) z)) (and_from _ _ (ap not z) refl)
]

before_attribute_name : (n b : ℕ) → (b == 13) ≡ false → (tag : OpenTag) → Fit tag → Good (suc n) b (step (T.before_attribute_name tag) b)
before_attribute_name n b c tag h =
    pick (suc n) b (is_white_space b) _ _ (λ _. to (suc n) b (T.before_attribute_name tag) h)
    (λ w. pick (suc n) b (b == 47) _ _ (λ _. to (suc n) b (T.self_closing_start_tag tag) h)
    (λ s. pick (suc n) b (b == 62) _ _ (λ _. emitted (suc n) b tag false h)
    (λ g. pick (suc n) b (b == 61) _ _ (λ q. to (suc n) b (T.attribute_name tag (b ∷ [])) (h, equals_key b q))
    (λ q. again n b (T.attribute_name tag []) (new_key n b tag h c (none_ends b w s g) q)))))

after_key : (n b : ℕ) → (b == 13) ≡ false → (tag : OpenTag) (key : List ℕ) → Fit tag → IsFitKey key → Good (suc n) b (step (T.after_attribute_name tag key) b)
after_key n b c tag key h k =
    pick (suc n) b (is_white_space b) _ _ (λ _. to (suc n) b (T.after_attribute_name tag key) (h, k))
    (λ w. pick (suc n) b (b == 47) _ _ (λ _. to (suc n) b (T.self_closing_start_tag (T.with_attribute tag key [])) (with_pair tag key [] h k refl))
    (λ s. pick (suc n) b (b == 61) _ _ (λ _. to (suc n) b (T.before_attribute_value tag key) (h, k))
    (λ q. pick (suc n) b (b == 62) _ _ (λ _. emitted (suc n) b (T.with_attribute tag key []) false (with_pair tag key [] h k refl))
    (λ g. again n b (T.attribute_name (T.with_attribute tag key []) [])
    (new_key n b (T.with_attribute tag key []) (with_pair tag key [] h k refl) c (none_ends b w s g) q)))))

-- after a key that this byte ends
ended_key : (n b : ℕ) (tag : OpenTag) (key : List ℕ) → Fit tag → IsFitKey key → ends_name b ≡ true → Good n b (step (T.after_attribute_name tag key) b)
ended_key n b tag key h k e =
    pick n b (is_white_space b) _ _ (λ _. to n b (T.after_attribute_name tag key) (h, k))
    (λ w. pick n b (b == 47) _ _ (λ _. to n b (T.self_closing_start_tag (T.with_attribute tag key [])) (with_pair tag key [] h k refl))
    (λ s. pick n b (b == 61) _ _ (λ _. to n b (T.before_attribute_value tag key) (h, k))
    (λ q. pick n b (b == 62) _ _ (λ _. emitted n b (T.with_attribute tag key []) false (with_pair tag key [] h k refl))
    (λ g. absurd (true≢false (sym e ∙ none_ends b w s g))))))

attribute_name : (n b : ℕ) → (b == 13) ≡ false → (tag : OpenTag) (key : List ℕ) → Fit tag → IsFitKey key → Good (suc n) b (step (T.attribute_name tag key) b)
attribute_name n b c tag key h k =
    pick (suc n) b (ends_name b) _ _ (λ e. again n b (T.after_attribute_name tag key) (ended_key n b tag key h k e))
    (λ e. pick (suc n) b (b == 61) _ _ (λ _. to (suc n) b (T.before_attribute_value tag key) (h, k))
    (λ q. to (suc n) b (T.attribute_name tag (key ++ char_of (to_ascii_lowercase b))) (h, fit_longer key (low b) k (low_in_key b e q c) (low_stays b))))

double_quoted : (n b : ℕ) (tag : OpenTag) (key value : List ℕ) → Fit tag → IsFitKey key → HasNoNul value → Good n b (step (T.double_quoted tag key value) b)
double_quoted n b tag key value h k v =
    pick n b (b == 34) _ _ (λ _. to n b (T.after_attribute_value (T.with_attribute tag key value)) (with_pair tag key value h k v))
    (λ _. pick n b (b == 38) _ _ (λ _. to n b (T.character_reference (T.double_quoted tag key value)) (h, k, v)) (λ _. to n b (T.double_quoted tag key (value ++ char_of b)) (h, k, both_all not_zero value (char_of b) v (char_set b))))

single_quoted : (n b : ℕ) (tag : OpenTag) (key value : List ℕ) → Fit tag → IsFitKey key → HasNoNul value → Good n b (step (T.single_quoted tag key value) b)
single_quoted n b tag key value h k v =
    pick n b (b == 39) _ _ (λ _. to n b (T.after_attribute_value (T.with_attribute tag key value)) (with_pair tag key value h k v))
    (λ _. pick n b (b == 38) _ _ (λ _. to n b (T.character_reference (T.single_quoted tag key value)) (h, k, v)) (λ _. to n b (T.single_quoted tag key (value ++ char_of b)) (h, k, both_all not_zero value (char_of b) v (char_set b))))

unquoted : (n b : ℕ) (tag : OpenTag) (key value : List ℕ) → Fit tag → IsFitKey key → HasNoNul value → Good n b (step (T.unquoted tag key value) b)
unquoted n b tag key value h k v =
    pick n b (is_white_space b) _ _ (λ _. to n b (T.before_attribute_name (T.with_attribute tag key value)) (with_pair tag key value h k v))
    (λ _. pick n b (b == 38) _ _ (λ _. to n b (T.character_reference (T.unquoted tag key value)) (h, k, v))
    (λ _. pick n b (b == 62) _ _ (λ _. emitted n b (T.with_attribute tag key value) false (with_pair tag key value h k v))
    (λ _. to n b (T.unquoted tag key (value ++ char_of b)) (h, k, both_all not_zero value (char_of b) v (char_set b)))))

before_value : (n b : ℕ) (tag : OpenTag) (key : List ℕ) → Fit tag → IsFitKey key → Good (suc n) b (step (T.before_attribute_value tag key) b)
before_value n b tag key h k =
    pick (suc n) b (is_white_space b) _ _ (λ _. to (suc n) b (T.before_attribute_value tag key) (h, k))
    (λ _. pick (suc n) b (b == 34) _ _ (λ _. to (suc n) b (T.double_quoted tag key []) (h, k, refl))
    (λ _. pick (suc n) b (b == 39) _ _ (λ _. to (suc n) b (T.single_quoted tag key []) (h, k, refl))
    (λ _. pick (suc n) b (b == 62) _ _ (λ _. emitted (suc n) b (T.with_attribute tag key []) false (with_pair tag key [] h k refl))
    (λ _. again n b (T.unquoted tag key []) (unquoted n b tag key [] h k refl)))))

after_value : (n b : ℕ) → (b == 13) ≡ false → (tag : OpenTag) → Fit tag → Good (suc (suc n)) b (step (T.after_attribute_value tag) b)
after_value n b c tag h =
    pick (suc (suc n)) b (is_white_space b) _ _ (λ _. to (suc (suc n)) b (T.before_attribute_name tag) h)
    (λ _. pick (suc (suc n)) b (b == 47) _ _ (λ _. to (suc (suc n)) b (T.self_closing_start_tag tag) h)
    (λ _. pick (suc (suc n)) b (b == 62) _ _ (λ _. emitted (suc (suc n)) b tag false h)
    (λ _. again (suc n) b (T.before_attribute_name tag) (before_attribute_name n b c tag h))))

self_closing : (n b : ℕ) → (b == 13) ≡ false → (tag : OpenTag) → Fit tag → Good (suc (suc n)) b (step (T.self_closing_start_tag tag) b)
self_closing n b c tag h =
    pick (suc (suc n)) b (b == 62) _ _ (λ _. emitted (suc (suc n)) b tag true h)
    (λ _. again (suc n) b (T.before_attribute_name tag) (before_attribute_name n b c tag h))

-- comments

-- how a byte goes on in a comment, whatever the state in it
comment_holds : (s : State) → is_inside s ≡ true → Comes s (inside s) → Holds s
comment_holds T.comment_start i h = h
comment_holds T.comment_start_dash i h = h
comment_holds (T.comment x) i h = h
comment_holds (T.comment_less_than_sign x) i h = h
comment_holds (T.comment_less_than_sign_bang x) i h = h
comment_holds (T.comment_less_than_sign_bang_dash x) i h = h
comment_holds (T.comment_less_than_sign_bang_dash_dash x) i h = h
comment_holds (T.comment_end_dash x) i h = h
comment_holds (T.comment_end x) i h = h
comment_holds (T.comment_end_bang x) i h = h
comment_holds _ i h = absurd (true≢false (sym i))

holds_comment : (s : State) → is_inside s ≡ true → Holds s → Comes s (inside s)
holds_comment T.comment_start i h = h
holds_comment T.comment_start_dash i h = h
holds_comment (T.comment x) i h = h
holds_comment (T.comment_less_than_sign x) i h = h
holds_comment (T.comment_less_than_sign_bang x) i h = h
holds_comment (T.comment_less_than_sign_bang_dash x) i h = h
holds_comment (T.comment_less_than_sign_bang_dash_dash x) i h = h
holds_comment (T.comment_end_dash x) i h = h
holds_comment (T.comment_end x) i h = h
holds_comment (T.comment_end_bang x) i h = h
holds_comment _ i h = absurd (true≢false (sym i))

-- a whole step: what it emits, and where it goes
Goes : Step → Type 0
Goes x = AreAllFit x.emits × Holds x.next

led_goes : (s : State) (x : List ℕ) (b : ℕ) → Leads s x b → Goes (whole_step s b)
unfolding Goes
led_goes s x b l =
    subst (λ (y : Step). AreAllFit y.emits × Holds y.next) (sym l.step_is)
    (tt, comment_holds l.next l.comes.within (subst (Comes l.next) (sym l.comes.is) l.comes))

ends_goes : (s : State) (x : List ℕ) → Ends s x → Goes (whole_step s 62)
unfolding Goes
ends_goes s x (ended y e w) = subst (λ (z : Step). AreAllFit z.emits × Holds z.next) (sym e) ((w, tt), tt)
ends_goes s x (led l) = led_goes s x 62 l

comment_goes : (s : State) (b : ℕ) → is_inside s ≡ true → (b == 13) ≡ false → Holds s → Goes (whole_step s b)
comment_goes s b i c h =
    let own = holds_comment s i h in
    elim (cases_Bool (b == 62)) [
      | inl y ↦ subst (λ (v : ℕ). Goes (whole_step s v)) (sym (eqb-true b 62 y)) (ends_goes s (inside s) (greater s (inside s) own))
      | inr g ↦ led_goes s (inside s) b (any_leads s (inside s) b c g own)
    ]

bogus : (n b : ℕ) (bytes : List ℕ) → (b == 13) ≡ false → IsOpen bytes → Good n b (step (T.bogus_comment bytes) b)
bogus n b bytes c h =
    pick n b (b == 62) _ _ (λ _. stay n b T.data_state (CommentToken bytes ∷ []) (open_written bytes h, tt) tt)
    (λ g. to n b (T.bogus_comment (bytes ++ char_of b)) (open_next bytes b c g h))

low_bogus : (b : ℕ) → is_bogus (to_ascii_lowercase b) ≡ true → is_bogus b ≡ true
low_bogus b h = elim (cases_Bool (is_bogus b)) [
  | inl y ↦ y
  | inr n ↦ elim (cases_Bool (b == 62)) [
    | inl y ↦ absurd (true≢false (sym h ∙ ap (λ c. is_bogus (to_ascii_lowercase c)) (eqb-true b 62 y)))
    | inr g ↦ elim (cases_Bool (b == 13)) [
      | inl y ↦ absurd (true≢false (sym h ∙ ap (λ c. is_bogus (to_ascii_lowercase c)) (eqb-true b 13 y)))
      | inr c ↦ elim (cases_Bool (b == 0)) [
        | inl y ↦ absurd (true≢false (sym h ∙ ap (λ c. is_bogus (to_ascii_lowercase c)) (eqb-true b 0 y)))
        | inr z ↦ rw (g, c, z) refl
      ]
    ]
  ]
]

all_low : (w : List ℕ) → list_all is_bogus (map to_ascii_lowercase w) ≡ true → list_all is_bogus w ≡ true
all_low [] h = refl
all_low (b ∷ w) h =
    let p = and_parts (is_bogus (to_ascii_lowercase b)) (list_all is_bogus (map to_ascii_lowercase w)) h in
    and_from _ _ (low_bogus b p.0) (all_low w p.1)

open_low : (w : List ℕ) → list_all is_bogus (map to_ascii_lowercase w) ≡ true → IsOpen w
open_low w h = open_all [] w nothing_open (all_low w h)

pub prefix_all : (p : ℕ → Bool) (w v : List ℕ) → list_all p w ≡ true → starts_with ◌==◌ w v ≡ true → list_all p v ≡ true
prefix_all p w [] h s = refl
prefix_all p [] (c ∷ v) h s = absurd (true≢false (sym s))
prefix_all p (b ∷ w) (c ∷ v) h s =
    let q = and_parts (p b) (list_all p w) h in
    let e = and_parts (c == b) (starts_with ◌==◌ w v) s in
    and_from _ _ (ap p (eqb-true c b e.0) ∙ q.0) (prefix_all p w v q.1 e.1)

declaration : (n b : ℕ) (buffer : List ℕ) → (b == 13) ≡ false → list_all is_bogus (map to_ascii_lowercase buffer) ≡ true → Good (suc n) b (step (T.markup_declaration_open buffer) b)
declaration n b buffer c h =
    let more : List ℕ = map to_ascii_lowercase (buffer ++ b ∷ []) in
    pick (suc n) b (bytes_eq (buffer ++ b ∷ []) (codes "--")) _ _ (λ _. to (suc n) b T.comment_start nothing_comes)
    (λ _. pick (suc n) b (bytes_eq more (codes "doctype")) _ _ (λ _. to (suc n) b T.doctype tt)
    (λ _. pick (suc n) b (T.begins (codes "--") (buffer ++ b ∷ []) || T.begins (codes "doctype") (buffer ++ b ∷ [])) _ _
    (λ o. to (suc n) b (T.markup_declaration_open (buffer ++ b ∷ []))
    (elim (cases_Bool (T.begins (codes "--") (buffer ++ b ∷ []))) [
      | inl y ↦ prefix_all is_bogus (codes "--") more refl y
      | inr m ↦ prefix_all is_bogus (codes "doctype") more refl (rw m at o)
    ]))
    (λ _. again n b (T.bogus_comment buffer) (bogus n b buffer c (open_low buffer h)))))

-- references

flushed : (n b : ℕ) (s : State) (bytes : List ℕ) → HasNoNul bytes → Returns s → Good n b (T.flushed s bytes false)
flushed n b T.data_state bytes g h = out n b bytes T.data_state tt
flushed n b (T.raw r) bytes g h = out n b bytes (T.raw r) tt
flushed n b (T.double_quoted tag key value) bytes g h = to n b (T.double_quoted tag key (value ++ bytes)) (h.0, h.1, both_all not_zero value bytes h.2 g)
flushed n b (T.single_quoted tag key value) bytes g h = to n b (T.single_quoted tag key (value ++ bytes)) (h.0, h.1, both_all not_zero value bytes h.2 g)
flushed n b (T.unquoted tag key value) bytes g h = to n b (T.unquoted tag key (value ++ bytes)) (h.0, h.1, both_all not_zero value bytes h.2 g)
flushed n b _ bytes g h = absurd h

flushed_again : (n b : ℕ) (s : State) (bytes : List ℕ) → HasNoNul bytes → Returns s → Good (suc n) b (T.flushed s bytes true)
flushed_again n b T.data_state bytes g h = out_again n b bytes T.data_state (in_data n b)
flushed_again n b (T.raw r) bytes g h = out_again n b bytes (T.raw r) (in_raw n b r)
flushed_again n b (T.double_quoted tag key value) bytes g h =
    again n b (T.double_quoted tag key (value ++ bytes)) (double_quoted n b tag key (value ++ bytes) h.0 h.1 (both_all not_zero value bytes h.2 g))
flushed_again n b (T.single_quoted tag key value) bytes g h =
    again n b (T.single_quoted tag key (value ++ bytes)) (single_quoted n b tag key (value ++ bytes) h.0 h.1 (both_all not_zero value bytes h.2 g))
flushed_again n b (T.unquoted tag key value) bytes g h =
    again n b (T.unquoted tag key (value ++ bytes)) (unquoted n b tag key (value ++ bytes) h.0 h.1 (both_all not_zero value bytes h.2 g))
flushed_again n b _ bytes g h = absurd h

flushed_either : (n b : ℕ) (s : State) (bytes : List ℕ) (v : Bool) → HasNoNul bytes → Returns s → Good (suc n) b (T.flushed s bytes v)
flushed_either n b s bytes true g h = flushed_again n b s bytes g h
flushed_either n b s bytes false g h = flushed (suc n) b s bytes g h

letter_set : (b : ℕ) → is_ascii_alphanumeric b ≡ true → (b == 0) ≡ false
letter_set b h = grind arith

hexdigit_set : (b : ℕ) → to_ascii_lowercase b == 120 ≡ true → (b == 0) ≡ false
hexdigit_set b h = elim (cases_Bool (b == 0)) [
  | inl y ↦ absurd (true≢false (sym h ∙ ap (λ c. to_ascii_lowercase c == 120) (eqb-true b 0 y)))
  | inr z ↦ z
]

one_more : (w : List ℕ) (b : ℕ) → HasNoNul w → (b == 0) ≡ false → HasNoNul (w ++ b ∷ [])
one_more w b h z = both_all not_zero w (b ∷ []) h (and_from _ _ (ap not z) refl)

named_letter : (n b : ℕ) (s : State) → Returns s → is_ascii_alphanumeric b ≡ true → Good n b (step (T.named_character_reference s []) b)
named_letter n b s h l = rw l (to n b (T.named_character_reference s (b ∷ [])) (h, one_more [] b refl (letter_set b l)))

named : (n b : ℕ) (s : State) (buffer : List ℕ) → Returns s → HasNoNul buffer → Good (suc n) b (step (T.named_character_reference s buffer) b)
named n b s buffer h g =
    pick (suc n) b (is_ascii_alphanumeric b) _ _ (λ l. to (suc n) b (T.named_character_reference s (buffer ++ b ∷ [])) (h, one_more buffer b g (letter_set b l)))
    (λ _. pick (suc n) b (b == 59) _ _
    (λ y. flushed (suc n) b s (named_value (T.is_value s) (buffer ++ b ∷ []) []) (named_has_none (T.is_value s) (buffer ++ b ∷ []) [] (one_more buffer b g (ap (λ c. c == 0) (eqb-true b 59 y)))) h)
    (λ _. flushed_again n b s (named_value (T.is_value s) buffer (b ∷ [])) (named_has_none (T.is_value s) buffer (b ∷ []) g) h))

reference : (n b : ℕ) (s : State) → Returns s → Good (suc n) b (step (T.character_reference s) b)
reference n b s h =
    pick (suc n) b (is_ascii_alphanumeric b) _ _ (λ l. again n b (T.named_character_reference s []) (named_letter n b s h l))
    (λ _. pick (suc n) b (b == 35) _ _ (λ _. to (suc n) b (T.numeric_character_reference s) h) (λ _. flushed_again n b s (codes "&") refl h))

hexadecimal : (n b : ℕ) (s : State) (code : ℕ) → Returns s → Good (suc n) b (step (T.hexadecimal s code) b)
hexadecimal n b s code h =
    pick (suc n) b (is_ascii_hexdigit b) _ _ (λ _. to (suc n) b (T.hexadecimal s (code * 16 + T.digit_value b)) h)
    (λ _. flushed_either n b s (number_value code) (not (b == 59)) (number_has_none code) h)

decimal : (n b : ℕ) (s : State) (code : ℕ) → Returns s → Good (suc n) b (step (T.decimal s code) b)
decimal n b s code h =
    pick (suc n) b (is_ascii_digit b) _ _ (λ _. to (suc n) b (T.decimal s (code * 10 + T.digit_value b)) h)
    (λ _. flushed_either n b s (number_value code) (not (b == 59)) (number_has_none code) h)

hexadecimal_digit : (n b : ℕ) (s : State) → Returns s → is_ascii_hexdigit b ≡ true → Good n b (step (T.hexadecimal s 0) b)
hexadecimal_digit n b s h l =
    pick n b (is_ascii_hexdigit b) _ _ (λ _. to n b (T.hexadecimal s (0 * 16 + T.digit_value b)) h) (λ m. absurd (true≢false (sym l ∙ m)))

decimal_digit : (n b : ℕ) (s : State) → Returns s → is_ascii_digit b ≡ true → Good n b (step (T.decimal s 0) b)
decimal_digit n b s h l =
    pick n b (is_ascii_digit b) _ _ (λ _. to n b (T.decimal s (0 * 10 + T.digit_value b)) h) (λ m. absurd (true≢false (sym l ∙ m)))

mark : (x : ℕ) → (x == 0) ≡ false → HasNoNul (codes "&#" ++ x ∷ [])
mark x z = one_more (codes "&#") x refl z

hexadecimal_start : (n b : ℕ) (s : State) (x : ℕ) → Returns s → (x == 0) ≡ false → Good (suc n) b (step (T.hexadecimal_start s x) b)
hexadecimal_start n b s x h z =
    pick (suc n) b (is_ascii_hexdigit b) _ _ (λ l. again n b (T.hexadecimal s 0) (hexadecimal_digit n b s h l))
    (λ _. flushed_again n b s (codes "&#" ++ x ∷ []) (mark x z) h)

decimal_start : (n b : ℕ) (s : State) → Returns s → Good (suc n) b (step (T.decimal_start s) b)
decimal_start n b s h =
    pick (suc n) b (is_ascii_digit b) _ _ (λ l. again n b (T.decimal s 0) (decimal_digit n b s h l)) (λ _. flushed_again n b s (codes "&#") refl h)

numeric : (n b : ℕ) (s : State) → Returns s → Good (suc (suc n)) b (step (T.numeric_character_reference s) b)
numeric n b s h =
    pick (suc (suc n)) b (to_ascii_lowercase b == 120) _ _ (λ y. to (suc (suc n)) b (T.hexadecimal_start s b) (h, hexdigit_set b y))
    (λ _. again (suc n) b (T.decimal_start s) (decimal_start n b s h))

-- each state

step_good : (s : State) (b : ℕ) → is_inside s ≡ false → (b == 13) ≡ false → Holds s → Good 2 b (step s b)
step_good T.data_state b i c h = in_data 2 b
step_good (T.raw r) b i c h = in_raw 2 b r
step_good T.plaintext b i c h = out 2 b (char_of b) T.plaintext tt
step_good T.tag_open b i c h =
    pick 2 b (b == 33) _ _ (λ _. to 2 b (T.markup_declaration_open []) refl)
    (λ _. pick 2 b (b == 47) _ _ (λ _. to 2 b T.end_tag_open tt)
    (λ _. pick 2 b (is_ascii_alphabetic b) _ _ (λ l. again 1 b (T.tag_name (T.new_tag false)) (new_name 1 b false l c))
    (λ _. pick 2 b (b == 63) _ _ (λ _. again 1 b (T.bogus_comment []) (bogus 1 b [] c nothing_open))
    (λ _. out_again 1 b (codes "<") T.data_state (in_data 1 b)))))
step_good T.end_tag_open b i c h =
    pick 2 b (is_ascii_alphabetic b) _ _ (λ l. again 1 b (T.tag_name (T.new_tag true)) (new_name 1 b true l c))
    (λ _. pick 2 b (b == 62) _ _ (λ _. to 2 b T.data_state tt) (λ _. again 1 b (T.bogus_comment []) (bogus 1 b [] c nothing_open)))
step_good (T.tag_name tag) b i c h = tag_name 2 b tag c h
step_good (T.raw_less_than_sign r) b i c h = pick 2 b (b == 47) _ _ (λ _. to 2 b (T.raw_end_tag_open r) tt) (λ _. after_less 0 b r)
step_good (T.raw_end_tag_open r) b i c h =
    pick 2 b (is_ascii_alphabetic b) _ _ (λ _. again 1 b (T.raw_end_tag_name r []) (raw_end_tag_name 0 b r []))
    (λ _. out_again 1 b (codes "</") (T.raw r) (in_raw 1 b r))
step_good (T.raw_end_tag_name r buffer) b i c h = raw_end_tag_name 1 b r buffer
step_good T.script_data_escape_start b i c h =
    pick 2 b (b == 45) _ _ (λ _. out 2 b (codes "-") T.script_data_escape_start_dash tt) (λ _. again 1 b (T.raw T.script_data) (in_raw 1 b T.script_data))
step_good T.script_data_escape_start_dash b i c h =
    pick 2 b (b == 45) _ _ (λ _. out 2 b (codes "-") (T.raw T.script_data_escaped_dash_dash) tt) (λ _. again 1 b (T.raw T.script_data) (in_raw 1 b T.script_data))
step_good (T.script_data_double_escape_start buffer) b i c h = double_escape_start 1 b buffer
step_good T.script_data_double_escaped b i c h = double_escaped 2 b
step_good T.script_data_double_escaped_dash b i c h =
    pick 2 b (b == 45) _ _ (λ _. out 2 b (codes "-") T.script_data_double_escaped_dash_dash tt)
    (λ _. pick 2 b (b == 60) _ _ (λ _. out 2 b (codes "<") T.script_data_double_escaped_less_than_sign tt) (λ _. out 2 b (char_of b) T.script_data_double_escaped tt))
step_good T.script_data_double_escaped_dash_dash b i c h =
    pick 2 b (b == 45) _ _ (λ _. out 2 b (codes "-") T.script_data_double_escaped_dash_dash tt)
    (λ _. pick 2 b (b == 60) _ _ (λ _. out 2 b (codes "<") T.script_data_double_escaped_less_than_sign tt)
    (λ _. pick 2 b (b == 62) _ _ (λ _. out 2 b (codes ">") (T.raw T.script_data) tt) (λ _. out 2 b (char_of b) T.script_data_double_escaped tt)))
step_good T.script_data_double_escaped_less_than_sign b i c h =
    pick 2 b (b == 47) _ _ (λ _. out 2 b (codes "/") (T.script_data_double_escape_end []) tt) (λ _. again 1 b T.script_data_double_escaped (double_escaped 1 b))
step_good (T.script_data_double_escape_end buffer) b i c h =
    pick 2 b (ends_name b) _ _
    (λ _. out 2 b (b ∷ []) (T.after_word buffer (T.raw T.script_data_escaped) T.script_data_double_escaped) (after_word buffer _ _ tt tt))
    (λ _. pick 2 b (is_ascii_alphabetic b) _ _ (λ _. out 2 b (b ∷ []) (T.script_data_double_escape_end (buffer ++ to_ascii_lowercase b ∷ [])) tt)
    (λ _. again 1 b T.script_data_double_escaped (double_escaped 1 b)))
step_good (T.before_attribute_name tag) b i c h = before_attribute_name 1 b c tag h
step_good (T.attribute_name tag key) b i c h = attribute_name 1 b c tag key h.0 h.1
step_good (T.after_attribute_name tag key) b i c h = after_key 1 b c tag key h.0 h.1
step_good (T.before_attribute_value tag key) b i c h = before_value 1 b tag key h.0 h.1
step_good (T.double_quoted tag key value) b i c h = double_quoted 2 b tag key value h.0 h.1 h.2
step_good (T.single_quoted tag key value) b i c h = single_quoted 2 b tag key value h.0 h.1 h.2
step_good (T.unquoted tag key value) b i c h = unquoted 2 b tag key value h.0 h.1 h.2
step_good (T.after_attribute_value tag) b i c h = after_value 0 b c tag h
step_good (T.self_closing_start_tag tag) b i c h = self_closing 0 b c tag h
step_good (T.bogus_comment bytes) b i c h = bogus 2 b bytes c h
step_good (T.markup_declaration_open buffer) b i c h = declaration 1 b buffer c h
step_good T.comment_start b i c h = absurd (true≢false i)
step_good T.comment_start_dash b i c h = absurd (true≢false i)
step_good (T.comment bytes) b i c h = absurd (true≢false i)
step_good (T.comment_less_than_sign bytes) b i c h = absurd (true≢false i)
step_good (T.comment_less_than_sign_bang bytes) b i c h = absurd (true≢false i)
step_good (T.comment_less_than_sign_bang_dash bytes) b i c h = absurd (true≢false i)
step_good (T.comment_less_than_sign_bang_dash_dash bytes) b i c h = absurd (true≢false i)
step_good (T.comment_end_dash bytes) b i c h = absurd (true≢false i)
step_good (T.comment_end bytes) b i c h = absurd (true≢false i)
step_good (T.comment_end_bang bytes) b i c h = absurd (true≢false i)
step_good T.doctype b i c h = pick 2 b (b == 62) _ _ (λ _. stay 2 b T.data_state (DoctypeToken ∷ []) (tt, tt) tt) (λ _. to 2 b T.doctype tt)
step_good (T.character_reference s) b i c h = reference 1 b s h
step_good (T.named_character_reference s buffer) b i c h = named 1 b s buffer h.0 h.1
step_good (T.numeric_character_reference s) b i c h = numeric 0 b s h
step_good (T.hexadecimal_start s x) b i c h = hexadecimal_start 1 b s x h.0 h.1
step_good (T.decimal_start s) b i c h = decimal_start 1 b s h
step_good (T.hexadecimal s code) b i c h = hexadecimal 1 b s code h
step_good (T.decimal s code) b i c h = decimal 1 b s code h

-- a whole step

pub append_fit : (ts us : List HtmlToken) → AreAllFit ts → AreAllFit us → AreAllFit (ts ++ us)
append_fit [] us h k = k
append_fit (t ∷ ts) us h k = (h.0, append_fit ts us h.1 k)

settled_good : (n b : ℕ) (x : Step) → Good n b x → Good zero b (settled (suc n) x b)
settled_good zero b x h = rw h.1 (h.0, refl, h.2)
settled_good (suc n) b x h = elim (cases_Bool x.again) [
  | inl y ↦ (
      let more : Good n b (step x.next b) = rw y at h.1 in
      let r = settled_good n b (step x.next b) more in
      rw y (append_fit x.emits (settled (suc n) (step x.next b) b).emits h.0 r.0, r.1, r.2))
  | inr m ↦ (let here : Holds x.next = rw m at h.1 in rw m (h.0, refl, here))
]

pub whole_goes : (s : State) (b : ℕ) → (b == 13) ≡ false → Holds s → AreAllFit (whole_step s b).emits × Holds (whole_step s b).next
unfolding Goes
whole_goes s b c h = elim (cases_Bool (is_inside s)) [
  | inl i ↦ comment_goes s b i c h
  | inr i ↦ (let w = settled_good 2 b (step s b) (step_good s b i c h) in (w.0, w.2))
]

flushed_fit : (s : State) (bytes : List ℕ) → HasNoNul bytes → Returns s → AreAllFit (T.flushed s bytes false).emits
flushed_fit s bytes g h = (flushed zero 0 s bytes g h).0

pub end_fit : (s : State) → Holds s → AreAllFit (T.at_end s)
end_fit T.tag_open h = (tt, tt)
end_fit T.end_tag_open h = fit_chars (codes "</")
end_fit (T.raw_less_than_sign r) h = fit_chars (codes "<")
end_fit (T.raw_end_tag_open r) h = fit_chars (codes "</")
end_fit (T.raw_end_tag_name r buffer) h = fit_chars (codes "</" ++ buffer)
end_fit (T.bogus_comment bytes) h = (open_written bytes h, tt)
end_fit (T.markup_declaration_open buffer) h = (open_written buffer (open_low buffer h), tt)
end_fit T.comment_start h = (comes_written T.comment_start [] h, tt)
end_fit T.comment_start_dash h = (comes_written T.comment_start [] nothing_comes, tt)
end_fit (T.comment x) h = (comes_written (T.comment x) x h, tt)
end_fit (T.comment_less_than_sign x) h = (comes_written (T.comment_less_than_sign x) x h, tt)
end_fit (T.comment_less_than_sign_bang x) h = (comes_written (T.comment_less_than_sign_bang x) x h, tt)
end_fit (T.comment_less_than_sign_bang_dash x) h = (h.ends, tt)
end_fit (T.comment_less_than_sign_bang_dash_dash x) h = (h.ends, tt)
end_fit (T.comment_end_dash x) h = (h.ends, tt)
end_fit (T.comment_end x) h = (h.ends, tt)
end_fit (T.comment_end_bang x) h = (h.ends, tt)
end_fit T.doctype h = (tt, tt)
end_fit (T.character_reference s) h = flushed_fit s (codes "&") refl h
end_fit (T.named_character_reference s buffer) h = flushed_fit s (named_value (T.is_value s) buffer []) (named_has_none (T.is_value s) buffer [] h.1) h.0
end_fit (T.numeric_character_reference s) h = flushed_fit s (codes "&#") refl h
end_fit (T.hexadecimal_start s x) h = flushed_fit s (codes "&#" ++ x ∷ []) (mark x h.1) h.0
end_fit (T.decimal_start s) h = flushed_fit s (codes "&#") refl h
end_fit (T.hexadecimal s code) h = flushed_fit s (number_value code) (number_has_none code) h
end_fit (T.decimal s code) h = flushed_fit s (number_value code) (number_has_none code) h
end_fit _ h = tt
