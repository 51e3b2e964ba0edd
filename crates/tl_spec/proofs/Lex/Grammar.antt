-- The attributes and tokens by cases are those of the functions.
use Rattle.std.proofs.Common.{◌≡◌, ◌≢◌, ◌⊎◌, ℕ, ◌≤◌, ◌||◌, ◌==◌, Bool, true, false, not, List, [], ◌∷◌, ◌++◌, length, drop, Option, Some, None, refl, ap, sym, ◌∙◌, subst, arith, ◌↔◌, inl, inr, true≢false, if◌then◌else◌, unwrap_or}
use Rattle.std.specs.List.{list_all, prefix_len, starts_with, take_while}
use Rattle.std.specs.Prelude.{codes}
use Rattle.std.specs.Str.{str_eq_ignore_ascii_case}
use Rattle.std.proofs.lemmas.Bool.{and_parts, cases_Bool, eqb-true, eqb-false, or_parts, false_from_ne_true}
use Rattle.std.proofs.lemmas.List.{append_assoc, length-append, take-append-drop}
use Rattle.tl_spec.specs.Lex.ByteClass.{bang, ends_value, equals, greater, is_blank, is_closing, is_ident, is_name, is_quote, less, slash}
use Rattle.tl_spec.specs.Lex.Runs.{after_needle, before_rest, drop_while}
use Rattle.tl_spec.specs.Lex.Attribute.{Pair, attribute, attributes, next_attribute, optional_value, skip_blanks, skip_end, value}
use Rattle.tl_spec.specs.Lex.Grammar.{AttributeStands, AttributesStand, Begins, EndPassed, EndsWithFirst, IsRun, IsUpTo, MarkupStands, TagStands, Stops, TokenStands, ValueStands, WordStands, another, at_end, attribute_parts, bare, closing, comment_closed, comment_cut, doctype_word, end_closed, end_cut, left, markup_after, tag_parts, no_markup, no_more, no_value, other_word, passed, quoted, start_alone, start_cut, start_open, start_slash, text_up_to, word_parts}
use Rattle.tl_spec.specs.Lex.Token.{Comment, Doctype, End, Nothing, Text, Token, token_after_attributes, comment_token, declaration, doctype, end_tag, markup, next_token, token_after_slash, start_tag, word}
use Rattle.tl_spec.proofs.Lex.Bytes.{all-run, drop_while-append, drop_while-stops, take_while-append, take_while-yes}
use Rattle.tl_spec.proofs.Print.Comments.{front-append, starts_same}
use Rattle.tl_spec.proofs.Lex.Many.{IsRow, next, row-exists, row-is, stop}
use Rattle.tl_spec.proofs.Lex.Needle.{begins-no, begins-yes, after-first, first-after, no-begins, none-nowhere, nowhere-none, yes-begins}
use Rattle.tl_spec.proofs.Lex.Shrinks.{if_both, next_attribute-shrinks}

-- tests

pub if_yes : {A : Type 0} (b : Bool) (x y : A) → b ≡ true → (if b then x else y) ≡ x
if_yes b x y e = rw e refl

pub if_no : {A : Type 0} (b : Bool) (x y : A) → b ≡ false → (if b then x else y) ≡ y
if_no b x y e = rw e refl

pub differs : (b c : ℕ) → b ≢ c → (b == c) ≡ false
differs b c h = false_from_ne_true (b == c) (λ e. h (eqb-true b c e))

or_right : (x y : Bool) → y ≡ true → (x || y) ≡ true
or_right true y e = refl
or_right false y e = e

or_neither : (x y : Bool) → x ≡ false → y ≡ false → (x || y) ≡ false
or_neither x y e f = rw e f

-- runs

pub run-take : {p : ℕ → Bool} {s xs rest : List ℕ} → IsRun p s xs rest → take_while p s ≡ xs
run-take {p} {s} {xs} {rest} r = ap (take_while p) r.parts ∙ take_while-append p xs rest r.inside r.stops

pub run-drop_while : {p : ℕ → Bool} {s xs rest : List ℕ} → IsRun p s xs rest → drop_while p s ≡ rest
run-drop_while {p} {s} {xs} {rest} r = ap (drop_while p) r.parts ∙ drop_while-append p xs rest r.inside r.stops

pub run-of : (p : ℕ → Bool) (s : List ℕ) → IsRun p s (take_while p s) (drop_while p s)
run-of p s = record { parts = sym (take-append-drop (prefix_len p s) s); inside = all-run p s; stops = drop_while-stops p s }

-- a value

no_value-is : (m : List ℕ) → Stops (λ b. b == equals) m → optional_value m ≡ (None, m)
no_value-is [] h = refl
no_value-is (b ∷ s) h = if_no _ _ _ h

quoted-is : (q : ℕ) {u v e : List ℕ} → is_quote q ≡ true → IsUpTo (λ b. b == q) u v e → value (q ∷ u) ≡ (v, e)
quoted-is q h r = if_yes _ _ _ h ∙ (λ i. (run-take r i, run-drop_while r i))

bare-is : (u v e : List ℕ) → Stops is_quote u → IsUpTo ends_value u v e → value u ≡ (v, e)
bare-is [] v e h r = λ i. (run-take r i, run-drop_while r i)
bare-is (b ∷ u) v e h r = if_no _ _ _ h ∙ (λ i. (run-take r i, run-drop_while r i))

pub value-is : {m : List ℕ} {v : Option (List ℕ)} {e : List ℕ} → ValueStands m v e → optional_value m ≡ (v, e)
value-is (no_value {m = m} h) = no_value-is m h
value-is (quoted {q = q} r h w) = ap (λ (v : List ℕ × List ℕ). (Some v.0, v.1)) (ap value (run-drop_while r) ∙ quoted-is q h w)
value-is (bare {u = u} {v = v} {e = e} r h w) = ap (λ (v : List ℕ × List ℕ). (Some v.0, v.1)) (ap value (run-drop_while r) ∙ bare-is u v e h w)

valued : (s blanks u : List ℕ) → IsRun is_blank s blanks u → ValueStands (equals ∷ s) (Some (value u).0) (value u).1
valued s blanks [] r = bare r tt (run-of (λ b. not (ends_value b)) [])
valued s blanks (q ∷ u) r = if_both (λ (v : List ℕ × List ℕ). ValueStands (equals ∷ s) (Some v.0) v.1) (is_quote q) _ _
    (λ h. quoted r h (run-of (λ b. not (b == q)) u)) (λ h. bare r h (run-of (λ b. not (ends_value b)) (q ∷ u)))

pub value-stands : (m : List ℕ) → ValueStands m (optional_value m).0 (optional_value m).1
value-stands [] = no_value tt
value-stands (b ∷ s) = if_both (λ (o : Option (List ℕ) × List ℕ). ValueStands (b ∷ s) o.0 o.1) (b == equals) _ _
    (λ e. subst (λ c. ValueStands (c ∷ s) (Some (value (skip_blanks s)).0) (value (skip_blanks s)).1) (sym (eqb-true b equals e)) (valued s _ (skip_blanks s) (run-of is_blank s)))
    (λ e. no_value e)

-- the byte passed over

pub passed-is : {e rest : List ℕ} → EndPassed e rest → skip_end e ≡ rest
passed-is at_end = refl
passed-is (left {b = b} (inl e)) = if_yes _ _ _ (ap (λ c. (c == greater) || is_ident c) e)
passed-is (left {b = b} (inr e)) = if_yes _ _ _ (or_right (b == greater) (is_ident b) e)
passed-is (passed {b = b} h i) = if_no _ _ _ (or_neither (b == greater) (is_ident b) (differs b greater h) i)

pub end-passed : (e : List ℕ) → EndPassed e (skip_end e)
end-passed [] = at_end
end-passed (b ∷ s) = if_both (EndPassed (b ∷ s)) ((b == greater) || is_ident b) _ _ (λ h. left (either h)) (λ h. let n = or_parts (b == greater) (is_ident b) h in passed (eqb-false b greater n.0) n.1)
  where
    either : ((b == greater) || is_ident b) ≡ true → (b ≡ greater) ⊎ (is_ident b ≡ true)
    either h = elim (cases_Bool (b == greater)) [
      | inl y ↦ inl (eqb-true b greater y)
      | inr n ↦ inr (subst (λ x. (x || is_ident b) ≡ true) n h)
    ]

-- an attribute

pub attribute-is : {s : List ℕ} {pair : Pair} {rest : List ℕ} → AttributeStands s pair rest → attribute s ≡ (pair, rest)
attribute-is (attribute_parts {s = s} {rest = rest} key blanks v end) =
    let m = ap skip_blanks (run-drop_while key) ∙ run-drop_while blanks in
    let o = ap optional_value m ∙ value-is v in
    let passed : skip_end (optional_value (skip_blanks (drop_while is_name s))).1 ≡ rest = ap (λ (o : Option (List ℕ) × List ℕ). skip_end o.1) o ∙ passed-is end in
    λ i. ((run-take key i, (o i).0), passed i)

pub attribute-stands : (s : List ℕ) → AttributeStands s (attribute s).0 (attribute s).1
attribute-stands s =
    attribute_parts (run-of is_name s) (run-of is_blank (drop_while is_name s)) (value-stands (skip_blanks (drop_while is_name s))) (end-passed (optional_value (skip_blanks (drop_while is_name s))).1)

pub attribute-only : (s : List ℕ) (pair : Pair) (rest : List ℕ) → AttributeStands s pair rest ↔ (attribute s ≡ (pair, rest))
attribute-only s pair rest = (attribute-is, λ e. subst (λ (a : Pair × List ℕ). AttributeStands s a.0 a.1) e (attribute-stands s))

-- all attributes

attributes-row : {s rest : List ℕ} {pairs : List Pair} → AttributesStand s pairs rest → IsRow next_attribute s pairs rest
attributes-row no_more = stop refl
attributes-row (closing h) = stop (if_yes _ _ _ h)
attributes-row (another {pair = pair} h a r more) =
    next (if_no _ _ _ h ∙ ap (λ (a : Pair × List ℕ). Some (a.0, skip_blanks a.1)) (attribute-is a) ∙ ap (λ x. Some (pair, x)) (run-drop_while r)) (attributes-row more)

abbrev taken : Pair × List ℕ → Bool → Option (Pair × List ℕ)
taken a v = if v then None else Some (a.0, skip_blanks a.1)

row-stop : (s : List ℕ) → next_attribute s ≡ None → AttributesStand s [] s
row-stop [] e = no_more
row-stop (b ∷ s) e =
    let step : (v : Bool) → is_closing b ≡ v → taken (attribute (b ∷ s)) v ≡ None → AttributesStand (b ∷ s) [] (b ∷ s) = elim [
      | true ↦ λ h _. closing h
      | false ↦ λ _ e. cc
    ] in
    step (is_closing b) refl e

row-next : (s : List ℕ) (found : Pair × List ℕ) (pairs : List Pair) (rest : List ℕ) → next_attribute s ≡ Some found → AttributesStand found.1 pairs rest → AttributesStand s (found.0 ∷ pairs) rest
row-next [] found pairs rest e more = cc
row-next (b ∷ s) found pairs rest e more =
    let a : Pair × List ℕ = attribute (b ∷ s) in
    let step : (v : Bool) → is_closing b ≡ v → taken a v ≡ Some found → AttributesStand (b ∷ s) (found.0 ∷ pairs) rest = elim [
      | true ↦ λ _ e. cc
      | false ↦ λ h e.
          let is : (a.0, skip_blanks a.1) ≡ found = ap (λ (o : Option (Pair × List ℕ)). unwrap_or o found) e in
          subst (λ (f : Pair × List ℕ). AttributesStand f.1 pairs rest → AttributesStand (b ∷ s) (f.0 ∷ pairs) rest) is
          (another h (attribute-stands (b ∷ s)) (run-of is_blank a.1)) more
    ] in
    step (is_closing b) refl e

row-attributes : {s rest : List ℕ} {pairs : List Pair} → IsRow next_attribute s pairs rest → AttributesStand s pairs rest
row-attributes (stop {s = s} e) = row-stop s e
row-attributes (next {s = s} {x = x} {rest = after} {xs = pairs} {end = rest} e r) = row-next s (x, after) pairs rest e (row-attributes r)

pub attributes-is : {s rest : List ℕ} {pairs : List Pair} → AttributesStand s pairs rest → attributes s ≡ (pairs, rest)
attributes-is a = row-is next_attribute next_attribute-shrinks (attributes-row a)

pub attributes-stand : (s : List ℕ) → AttributesStand s (attributes s).0 (attributes s).1
attributes-stand s = row-attributes (row-exists next_attribute next_attribute-shrinks (length s) s (omega arith))

pub attributes-only : (s : List ℕ) (pairs : List Pair) (rest : List ℕ) → AttributesStand s pairs rest ↔ (attributes s ≡ (pairs, rest))
attributes-only s pairs rest = (attributes-is, λ e. subst (λ (a : List Pair × List ℕ). AttributesStand s a.0 a.1) e (attributes-stand s))

-- up to a `/`, a `>` or the end
attributes-end : {s rest : List ℕ} {pairs : List Pair} → AttributesStand s pairs rest → Stops (λ b. not (is_closing b)) rest
attributes-end no_more = tt
attributes-end (closing h) = ap not h
attributes-end (another h a r more) = attributes-end more

-- a start tag

module _ (whole : List ℕ) where
  name-is : {m name e : List ℕ} {pairs : List Pair} → TagStands m name pairs e → markup whole m ≡ token_after_attributes name pairs e
  name-is (tag_parts {b = b} {s = s} {name = name} {e = e} {pairs = pairs} h k n r a) =
      let all : attributes (skip_blanks (drop_while is_name (b ∷ s))) ≡ (pairs, e) = ap attributes (ap skip_blanks (run-drop_while n) ∙ run-drop_while r) ∙ attributes-is a in
      if_no _ _ _ (differs b slash h) ∙ if_no _ _ _ (differs b bang k) ∙ (λ i. token_after_attributes (run-take n i) (all i).0 (all i).1)

  -- a word after `!`

  word-is : {s w rest : List ℕ} → WordStands s w rest →
      declaration whole s ≡ (if str_eq_ignore_ascii_case w (codes "doctype") then doctype rest else (Nothing, rest))
  word-is (word_parts {s = s} {word = w} {rest = rest} h n r) =
      let after_word : skip_blanks (drop_while is_ident s) ≡ rest = ap skip_blanks (run-drop_while n) ∙ run-drop_while r in
      if_no _ _ _ (begins-no (codes "--") s h)
      ∙ (λ i. if str_eq_ignore_ascii_case (run-take n i) (codes "doctype") then doctype (after_word i) else (Nothing, after_word i))

  token_after_slash-open : (name : List ℕ) (pairs : List Pair) (s : List ℕ) → Stops (λ b. b == greater) s → token_after_slash name pairs s ≡ (Nothing, s)
  token_after_slash-open name pairs [] h = refl
  token_after_slash-open name pairs (b ∷ s) h = if_no _ _ _ h

  pub markup-is : {opening m rest : List ℕ} {k : Token} → MarkupStands opening m k rest → whole ≡ opening ++ m → markup whole m ≡ (k, rest)
  markup-is (end_closed r) e = λ i. (End (run-take r i), drop 1 (run-drop_while r i))
  markup-is (end_cut r) e = λ i. (End (run-take r i), drop 1 (run-drop_while r i))
  markup-is {opening = opening} (comment_closed {body = body} {rest = rest} d f) e =
      let here : whole ≡ (opening ++ bang ∷ body) ++ rest = e ∙ sym (append_assoc opening (bang ∷ body) rest) in
      if_yes _ _ _ (begins-yes (codes "--") (body ++ rest) (d.0 ++ rest, ap (λ s. s ++ rest) d.1 ∙ append_assoc (codes "--") d.0 rest))
      ∙ ap (comment_token whole) (first-after (codes "-->") (omega arith) body rest f)
      ∙ ap (λ b. (Comment b, rest)) (ap (before_rest rest) here ∙ front-append (opening ++ bang ∷ body) rest)
  markup-is (comment_cut {s = s} d f) e = if_yes _ _ _ (begins-yes (codes "--") s d) ∙ ap (comment_token whole) (nowhere-none (codes "-->") s f)
  markup-is (doctype_word {word = word} {a = a} {second = second} {c = c} w h n r) e =
      let after_second : skip_blanks (drop_while is_ident a) ≡ c = ap skip_blanks (run-drop_while n) ∙ run-drop_while r in
      word-is w ∙ if_yes _ _ _ h ∙ (λ i. (Doctype (str_eq_ignore_ascii_case (run-take n i) (codes "html")), drop 1 (after_second i)))
  markup-is (start_open n) e = name-is n
  markup-is (start_alone n) e = name-is n
  markup-is no_markup e = refl
  markup-is (other_word w h) e = word-is w ∙ if_no _ _ _ h
  markup-is (start_slash {name = name} {rest = rest} {pairs = pairs} n h) e = name-is n ∙ token_after_slash-open name pairs rest h
  markup-is (start_cut n) e = name-is n

text-is : (t xs rest : List ℕ) → xs ≢ [] → IsUpTo (λ b. b == less) t xs rest → next_token t ≡ Some (Text xs, rest)
text-is [] [] rest h r = absurd (h refl)
text-is [] (x ∷ xs) rest h r = let e = r.parts in cc
text-is (b ∷ s) [] rest h r = absurd (h refl)
text-is (b ∷ s) (x ∷ xs) rest h r =
    let first : not (x == less) ≡ true = (and_parts (not (x == less)) (list_all (λ b. not (b == less)) xs) r.inside).0 in
    let same : b ≡ x = let e = r.parts in cc in
    let fails : (b == less) ≡ false = ap (λ b. b == less) same ∙ not_true (x == less) first in
    ap (λ x. Some x) (if_no _ _ _ fails ∙ (λ i. (Text (run-take r i), run-drop_while r i)))
  where
    not_true : (v : Bool) → not v ≡ true → v ≡ false
    not_true true e = sym e
    not_true false e = refl

pub token-is : {t rest : List ℕ} {k : Token} → TokenStands t k rest → next_token t ≡ Some (k, rest)
token-is (text_up_to {t = t} {xs = xs} {rest = rest} h r) = text-is t xs rest h r
token-is (markup_after {s = s} {m = m} r h) =
    ap (λ x. Some x) (ap (markup (less ∷ s)) (run-drop_while r) ∙ markup-is (less ∷ s) h (ap (λ s. less ∷ s) r.parts))

-- and what the functions give stands there

module _ (opening : List ℕ) where
  end-stands : (s name e : List ℕ) → IsUpTo (λ b. b == greater) s name e → MarkupStands opening (slash ∷ s) (End name) (drop 1 e)
  end-stands s name [] r = end_cut r
  end-stands s name (b ∷ e) r =
      let same : b ≡ greater = eqb-true b greater (not_false (b == greater) r.stops) in
      end_closed (subst (λ b. IsUpTo (λ b. b == greater) s name (b ∷ e)) same r)
    where
      not_false : (v : Bool) → not v ≡ false → v ≡ true
      not_false true e = refl
      not_false false e = sym e

  open_stands : (m name s : List ℕ) (pairs : List Pair) → TagStands m name pairs (slash ∷ s) → MarkupStands opening m (token_after_slash name pairs s).0 (token_after_slash name pairs s).1
  open_stands m name [] pairs n = start_slash n tt
  open_stands m name (b ∷ s) pairs n = if_both (λ (v : Token × List ℕ). MarkupStands opening m v.0 v.1) (b == greater) _ _
      (λ h. start_alone (subst (λ b. TagStands m name pairs (slash ∷ b ∷ s)) (eqb-true b greater h) n))
      (λ h. start_slash n h)

  closed-stands : (m name e : List ℕ) (pairs : List Pair) → TagStands m name pairs e → Stops (λ b. not (is_closing b)) e →
      MarkupStands opening m (token_after_attributes name pairs e).0 (token_after_attributes name pairs e).1
  closed-stands m name [] pairs n h = start_cut n
  closed-stands m name (b ∷ s) pairs n h = if_both (λ (v : Token × List ℕ). MarkupStands opening m v.0 v.1) (b == greater) _ _
      (λ h. start_open (subst (λ b. TagStands m name pairs (b ∷ s)) (eqb-true b greater h) n))
      (λ g. open_stands m name s pairs (subst (λ b. TagStands m name pairs (b ∷ s)) (is_slash b g h) n))
    where
      is_slash : (b : ℕ) → (b == greater) ≡ false → not (is_closing b) ≡ false → b ≡ slash
      is_slash b g h = elim (cases_Bool (b == slash)) [
        | inl y ↦ eqb-true b slash y
        | inr n ↦ absurd (true≢false (sym (ap not (or_neither (b == slash) (b == greater) n g)) ∙ h))
      ]

  start-stands : (b : ℕ) (s : List ℕ) → b ≢ slash → b ≢ bang → MarkupStands opening (b ∷ s) (start_tag (b ∷ s)).0 (start_tag (b ∷ s)).1
  start-stands b s h k =
      let pairs = attributes-stand (skip_blanks (drop_while is_name (b ∷ s))) in
      closed-stands (b ∷ s) (take_while is_name (b ∷ s)) _ _ (tag_parts h k (run-of is_name (b ∷ s)) (run-of is_blank (drop_while is_name (b ∷ s))) pairs) (attributes-end pairs)

  comment-stands : (whole s : List ℕ) → whole ≡ opening ++ bang ∷ s → Begins (codes "--") s → (o : Option (List ℕ)) → after_needle (codes "-->") s ≡ o →
      MarkupStands opening (bang ∷ s) (comment_token whole o).0 (comment_token whole o).1
  comment-stands whole s e d None f = comment_cut d (none-nowhere (codes "-->") (omega arith) s f)
  comment-stands whole s e d (Some rest) f =
      let found = after-first (codes "-->") s rest f in
      let body : List ℕ = found.0 in
      let here : whole ≡ (opening ++ bang ∷ body) ++ rest = e ∙ ap (λ s. opening ++ bang ∷ s) found.1 ∙ sym (append_assoc opening (bang ∷ body) rest) in
      let bytes : before_rest rest whole ≡ opening ++ bang ∷ body = ap (before_rest rest) here ∙ front-append (opening ++ bang ∷ body) rest in
      subst (λ b. MarkupStands opening (bang ∷ s) (Comment b) rest) (sym bytes)
      (subst (λ s. MarkupStands opening (bang ∷ s) (Comment (opening ++ bang ∷ body)) rest) (sym found.1) (comment_closed (dashes body rest found.1 found.2) found.2))
    where
      dashes : (body rest : List ℕ) → s ≡ body ++ rest → EndsWithFirst (codes "-->") body → Begins (codes "--") body
      dashes body rest e f =
          let long : 2 ≤ length body = omega (arith, ap length f.ends.1, length-append f.ends.0 (codes "-->")) in
          yes-begins (codes "--") body (sym (starts_same (codes "--") body rest long) ∙ ap (λ s. starts_with ◌==◌ s (codes "--")) (sym e) ∙ begins-yes (codes "--") s d)

  word-stands : (s : List ℕ) → (Begins (codes "--") s → ⊥) → MarkupStands opening (bang ∷ s) (word s).0 (word s).1
  word-stands s h =
      let a : List ℕ = skip_blanks (drop_while is_ident s) in
      let stands = word_parts h (run-of is_ident s) (run-of is_blank (drop_while is_ident s)) in
      if_both (λ (v : Token × List ℕ). MarkupStands opening (bang ∷ s) v.0 v.1) (str_eq_ignore_ascii_case (take_while is_ident s) (codes "doctype")) (doctype a) (Nothing, a)
      (λ yes. doctype_word stands yes (run-of is_ident a) (run-of is_blank (drop_while is_ident a)))
      (λ fails. other_word stands fails)

  pub markup-stands : (whole m : List ℕ) → whole ≡ opening ++ m → MarkupStands opening m (markup whole m).0 (markup whole m).1
  markup-stands whole [] e = no_markup
  markup-stands whole (b ∷ s) e = if_both (λ (v : Token × List ℕ). MarkupStands opening (b ∷ s) v.0 v.1) (b == slash) _ _
      (λ h. subst (λ b. MarkupStands opening (b ∷ s) (end_tag s).0 (end_tag s).1) (sym (eqb-true b slash h)) (end-stands s _ _ (run-of (λ b. not (b == greater)) s)))
      (λ h. if_both (λ (v : Token × List ℕ). MarkupStands opening (b ∷ s) v.0 v.1) (b == bang) _ _
      (λ k. declared (eqb-true b bang k))
      (λ k. start-stands b s (eqb-false b slash h) (eqb-false b bang k)))
    where
      declared : b ≡ bang → MarkupStands opening (b ∷ s) (declaration whole s).0 (declaration whole s).1
      declared is = subst (λ b. MarkupStands opening (b ∷ s) (declaration whole s).0 (declaration whole s).1) (sym is)
          (if_both (λ (v : Token × List ℕ). MarkupStands opening (bang ∷ s) v.0 v.1) (starts_with ◌==◌ s (codes "--")) _ _
          (λ yes. comment-stands whole s (e ∙ ap (λ b. opening ++ b ∷ s) is) (yes-begins (codes "--") s yes) (after_needle (codes "-->") s) refl)
          (λ fails. word-stands s (no-begins (codes "--") s fails)))

token-stands : (b : ℕ) (s : List ℕ) (found : Token × List ℕ) → next_token (b ∷ s) ≡ Some found → TokenStands (b ∷ s) found.0 found.1
token-stands b s found e =
    subst (λ (v : Token × List ℕ). TokenStands (b ∷ s) v.0 v.1) (ap (λ o. unwrap_or o found) e)
    (if_both (λ (v : Token × List ℕ). TokenStands (b ∷ s) v.0 v.1) (b == less) _ _
    (λ h. let r = run-of is_blank s in
    subst (λ c. TokenStands (c ∷ s) (markup (b ∷ s) (skip_blanks s)).0 (markup (b ∷ s) (skip_blanks s)).1) (sym (eqb-true b less h))
    (markup_after r (markup-stands (less ∷ take_while is_blank s) (b ∷ s) (skip_blanks s) ((λ i. eqb-true b less h i ∷ s) ∙ ap (λ s. less ∷ s) r.parts))))
    (λ h. text_up_to (λ e. nonempty (take_while-yes (λ b. not (b == less)) b s (ap not h)) e) (run-of (λ b. not (b == less)) (b ∷ s))))
  where
    nonempty : {xs ys : List ℕ} → xs ≡ b ∷ ys → xs ≡ [] → ⊥
    nonempty p q = cc

pub token-there : (t : List ℕ) (k : Token) (rest : List ℕ) → next_token t ≡ Some (k, rest) → TokenStands t k rest
token-there [] k rest e = cc
token-there (b ∷ s) k rest e = token-stands b s (k, rest) e

pub token-only : (t : List ℕ) (k : Token) (rest : List ℕ) → TokenStands t k rest ↔ (next_token t ≡ Some (k, rest))
token-only t k rest = (token-is, token-there t k rest)
