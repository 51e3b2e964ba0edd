-- The simple parts of selectors by cases are those of the function.
use Rattle.std.proofs.Common.{◌≡◌, ◌≢◌, ◌⊎◌, ℕ, ◌≤◌, ◌<◌, ◌==◌, ◌||◌, Bool, true, false, List, [], ◌∷◌, ◌++◌, length, Option, Some, None, refl, ap, sym, ◌∙◌, subst, arith, inl, inr, if◌then◌else◌, option_map}
use Rattle.std.specs.Prelude.{option_and_then}
use Rattle.std.specs.List.{list_all, take_while}
use Rattle.std.proofs.lemmas.Bool.{and_parts, eqb-true, eq-eqb}
use Rattle.std.proofs.lemmas.List.{length-append}
use Rattle.tl_spec.specs.Lex.ByteClass.{is_ident, is_quote}
use Rattle.tl_spec.specs.Lex.Runs.{drop_while}
use Rattle.tl_spec.specs.Lex.Grammar.{IsRun}
use Rattle.tl_spec.specs.Select.Selector.{Selector, Tag, Id, Class}
use Rattle.tl_spec.specs.Select.Text.{OpGives, equal, has_part, starts, ends, contains, ValueStands, bare, quoted, SimpleStands, id_part, class_part, all_part, tag_part, key_part, value_part}
use Rattle.tl_spec.specs.Select.Reading.{skip_byte, run_before, quote_at, value_by, value_at, AttrOperator, Equals, HasPart, StartsWith, EndsWith, Contains, with_operator, operator_of, operator_by, operator_at, bracket_by, bracket_at, simple_at}
use Rattle.tl_spec.proofs.Lex.Bytes.{not_this, drop_while-le, take_while-yes}
use Rattle.tl_spec.proofs.Lex.Grammar.{if_yes, if_no, run-take, run-drop_while, run-of}

-- options and tests

pub if_is : {A : Type 0} {x y z : A} (c : Bool) → (if c then x else y) ≡ z → ((c ≡ true) × (x ≡ z)) ⊎ ((c ≡ false) × (y ≡ z))
if_is true h = inl (refl, h)
if_is false h = inr (refl, h)

pub bind-some : {A B : Type 0} (f : A → Option B) (o : Option A) {y : B} → option_and_then f o ≡ Some y → (x : A) × (o ≡ Some x) × (f x ≡ Some y)
bind-some f None h = cc
bind-some f (Some x) h = (x, refl, h)

pub map-some : {A B : Type 0} (f : A → B) (o : Option A) {y : B} → option_map f o ≡ Some y → (x : A) × (o ≡ Some x) × (f x ≡ y)
map-some f None h = cc
map-some f (Some x) h = (x, refl, cc)

pub none_some : {A : Type 0} {x : A} (P : Type 0) → None ≡ Some x → P
none_some P h = cc

-- of a pair that is read, what holds of its parts
pub of_pair : {A : Type 0} (P : A → List ℕ → Type 0) {a : A} {r : List ℕ} {p : A × List ℕ} → Some (a, r) ≡ Some p → P a r → P p.0 p.1
of_pair {A} P {a} {r} {p} h x = let w : (a, r) ≡ p = cc in subst (λ (q : A × List ℕ). P q.0 q.1) w x

-- runs before a byte

skip_byte-some : (b : ℕ) (s : List ℕ) {rest : List ℕ} → skip_byte b s ≡ Some rest → s ≡ b ∷ rest
skip_byte-some b [] h = cc
skip_byte-some b (c ∷ s) {rest} h =
    elim (if_is (c == b) h) [
      | inl w ↦ (let e = eqb-true c b w.0 in let f = w.1 in cc)
      | inr w ↦ none_some (c ∷ s ≡ b ∷ rest) w.1
    ]

skip_byte-is : (b : ℕ) (rest : List ℕ) → skip_byte b (b ∷ rest) ≡ Some rest
skip_byte-is b rest = if_yes _ _ _ (eq-eqb b b refl)

run_before-some : (b : ℕ) (s : List ℕ) {p : List ℕ × List ℕ} → run_before b s ≡ Some p → IsRun is_ident s p.0 (b ∷ p.1)
run_before-some b s h =
    let m = map-some (λ (rest : List ℕ). (take_while is_ident s, rest)) (skip_byte b (drop_while is_ident s)) h in
    let stands = subst (IsRun is_ident s (take_while is_ident s)) (skip_byte-some b (drop_while is_ident s) m.1) (run-of is_ident s) in
    subst (λ (p : List ℕ × List ℕ). IsRun is_ident s p.0 (b ∷ p.1)) m.2 stands

run_before-is : {b : ℕ} {s i rest : List ℕ} → IsRun is_ident s i (b ∷ rest) → run_before b s ≡ Some (i, rest)
run_before-is {b} {s} {i} {rest} r = rw (run-drop_while r, skip_byte-is b rest) (rw (run-take r) refl)

-- values

quote-some : (s : List ℕ) {q : ℕ × List ℕ} → quote_at s ≡ Some q → (s ≡ q.0 ∷ q.1) × (is_quote q.0 ≡ true)
quote-some [] h = cc
quote-some (c ∷ s) {q} h =
    elim (if_is (is_quote c) h) [
      | inl w ↦ of_pair (λ (a : ℕ) (r : List ℕ). (c ∷ s ≡ a ∷ r) × (is_quote a ≡ true)) w.1 (refl, w.0)
      | inr w ↦ none_some _ w.1
    ]

value_by-some : (s : List ℕ) (o : Option (ℕ × List ℕ)) {v : List ℕ × List ℕ} → quote_at s ≡ o → value_by o s ≡ Some v → ValueStands s v.0 (93 ∷ v.1)
value_by-some s None e h = bare (run_before-some 93 s h)
value_by-some s (Some q) {v} e h =
    let b = bind-some (λ (p : List ℕ × List ℕ). option_map (λ (r : List ℕ). (p.0, r)) (skip_byte 93 p.1)) (run_before q.0 q.1) h in
    let m = map-some (λ (r : List ℕ). (b.0.0, r)) (skip_byte 93 b.0.1) b.2 in
    let t = quote-some s e in
    let inside : IsRun is_ident q.1 b.0.0 (q.0 ∷ 93 ∷ m.0) = subst (λ (x : List ℕ). IsRun is_ident q.1 b.0.0 (q.0 ∷ x)) (skip_byte-some 93 b.0.1 m.1) (run_before-some q.0 q.1 b.1) in
    subst (λ (p : List ℕ × List ℕ). ValueStands s p.0 (93 ∷ p.1)) m.2
    (subst (λ (x : List ℕ). ValueStands x b.0.0 (93 ∷ m.0)) (sym t.0) (quoted t.1 inside))

value-some : (s : List ℕ) {v : List ℕ × List ℕ} → value_at s ≡ Some v → ValueStands s v.0 (93 ∷ v.1)
value-some s h = value_by-some s (quote_at s) refl h

-- an ident byte is none of these
pub ident-not : (b c : ℕ) → is_ident b ≡ true → is_ident c ≡ false → (b == c) ≡ false
ident-not b c y n = not_this is_ident b c y n

neither : (x y : Bool) → x ≡ false → y ≡ false → (x || y) ≡ false
neither x y e f = rw e f

no_quote : (v rest : List ℕ) → list_all is_ident v ≡ true → quote_at (v ++ 93 ∷ rest) ≡ None
no_quote [] rest h = refl
no_quote (b ∷ v) rest h =
    let y = (and_parts (is_ident b) (list_all is_ident v) h).0 in
    if_no _ _ _ (neither (b == 34) (b == 39) (ident-not b 34 y refl) (ident-not b 39 y refl))

value-is : {s v rest : List ℕ} → ValueStands s v (93 ∷ rest) → value_at s ≡ Some (v, rest)
value-is {rest = rest} (bare {s = s} {v = v} r) =
    ap (λ (o : Option (ℕ × List ℕ)). value_by o s) (ap quote_at r.parts ∙ no_quote v rest r.inside) ∙ run_before-is r
value-is {rest = rest} (quoted {s = s} {v = v} {q = q} y r) =
    ap (λ (o : Option (ℕ × List ℕ)). value_by o (q ∷ s)) (if_yes _ _ _ y)
    ∙ (ap (option_and_then (λ (p : List ℕ × List ℕ). option_map (λ (r : List ℕ). (p.0, r)) (skip_byte 93 p.1))) (run_before-is r) ∙ refl)

-- ops

-- its bytes
abbrev pub spelled : AttrOperator → List ℕ
spelled Equals = 61 ∷ []
spelled HasPart = 126 ∷ 61 ∷ []
spelled StartsWith = 94 ∷ 61 ∷ []
spelled EndsWith = 36 ∷ 61 ∷ []
spelled Contains = 42 ∷ 61 ∷ []

operator_of-some : (b : ℕ) {op : AttrOperator} → operator_of b ≡ Some op → spelled op ≡ b ∷ 61 ∷ []
operator_of-some b {op} h =
    let G : Type 0 = spelled op ≡ b ∷ 61 ∷ [] in
    elim (if_is (b == 126) h) [
      | inl w ↦ (let e = eqb-true b 126 w.0 in let o : HasPart ≡ op = cc in cc (ap spelled o))
      | inr v ↦ elim (if_is (b == 94) v.1) [
        | inl w ↦ (let e = eqb-true b 94 w.0 in let o : StartsWith ≡ op = cc in cc (ap spelled o))
        | inr v ↦ elim (if_is (b == 36) v.1) [
          | inl w ↦ (let e = eqb-true b 36 w.0 in let o : EndsWith ≡ op = cc in cc (ap spelled o))
          | inr v ↦ elim (if_is (b == 42) v.1) [
            | inl w ↦ (let e = eqb-true b 42 w.0 in let o : Contains ≡ op = cc in cc (ap spelled o))
            | inr v ↦ none_some G v.1
          ]
        ]
      ]
    ]

operator_by-some : (b : ℕ) (o : Option AttrOperator) (s : List ℕ) {p : AttrOperator × List ℕ} → operator_of b ≡ o → operator_by o s ≡ Some p → b ∷ s ≡ spelled p.0 ++ p.1
operator_by-some b None s e h = cc
operator_by-some b (Some op) s {p} e h =
    let m = map-some (λ (rest : List ℕ). (op, rest)) (skip_byte 61 s) h in
    subst (λ (p : AttrOperator × List ℕ). b ∷ s ≡ spelled p.0 ++ p.1) m.2 (ap (λ s. b ∷ s) (skip_byte-some 61 s m.1) ∙ sym (ap (λ (x : List ℕ). x ++ m.0) (operator_of-some b e)))

operator_at-some : (s : List ℕ) {p : AttrOperator × List ℕ} → operator_at s ≡ Some p → s ≡ spelled p.0 ++ p.1
operator_at-some [] h = cc
operator_at-some (b ∷ s) {p} h =
    elim (if_is (b == 61) h) [
      | inl w ↦ of_pair (λ (op : AttrOperator) (rest : List ℕ). b ∷ s ≡ spelled op ++ rest) w.1 (ap (λ b. b ∷ s) (eqb-true b 61 w.0))
      | inr w ↦ operator_by-some b (operator_of b) s refl w.1
    ]

spelled-gives : (op : AttrOperator) → OpGives (spelled op) (with_operator op)
spelled-gives Equals = equal
spelled-gives HasPart = has_part
spelled-gives StartsWith = starts
spelled-gives EndsWith = ends
spelled-gives Contains = contains

-- brackets

key-is : {s k m : List ℕ} → IsRun is_ident s k m → bracket_at s ≡ bracket_by (skip_byte 93 m) k m
key-is r = λ i. bracket_by (skip_byte 93 (run-drop_while r i)) (run-take r i) (run-drop_while r i)

operator_at-is : {op : List ℕ} {gives : List ℕ → List ℕ → Selector} (u : List ℕ) → OpGives op gives →
    (o : AttrOperator) × (with_operator o ≡ gives) × (operator_at (op ++ u) ≡ Some (o, u)) × (skip_byte 93 (op ++ u) ≡ None)
operator_at-is u equal = (Equals, refl, refl, refl)
operator_at-is u has_part = (HasPart, refl, refl, refl)
operator_at-is u starts = (StartsWith, refl, refl, refl)
operator_at-is u ends = (EndsWith, refl, refl, refl)
operator_at-is u contains = (Contains, refl, refl, refl)

pair_is : {u v rest : List ℕ} (k m : List ℕ) (o : AttrOperator) → operator_at m ≡ Some (o, u) → ValueStands u v (93 ∷ rest) →
    bracket_by None k m ≡ Some (with_operator o k v, rest)
pair_is k m o e w = rw e (rw (value-is w) refl)

value-bracket : {s k op u v rest : List ℕ} {gives : List ℕ → List ℕ → Selector} →
    IsRun is_ident s k (op ++ u) → OpGives op gives → ValueStands u v (93 ∷ rest) → bracket_at s ≡ Some (gives k v, rest)
value-bracket {k = k} {op = op} {u = u} {v = v} {rest = rest} r g w =
    let o = operator_at-is u g in
    key-is r ∙ (ap (λ (x : Option (List ℕ)). bracket_by x k (op ++ u)) o.3 ∙ (pair_is k (op ++ u) o.0 o.2 w ∙ ap (λ (f : List ℕ → List ℕ → Selector). Some (f k v, rest)) o.1))

bracket_by-some : (s : List ℕ) (o : Option (List ℕ)) {p : Selector × List ℕ} → skip_byte 93 (drop_while is_ident s) ≡ o →
    bracket_by o (take_while is_ident s) (drop_while is_ident s) ≡ Some p → SimpleStands (91 ∷ s) p.0 p.1
bracket_by-some s (Some r) e h =
    of_pair (SimpleStands (91 ∷ s)) h (key_part (subst (IsRun is_ident s (take_while is_ident s)) (skip_byte-some 93 (drop_while is_ident s) e) (run-of is_ident s)))
bracket_by-some s None {p} e h =
    let m = drop_while is_ident s in
    let k = take_while is_ident s in
    let b = bind-some (λ (op : AttrOperator × List ℕ). option_map (λ (v : List ℕ × List ℕ). (with_operator op.0 k v.0, v.1)) (value_at op.1)) (operator_at m) h in
    let v = map-some (λ (v : List ℕ × List ℕ). (with_operator b.0.0 k v.0, v.1)) (value_at b.0.1) b.2 in
    let r = subst (IsRun is_ident s k) (operator_at-some m b.1) (run-of is_ident s) in
    subst (λ (p : Selector × List ℕ). SimpleStands (91 ∷ s) p.0 p.1) v.2 (value_part r (spelled-gives b.0.0) (value-some b.0.1 v.1))

bracket-some : (s : List ℕ) {p : Selector × List ℕ} → bracket_at s ≡ Some p → SimpleStands (91 ∷ s) p.0 p.1
bracket-some s h = bracket_by-some s (skip_byte 93 (drop_while is_ident s)) refl h

-- simple parts

tag-some : (b : ℕ) (s : List ℕ) → is_ident b ≡ true → SimpleStands (b ∷ s) (Tag (take_while is_ident (b ∷ s))) (drop_while is_ident (b ∷ s))
tag-some b s y =
    let some : take_while is_ident (b ∷ s) ≢ [] = λ e. let q : b ∷ take_while is_ident s ≡ [] = sym (take_while-yes is_ident b s y) ∙ e in cc in
    tag_part some (run-of is_ident (b ∷ s))

pub simple-some : (s : List ℕ) {p : Selector × List ℕ} → simple_at s ≡ Some p → SimpleStands s p.0 p.1
simple-some [] h = cc
simple-some (b ∷ s) {p} h =
    let from : (n : ℕ) → (b == n) ≡ true → SimpleStands (n ∷ s) p.0 p.1 → SimpleStands (b ∷ s) p.0 p.1 =
    λ n e x. subst (λ (c : ℕ). SimpleStands (c ∷ s) p.0 p.1) (sym (eqb-true b n e)) x in
    elim (if_is (b == 35) h) [
      | inl w ↦ from 35 w.0 (of_pair (SimpleStands (35 ∷ s)) w.1 (id_part (run-of is_ident s)))
      | inr v ↦ elim (if_is (b == 46) v.1) [
        | inl w ↦ from 46 w.0 (of_pair (SimpleStands (46 ∷ s)) w.1 (class_part (run-of is_ident s)))
        | inr v ↦ elim (if_is (b == 42) v.1) [
          | inl w ↦ from 42 w.0 (of_pair (SimpleStands (42 ∷ s)) w.1 all_part)
          | inr v ↦ elim (if_is (b == 91) v.1) [
            | inl w ↦ from 91 w.0 (bracket-some s w.1)
            | inr v ↦ elim (if_is (is_ident b) v.1) [
              | inl w ↦ of_pair (SimpleStands (b ∷ s)) w.1 (tag-some b s w.0)
              | inr w ↦ none_some _ w.1
            ]
          ]
        ]
      ]
    ]

tag-is : (b : ℕ) (s : List ℕ) → is_ident b ≡ true → simple_at (b ∷ s) ≡ Some (Tag (take_while is_ident (b ∷ s)), drop_while is_ident (b ∷ s))
tag-is b s y =
    if_no _ _ _ (ident-not b 35 y refl) ∙ (if_no _ _ _ (ident-not b 46 y refl) ∙ (if_no _ _ _ (ident-not b 42 y refl) ∙ (if_no _ _ _ (ident-not b 91 y refl) ∙ if_yes _ _ _ y)))

-- the first byte of a run that is not empty
pub run-first : {s i rest : List ℕ} → i ≢ [] → IsRun is_ident s i rest → (b : ℕ) × (t : List ℕ) × (s ≡ b ∷ t) × (is_ident b ≡ true)
run-first {i = []} n r = absurd (n refl)
run-first {i = b ∷ i} {rest = rest} n r = (b, i ++ rest, r.parts, (and_parts (is_ident b) (list_all is_ident i) r.inside).0)

tag-run : {s i rest : List ℕ} → i ≢ [] → IsRun is_ident s i rest → simple_at s ≡ Some (Tag i, rest)
tag-run {s} n r =
    let f = run-first n r in
    let here : simple_at s ≡ Some (Tag (take_while is_ident s), drop_while is_ident s) =
    subst (λ (s : List ℕ). simple_at s ≡ Some (Tag (take_while is_ident s), drop_while is_ident s)) (sym f.2) (tag-is f.0 f.1 f.3) in
    here ∙ (λ j. Some (Tag (run-take r j), run-drop_while r j))

pub simple-is : {s rest : List ℕ} {e : Selector} → SimpleStands s e rest → simple_at s ≡ Some (e, rest)
simple-is (id_part r) = λ j. Some (Id (run-take r j), run-drop_while r j)
simple-is (class_part r) = λ j. Some (Class (run-take r j), run-drop_while r j)
simple-is all_part = refl
simple-is (tag_part n r) = tag-run n r
simple-is (key_part {k = k} {rest = rest} r) = key-is r ∙ ap (λ (x : Option (List ℕ)). bracket_by x k (93 ∷ rest)) (skip_byte-is 93 rest)
simple-is (value_part r g w) = value-bracket r g w

-- what is left is shorter

run-le : {s i rest : List ℕ} → IsRun is_ident s i rest → length rest ≤ length s
run-le {s} r = omega (arith, ap length (run-drop_while r), drop_while-le is_ident s)

value-le : {s v rest : List ℕ} → ValueStands s v rest → length rest ≤ length s
value-le (bare r) = run-le r
value-le (quoted {s = s} {rest = rest} {q = q} y r) = omega (arith, run-le r)

pub simple-lt : {s rest : List ℕ} {e : Selector} → SimpleStands s e rest → length rest < length s
simple-lt (id_part r) = omega (arith, run-le r)
simple-lt (class_part r) = omega (arith, run-le r)
simple-lt all_part = omega arith
simple-lt (tag_part {s = s} {i = []} n r) = absurd (n refl)
simple-lt (tag_part {s = s} {i = b ∷ i} {rest = rest} n r) = omega (arith, ap length r.parts, length-append i rest)
simple-lt (key_part r) = omega (arith, run-le r)
simple-lt (value_part {op = op} {u = u} r g w) = omega (arith, run-le r, length-append op u, value-le w)
