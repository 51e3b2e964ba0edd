-- What both grammars read of a shared text: of what the port's derivation says stands there, CSS has
-- the selector that asks the same.
use Rattle.std.proofs.Common.{Ok, ◌≡◌, ◌≢◌, ℕ, ◌&&◌, Bool, true, false, not, List, [], ◌∷◌, ◌++◌, Option, Some, None, refl, ap, sym, subst, ◌∙◌}
use Rattle.std.specs.Option.{option_map_or}
use Rattle.std.specs.Prelude.{IsUtf8}
use Rattle.std.specs.Str.{bytes_eq, str_to_ascii_lowercase}
use Rattle.std.proofs.lemmas.Bool.{and_parts, false_from_ne_true, false≢true, true≢false}
use Rattle.std.proofs.lemmas.Slice.Eq.{bytes_eq-Decides}
use Rattle.tl_spec.specs.Lex.ByteClass.{is_ident}
use Rattle.tl_spec.specs.Lex.Grammar.{IsRun}
use Rattle.tl_spec.specs.Lex.Runs.{has_bytes}
use Rattle.tl_spec.specs.Select.Reading.{selector_at}
use Rattle.tl_spec.specs.Select.Selector.{Selector, Tag, And}
use Rattle.tl_spec.specs.Select.Text as port
use Rattle.tl_spec.proofs.Lex.Bytes.{passes}
use Rattle.tl_spec.proofs.Print.Lossy.{lossy-ident, lossy-IsUtf8}
use Rattle.tl_spec.proofs.Select.Text.{text-only}
use Rattle.tl_css.specs.declared.selector.Space.TheVariants.{Bare}
use Rattle.tl_css.specs.Selector.{Css, Is, Any, Key, ident_of}
use Rattle.tl_css.specs.Lexical.{past_comments}
use Rattle.tl_css.specs.SimpleGrammar.{GapStands, NameStands, AttributeStands, begins_bar, SimpleStands, any, type, id, class, attribute}
use Rattle.tl_css.specs.Grammar.{marked, spaced, IsSelector}
use Rattle.tl_css.specs.Reading.{css_at}
use Rattle.tl_css_laws.specs.Plain.{IsLower, IsPlain, css_of}
use Rattle.tl_css_laws.specs.Shared.{is_shared_name, is_lower_name, is_type, is_shared, has_shared_values, is_shared_text}
use Rattle.tl_css_laws.proofs.FlatSelectors.{Flat, Flats, flat_first, flat_next, flat_joined, flats_first, flats_next, flats_stand, flats_are_read}
use Rattle.tl_css_laws.proofs.SharedRuns.{NoMore, NoSlash, Solid, past_stays, past_name_stands, name_stands, lower_is_name, gap_stands, white_stands, spaces_stand, name_solid, values_after, value_stands, value_rest, op_stands, op_value, op_key, key_stands, test_stands}

abbrev HasShared : List ℕ → Type 0
HasShared s = has_shared_values s ≡ true

-- no name goes on here, and no `|` and no comment stands here
abbrev Ends : List ℕ → Type 0
Ends s = NoMore None s × (begins_bar s ≡ false) × NoSlash s

ends_after : {spaces : List ℕ} (s : List ℕ) → port.AreSpaces spaces → Ends s → Ends (spaces ++ s)
ends_after s port.no_space e = e
ends_after s (port.one_space k) e = (refl, refl, refl)

-- Simple selectors

simple_stands : (first : Bool) {s rest : List ℕ} {e : Selector} → port.SimpleStands s e rest → (is_type e ≡ true → first ≡ true) → is_shared e ≡ true → HasShared s → Ends rest
    → SimpleStands first s (css_of e) rest
simple_stands first (port.id_part {s = s} {i = i} {rest = rest} r) t sh v e = id (subst (λ (s : List ℕ). NameStands s i rest) (sym r.parts) (name_stands i rest sh e.0))
simple_stands first (port.class_part {s = s} {i = i} {rest = rest} r) t sh v e = class (subst (λ (s : List ℕ). NameStands (past_comments s) i rest) (sym r.parts) (past_name_stands i rest sh e.0))
simple_stands first (port.all_part {rest = rest}) t sh v e = subst (λ (first : Bool). SimpleStands first (42 ∷ rest) (Is Any) rest) (sym (t refl))
    (any (ap (λ (s : List ℕ). begins_bar s) (past_stays rest e.2) ∙ e.1))
simple_stands first (port.tag_part {s = s} {i = i} {rest = rest} n r) t sh v e =
    subst (λ (first : Bool). SimpleStands first s (css_of (Tag i)) rest) (sym (t refl))
    (subst (λ (s : List ℕ). SimpleStands true s (css_of (Tag i)) rest) (sym r.parts) (type (name_stands i rest (lower_is_name i sh) e.0)))
simple_stands first (port.key_part {s = s} {k = k} {rest = rest} r) t sh v e =
    attribute (subst (λ (s : List ℕ). AttributeStands s (Key Bare (ident_of k)) rest) (sym r.parts) (key_stands k rest sh))
simple_stands first (port.value_part {s = s} {k = k} {op = op} {u = u} {v = own} {rest = rest} {gives = gives} r g w) t sh v e =
    let values = op_value g u (values_after k (op ++ u) (subst HasShared r.parts v)) in
    let low = op_key g k own sh in
    let stands = value_stands w values.0 in
    subst (λ (s : List ℕ). SimpleStands first (91 ∷ s) (css_of (gives k own)) rest) (sym r.parts)
    (subst (λ (c : Css). SimpleStands first (91 ∷ (k ++ (op ++ u))) c rest) (sym ((op_stands g u).2 k own)) (attribute (test_stands k low g stands.0 stands.1)))

-- what is right after a simple selector, or before one, is no part of a name

simple_solid : {s rest : List ℕ} {e : Selector} → port.SimpleStands s e rest → is_shared e ≡ true → Solid s
simple_solid (port.id_part r) sh = (refl, refl)
simple_solid (port.class_part r) sh = (refl, refl)
simple_solid port.all_part sh = (refl, refl)
simple_solid (port.tag_part {i = i} {rest = rest} n r) sh = subst Solid (sym r.parts) (name_solid i rest (lower_is_name i sh))
simple_solid (port.key_part r) sh = (refl, refl)
simple_solid (port.value_part r g w) sh = (refl, refl)

other_ends : {s rest : List ℕ} {e : Selector} → port.SimpleStands s e rest → is_type e ≡ false → Ends s
other_ends (port.id_part r) t = (refl, refl, refl)
other_ends (port.class_part r) t = (refl, refl, refl)
other_ends port.all_part t = absurd (true≢false t)
other_ends (port.tag_part n r) t = absurd (true≢false t)
other_ends (port.key_part r) t = (refl, refl, refl)
other_ends (port.value_part r g w) t = (refl, refl, refl)

-- the values of what stands after are shared too

simple_rest : {s rest : List ℕ} {e : Selector} → port.SimpleStands s e rest → HasShared s → HasShared rest
simple_rest (port.id_part {i = i} {rest = rest} r) v = values_after i rest (subst HasShared r.parts v)
simple_rest (port.class_part {i = i} {rest = rest} r) v = values_after i rest (subst HasShared r.parts v)
simple_rest port.all_part v = v
simple_rest (port.tag_part {i = i} {rest = rest} n r) v = values_after i rest (subst HasShared r.parts v)
simple_rest (port.key_part {k = k} {rest = rest} r) v = values_after k (93 ∷ rest) (subst HasShared r.parts v)
simple_rest (port.value_part {k = k} {op = op} {u = u} r g w) v = value_rest w (op_value g u (values_after k (op ++ u) (subst HasShared r.parts v))).1

joint_rest : {m n : List ℕ} {gives : Selector → Selector → Selector} → port.JointStands m gives n → HasShared m → HasShared n
joint_rest port.touching v = v
joint_rest (port.spaced {spaces = spaces} {rest = rest} k) v = values_after (32 ∷ spaces) rest v
joint_rest (port.stepped {before = before} {after = after} {rest = rest} k l) v = values_after (62 ∷ after) rest (values_after before (62 ∷ (after ++ rest)) v)

chain_rest : {s rest : List ℕ} {e : Selector} → port.ChainStands s e rest → HasShared s → HasShared rest
chain_rest (port.first_part h) v = simple_rest h v
chain_rest (port.next_part c j h) v = simple_rest h (joint_rest j (chain_rest c v))

-- Complex selectors

-- parts of a selector that is shared

both_shared : (a b : Selector) → (is_shared a && is_shared b) ≡ true → (is_shared a ≡ true) × (is_shared b ≡ true)
both_shared a b h = and_parts (is_shared a) (is_shared b) h

touch_shared : (a b : Selector) → is_shared (And a b) ≡ true → (is_shared a ≡ true) × (is_shared b ≡ true) × (is_type b ≡ false)
touch_shared a b h =
    let one = and_parts (is_shared a) (is_shared b && not (is_type b)) h in
    let two = and_parts (is_shared b) (not (is_type b)) one.1 in
    (one.0, two.0, false_from_ne_true (is_type b) (λ t. true≢false (sym two.1 ∙ ap not t)))

joint_shared : {m n : List ℕ} {gives : Selector → Selector → Selector} → port.JointStands m gives n → (a b : Selector) → is_shared (gives a b) ≡ true → is_shared a ≡ true
joint_shared port.touching a b h = (touch_shared a b h).0
joint_shared (port.spaced k) a b h = (both_shared a b h).0
joint_shared (port.stepped k l) a b h = (both_shared a b h).0

chain_solid : {s rest : List ℕ} {e : Selector} → port.ChainStands s e rest → is_shared e ≡ true → Solid s
chain_solid (port.first_part h) sh = simple_solid h sh
chain_solid (port.next_part {a = a} {b = b} c j h) sh = chain_solid c (joint_shared j a b sh)

chain_stands : {s0 s rest : List ℕ} {e : Selector} {w : Bool} → GapStands s0 w s → port.ChainStands s e rest → is_shared e ≡ true → HasShared s → Ends rest
    → Flat s0 (css_of e) rest
chain_stands gap (port.first_part h) sh v e = flat_first gap (simple_stands true h (λ _. refl) sh v e)
chain_stands gap (port.next_part {m = m} {a = a} {b = b} c port.touching h) sh v e =
    let is = touch_shared a b sh in
    flat_next (chain_stands gap c is.0 v (other_ends h is.2)) (gap_stands m (simple_solid h is.1))
    (simple_stands false h (λ t. absurd (true≢false (sym t ∙ is.2))) is.1 (chain_rest c v) e)
chain_stands gap (port.next_part {n = n} {a = a} {b = b} c (port.spaced {spaces = spaces} k) h) sh v e =
    let is = both_shared a b sh in
    flat_joined (chain_stands gap c is.0 v (refl, refl, refl)) (spaced (white_stands n k (simple_solid h is.1)))
    (simple_stands true h (λ _. refl) is.1 (joint_rest (port.spaced k) (chain_rest c v)) e)
chain_stands gap (port.next_part {n = n} {a = a} {b = b} c (port.stepped {before = before} {after = after} k l) h) sh v e =
    let is = both_shared a b sh in
    flat_joined (chain_stands gap c is.0 v (ends_after (62 ∷ (after ++ n)) k (refl, refl, refl)))
    (marked (spaces_stand (62 ∷ (after ++ n)) k (refl, refl)).1 refl (spaces_stand n l (simple_solid h is.1)).1)
    (simple_stands true h (λ _. refl) is.1 (joint_rest (port.stepped k l) (chain_rest c v)) e)

-- Lists

-- something of CSS stands up to a gap
Before : (List ℕ → Type 0) → List ℕ → Type 0
Before P rest = (k : List ℕ) × (w : Bool) × P k × GapStands k w rest

complex_stands : {s rest : List ℕ} {e : Selector} → port.SpacedChainStands s e rest → is_shared e ≡ true → HasShared s → Ends rest → Solid rest
    → Before (Flat s (css_of e)) rest
unfolding Before
complex_stands (port.spaced_chain {before = before} {s = s} {after = after} {rest = rest} b c l) sh v e solid =
    let front = spaces_stand s b (chain_solid c sh) in
    let back = spaces_stand rest l solid in
    (after ++ rest, back.0, chain_stands front.1 c sh (values_after before s v) (ends_after rest l e), back.1)

spaced_rest : {s rest : List ℕ} {e : Selector} → port.SpacedChainStands s e rest → HasShared s → HasShared rest
spaced_rest (port.spaced_chain {before = before} {s = s} {after = after} {rest = rest} b c l) v = values_after after rest (chain_rest c (values_after before s v))

list_rest : {s rest : List ℕ} {e : Selector} → port.ChainsStand s e rest → HasShared s → HasShared rest
list_rest (port.first_chain c) v = spaced_rest c v
list_rest (port.next_chain {m = m} cs c) v = spaced_rest c (values_after (44 ∷ []) m (list_rest cs v))

list_stands : {s rest : List ℕ} {e : Selector} → port.ChainsStand s e rest → is_shared e ≡ true → HasShared s → Ends rest → Solid rest
    → Before (Flats s (css_of e)) rest
unfolding Before
list_stands (port.first_chain c) sh v e solid =
    let one = complex_stands c sh v e solid in
    (one.0, one.1, flats_first one.2, one.3)
list_stands (port.next_chain {m = m} {a = a} {b = b} cs c) sh v e solid =
    let is = both_shared a b sh in
    let one = list_stands cs is.0 v (refl, refl, refl) (refl, refl) in
    let two = complex_stands c is.1 (values_after (44 ∷ []) m (list_rest cs v)) e solid in
    (two.0, two.1, flats_next one.2 one.3 two.2, two.3)

pub text_stands : (text : List ℕ) (e : Selector) → port.IsSelectorText text e → is_shared e ≡ true → HasShared text → IsSelector text (css_of e)
unfolding Before
text_stands text e h sh v =
    let is = list_stands h sh v (refl, refl, refl) tt in
    record { rest = is.0; white = is.1; list = flats_stand is.2; end = is.3 }

pub text_is_read : (text : List ℕ) (e : Selector) → port.IsSelectorText text e → is_shared e ≡ true → HasShared text → css_at text ≡ Ok (css_of e)
unfolding Before
text_is_read text e h sh v =
    let is = list_stands h sh v (refl, refl, refl) tt in
    flats_are_read text is.0 (css_of e) is.1 is.2 is.3

-- Such a selector is plain

lower_is : (name : List ℕ) → is_lower_name name ≡ true → IsLower name
lower_is name h = (bytes_eq-Decides (str_to_ascii_lowercase name) name).0 (and_parts (is_shared_name name) (bytes_eq (str_to_ascii_lowercase name) name) h).1

ident_utf8 : (v : List ℕ) (s rest : List ℕ) → IsRun is_ident s v rest → IsUtf8 v
ident_utf8 v s rest r = subst IsUtf8 (lossy-ident v (passes is_ident v r.inside)) (lossy-IsUtf8 v)

value_utf8 : {u v rest : List ℕ} → port.ValueStands u v rest → IsUtf8 v
value_utf8 (port.bare {s = s} {v = v} {rest = rest} r) = ident_utf8 v s rest r
value_utf8 (port.quoted {s = s} {v = v} {rest = rest} {q = q} y r) = ident_utf8 v s (q ∷ rest) r

some_bytes : (v : List ℕ) → has_bytes v ≡ true → v ≢ []
some_bytes v h e = false≢true (ap has_bytes (sym e) ∙ h)

value_plain : {op : List ℕ} {gives : List ℕ → List ℕ → Selector} → port.OpGives op gives → (k v : List ℕ) → is_shared (gives k v) ≡ true → IsUtf8 v → IsPlain (gives k v)
value_plain port.equal k v sh u = (lower_is k sh, u)
value_plain port.has_part k v sh u = (lower_is k sh, u)
value_plain port.starts k v sh u = let is = and_parts (is_lower_name k) (has_bytes v) sh in (lower_is k is.0, u, some_bytes v is.1)
value_plain port.ends k v sh u = let is = and_parts (is_lower_name k) (has_bytes v) sh in (lower_is k is.0, u, some_bytes v is.1)
value_plain port.contains k v sh u = let is = and_parts (is_lower_name k) (has_bytes v) sh in (lower_is k is.0, u, some_bytes v is.1)

simple_plain : {s rest : List ℕ} {e : Selector} → port.SimpleStands s e rest → is_shared e ≡ true → IsPlain e
simple_plain (port.id_part r) sh = tt
simple_plain (port.class_part r) sh = tt
simple_plain port.all_part sh = tt
simple_plain (port.tag_part {i = i} n r) sh = lower_is i sh
simple_plain (port.key_part {k = k} r) sh = lower_is k sh
simple_plain (port.value_part {k = k} {v = v} r g w) sh = value_plain g k v sh (value_utf8 w)

chain_plain : {s rest : List ℕ} {e : Selector} → port.ChainStands s e rest → is_shared e ≡ true → IsPlain e
chain_plain (port.first_part h) sh = simple_plain h sh
chain_plain (port.next_part {a = a} {b = b} c port.touching h) sh = let is = touch_shared a b sh in (chain_plain c is.0, simple_plain h is.1)
chain_plain (port.next_part {a = a} {b = b} c (port.spaced k) h) sh = let is = both_shared a b sh in (chain_plain c is.0, simple_plain h is.1)
chain_plain (port.next_part {a = a} {b = b} c (port.stepped k l) h) sh = let is = both_shared a b sh in (chain_plain c is.0, simple_plain h is.1)

spaced_plain : {s rest : List ℕ} {e : Selector} → port.SpacedChainStands s e rest → is_shared e ≡ true → IsPlain e
spaced_plain (port.spaced_chain b c l) sh = chain_plain c sh

pub list_plain : {s rest : List ℕ} {e : Selector} → port.ChainsStand s e rest → is_shared e ≡ true → IsPlain e
list_plain (port.first_chain c) sh = spaced_plain c sh
list_plain (port.next_chain {a = a} {b = b} cs c) sh = let is = both_shared a b sh in (list_plain cs is.0, spaced_plain c is.1)

-- a text is one selector of the Rust crate at most
pub one_selector : (text : List ℕ) (a b : Selector) → port.IsSelectorText text a → port.IsSelectorText text b → a ≡ b
one_selector text a b p q =
    let first : selector_at text ≡ Some a = (text-only text a).0 p in
    let second : selector_at text ≡ Some b = (text-only text b).0 q in
    cc

-- The laws

-- what a shared text is: as a selector of the Rust crate, which is plain, and in CSS
abbrev IsRead : List ℕ → Selector → Type 0
IsRead text e = port.IsSelectorText text e × IsPlain e × IsSelector text (css_of e) × (css_at text ≡ Ok (css_of e))

shared_read : (text : List ℕ) → is_shared_text text ≡ true → (e : Selector) × IsRead text e
shared_read text h =
    let is = and_parts (has_shared_values text) (option_map_or is_shared (selector_at text) false) h in
    by (selector_at text) refl is.0 is.1
  where
    by : (o : Option Selector) → selector_at text ≡ o → HasShared text → option_map_or is_shared o false ≡ true
        → (e : Selector) × IsRead text e
    by None is v sh = absurd (false≢true sh)
    by (Some e) is v sh = let stands = (text-only text e).1 is in (e, (stands, list_plain stands sh, text_stands text e stands sh v, text_is_read text e stands sh v))

pub shared_alike : (text : List ℕ) → is_shared_text text ≡ true → (e : Selector) × port.IsSelectorText text e × IsPlain e × IsSelector text (css_of e)
shared_alike text h = let is = shared_read text h in (is.0, is.1.0, is.1.1, is.1.2)

pub shared_is_read : (text : List ℕ) (e : Selector) → is_shared_text text ≡ true → port.IsSelectorText text e → css_at text ≡ Ok (css_of e)
shared_is_read text e h stands =
    let is = shared_read text h in
    is.1.3 ∙ ap (λ (e : Selector). Ok (css_of e)) (one_selector text is.0 e is.1.0 stands)
