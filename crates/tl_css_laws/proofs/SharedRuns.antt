-- Names, values, spaces and ops of shared texts, as CSS reads them.
use Rattle.std.proofs.Common.{◌≡◌, ◌⊎◌, ℕ, ◌==◌, ◌||◌, ◌&&◌, Bool, true, false, not, List, [], ◌∷◌, ◌++◌, Option, Some, None, is_some, option_map, Ok, refl, ap, sym, subst, ◌∙◌, inl, inr}
use Rattle.std.specs.List.{list_all, take_while}
use Rattle.std.specs.Str.{bytes_eq, str_to_ascii_lowercase}
use Rattle.std.proofs.lemmas.Bool.{and_parts, or_from, cases_Bool, eqb-true, false≢true}
use Rattle.tl_spec.specs.Lex.ByteClass.{is_ident, is_quote}
use Rattle.tl_spec.specs.Lex.Grammar.{IsRun}
use Rattle.tl_spec.specs.Lex.Runs.{has_bytes}
use Rattle.tl_spec.specs.Select.Reading.{quote_at}
use Rattle.tl_spec.specs.Select.Selector.{Selector}
use Rattle.tl_spec.specs.Select.Text as port
use Rattle.tl_spec.proofs.Lex.Bytes.{AllPass, AllPass-also, not_this, passes}
use Rattle.tl_spec.proofs.Lex.Grammar.{if_yes, if_no, run-take}
use Rattle.tl_css.specs.declared.selector.Op.{Op}
use Rattle.tl_css.specs.declared.selector.Case.TheVariants.{Unsaid}
use Rattle.tl_css.specs.declared.selector.Op.TheVariants.{Equals, Word, Starts, Ends, Inside}
use Rattle.tl_css.specs.declared.selector.Space.TheVariants.{Bare}
use Rattle.tl_css.specs.Bytes.{is_white, is_name_byte}
use Rattle.tl_css.specs.Lexical.{begins, begins_comment, begins_name, gap_part_at, is_plain, part_at, past_comments, run_at}
use Rattle.tl_css.specs.Attribute.{op_at}
use Rattle.tl_css.specs.Selector.{Is, Key, Value, ident_of}
use Rattle.tl_css.specs.SimpleGrammar.{GapStands, NameStands, ValueStands, bare, quoted, no_flag, plain_key, AttributeStands, key, value}
use Rattle.tl_css.proofs.Runs.{run_none, run_some, gap_from, gap_some, gap_none, gap_first, past_none}
use Rattle.tl_css_laws.specs.Plain.{css_of}
use Rattle.tl_css_laws.specs.Shared.{is_shared_byte, is_shared_name, is_lower_name, is_shared, begins_shared_value, has_shared_values}

-- Names

-- no name or string goes on here
abbrev pub NoMore : Option ℕ → List ℕ → Type 0
NoMore quote s = None ≡ part_at quote s

part_is : (quote : Option ℕ) (b : ℕ) (s : List ℕ) → is_plain quote b ≡ true → Some (b ∷ [], s) ≡ part_at quote (b ∷ s)
part_is quote b s h = sym (if_yes _ _ _ h)

run_is : (quote : Option ℕ) (own rest : List ℕ) → AllPass (is_plain quote) own → NoMore quote rest → run_at quote (own ++ rest) ≡ (own, rest)
run_is quote [] rest h e = run_none quote rest e
run_is quote (b ∷ own) rest h e =
    run_some quote (b ∷ (own ++ rest)) (b ∷ [], own ++ rest) (part_is quote b (own ++ rest) h.0)
    ∙ ap (λ (r : List ℕ × List ℕ). (b ∷ r.0, r.1)) (run_is quote own rest h.1 e)

shared_bytes : (name : List ℕ) → is_shared_name name ≡ true → AllPass is_shared_byte name
shared_bytes name h = passes is_shared_byte name (and_parts (has_bytes name) (list_all is_shared_byte name) h).1

css_byte : (b : ℕ) → is_shared_byte b ≡ true → is_name_byte b ≡ true
css_byte b h = (and_parts (is_ident b) (is_name_byte b) h).1

css_bytes : (name : List ℕ) → is_shared_name name ≡ true → AllPass (is_plain None) name
css_bytes name h = AllPass-also is_shared_byte (is_plain None) css_byte name (shared_bytes name h)

begins_name-shared : (name rest : List ℕ) → is_shared_name name ≡ true → begins_name (name ++ rest) ≡ true
begins_name-shared [] rest h = absurd (false≢true h)
begins_name-shared (b ∷ name) rest h = sym (ap (λ (o : Option (List ℕ × List ℕ)). is_some o) (part_is None b (name ++ rest) (css_bytes (b ∷ name) h).0))

pub name_stands : (name rest : List ℕ) → is_shared_name name ≡ true → NoMore None rest → NameStands (name ++ rest) name rest
name_stands name rest h e =
    if_yes _ _ _ (begins_name-shared name rest h) ∙ ap (λ (r : List ℕ × List ℕ). Ok r) (run_is None name rest (css_bytes name h) e)

pub lower_is_name : (name : List ℕ) → is_lower_name name ≡ true → is_shared_name name ≡ true
lower_is_name name h = (and_parts (is_shared_name name) (bytes_eq (str_to_ascii_lowercase name) name) h).0

-- Gaps

-- no gap begins here
abbrev pub Solid : List ℕ → Type 0
Solid [] = Unit {0}
Solid (b ∷ s) = (is_white b ≡ false) × ((b == 47) ≡ false)

no_comment : (b : ℕ) (s : List ℕ) → (b == 47) ≡ false → begins_comment (b ∷ s) ≡ false
no_comment b [] h = refl
no_comment b (c ∷ s) h = ap (λ (v : Bool). v && (c == 42)) h

no_gap : (b : ℕ) (s : List ℕ) → Solid (b ∷ s) → gap_part_at (b ∷ s) ≡ None
no_gap b s h = if_no _ _ _ h.0 ∙ ap (λ (o : Option (List ℕ)). option_map (λ (rest : List ℕ). (false, rest)) o) (if_no _ _ _ (no_comment b s h.1))

gap_stays : (white : Bool) (s : List ℕ) → Solid s → gap_from white s ≡ Ok (white, s)
gap_stays white [] h = gap_none white [] refl
gap_stays white (b ∷ s) h = gap_none white (b ∷ s) (sym (no_gap b s h)) ∙ if_no _ _ _ (no_comment b s h.1)

pub gap_stands : (s : List ℕ) → Solid s → GapStands s false s
gap_stands s h = sym (gap_first s) ∙ gap_stays false s h

gap_after_white : {spaces : List ℕ} (s : List ℕ) → port.AreSpaces spaces → Solid s → gap_from true (spaces ++ s) ≡ Ok (true, s)
gap_after_white s port.no_space h = gap_stays true s h
gap_after_white s (port.one_space {s = spaces} k) h =
    sym (gap_some true (32 ∷ (spaces ++ s)) (true, spaces ++ s) refl) ∙ gap_after_white s k h

pub white_stands : {spaces : List ℕ} (s : List ℕ) → port.AreSpaces spaces → Solid s → GapStands (32 ∷ spaces ++ s) true s
white_stands {spaces} s k h =
    sym (gap_first (32 ∷ (spaces ++ s))) ∙ (sym (gap_some false (32 ∷ (spaces ++ s)) (true, spaces ++ s) refl) ∙ gap_after_white s k h)

pub spaces_stand : {spaces : List ℕ} (s : List ℕ) → port.AreSpaces spaces → Solid s → (w : Bool) × GapStands (spaces ++ s) w s
spaces_stand s port.no_space h = (false, gap_stands s h)
spaces_stand s (port.one_space k) h = (true, white_stands s k h)

name_byte_solid : (b : ℕ) → is_name_byte b ≡ true → (is_white b ≡ false) × ((b == 47) ≡ false)
name_byte_solid b h =
    let not_byte : (c : ℕ) → is_name_byte c ≡ false → (b == c) ≡ false = λ c n. not_this is_name_byte b c h n in
    (rw (not_byte 0x20 refl, not_byte 0x09 refl, not_byte 0x0A refl, not_byte 0x0D refl, not_byte 0x0C refl) refl, not_byte 47 refl)

-- no comment begins here
abbrev pub NoSlash : List ℕ → Type 0
NoSlash s = begins (λ b. b == 47) s ≡ false

pub past_stays : (s : List ℕ) → NoSlash s → past_comments s ≡ s
past_stays [] h = past_none [] refl
past_stays (b ∷ s) h = past_none (b ∷ s) (sym (if_no _ _ _ (no_comment b s h)))

past_name : (name rest : List ℕ) → is_shared_name name ≡ true → past_comments (name ++ rest) ≡ name ++ rest
past_name [] rest h = absurd (false≢true h)
past_name (b ∷ name) rest h = past_stays (b ∷ (name ++ rest)) (name_byte_solid b (css_bytes (b ∷ name) h).0).1

pub past_name_stands : (name rest : List ℕ) → is_shared_name name ≡ true → NoMore None rest → NameStands (past_comments (name ++ rest)) name rest
past_name_stands name rest h e = subst (λ (s : List ℕ). NameStands s name rest) (sym (past_name name rest h)) (name_stands name rest h e)

pub name_solid : (name rest : List ℕ) → is_shared_name name ≡ true → Solid (name ++ rest)
name_solid [] rest h = absurd (false≢true h)
name_solid (b ∷ name) rest h = name_byte_solid b (css_bytes (b ∷ name) h).0

-- Values

pub values_after : (x y : List ℕ) → has_shared_values (x ++ y) ≡ true → has_shared_values y ≡ true
values_after [] y h = h
values_after (b ∷ x) y h = values_after x y (and_parts (not (b == 61) || begins_shared_value (x ++ y)) (has_shared_values (x ++ y)) h).1

quote_is : (q : ℕ) → is_quote q ≡ true → (q ≡ 34) ⊎ (q ≡ 39)
quote_is q h = elim (cases_Bool (q == 34)) [
  | inl y ↦ inl (eqb-true q 34 y)
  | inr n ↦ inr (eqb-true q 39 (subst (λ (v : Bool). (v || (q == 39)) ≡ true) n h))
]

-- what holds of both quotes holds of each
of_quotes : (P : ℕ → Type 0) → P 34 → P 39 → (q : ℕ) → is_quote q ≡ true → P q
of_quotes P a b q h = elim (quote_is q h) [ inl e ↦ subst P (sym e) a | inr e ↦ subst P (sym e) b ]

string_byte : (q : ℕ) → is_quote q ≡ true → (b : ℕ) → is_ident b ≡ true → is_plain (Some q) b ≡ true
string_byte q y b h =
    let not_byte : (c : ℕ) → is_ident c ≡ false → (b == c) ≡ false = λ c n. not_this is_ident b c h n in
    let no_quote : (b == q) ≡ false = not_byte q (of_quotes (λ q. is_ident q ≡ false) refl refl q y) in
    rw (no_quote, not_byte 0x5C refl, not_byte 0x0A refl, not_byte 0x0D refl, not_byte 0x0C refl) refl

string_ends : (q : ℕ) → is_quote q ≡ true → (s : List ℕ) → NoMore (Some q) (q ∷ s)
string_ends q y s = of_quotes (λ q. NoMore (Some q) (q ∷ s)) refl refl q y

no_quote : (v rest : List ℕ) → list_all is_ident v ≡ true → quote_at (v ++ 93 ∷ rest) ≡ None
no_quote [] rest h = refl
no_quote (b ∷ v) rest h =
    let y = (and_parts (is_ident b) (list_all is_ident v) h).0 in
    if_no _ _ _ (or_from (b == 34) (b == 39) (not_this is_ident b 34 y refl) (not_this is_ident b 39 y refl))

bare_is_name : {u v rest : List ℕ} → IsRun is_ident u v (93 ∷ rest) → begins_shared_value u ≡ true → is_shared_name v ≡ true
bare_is_name {u} {v} {rest} r h =
    let none : quote_at u ≡ None = ap quote_at r.parts ∙ no_quote v rest r.inside in
    let taken : take_while is_ident u ≡ v = run-take r in
    sym (λ i. is_some (none i) || is_shared_name (taken i)) ∙ h

pub value_stands : {u v rest : List ℕ} → port.ValueStands u v (93 ∷ rest) → begins_shared_value u ≡ true → ValueStands u v (93 ∷ rest) × Solid u
value_stands {rest = rest} (port.bare {s = u} {v = v} r) h =
    let name = bare_is_name r h in (
      bare (subst (λ (u : List ℕ). NameStands u v (93 ∷ rest)) (sym r.parts) (name_stands v (93 ∷ rest) name refl)),
      subst Solid (sym r.parts) (name_solid v (93 ∷ rest) name),
    )
value_stands {rest = rest} (port.quoted {s = u} {v = v} {q = q} y r) h =
    let run = run_is (Some q) v (q ∷ 93 ∷ rest) (AllPass-also is_ident (is_plain (Some q)) (string_byte q y) v (passes is_ident v r.inside)) (string_ends q y (93 ∷ rest)) in
    (quoted y (ap (run_at (Some q)) r.parts ∙ run), of_quotes (λ q. Solid (q ∷ u)) (refl, refl) (refl, refl) q y)

pub value_rest : {u v rest : List ℕ} → port.ValueStands u v rest → has_shared_values u ≡ true → has_shared_values rest ≡ true
value_rest (port.bare {v = v} {rest = rest} r) h = values_after v rest (subst (λ (u : List ℕ). has_shared_values u ≡ true) r.parts h)
value_rest (port.quoted {s = u} {v = v} {rest = rest} {q = q} y r) h =
    let inside = values_after (q ∷ []) u h in
    values_after (q ∷ []) rest (values_after v (q ∷ rest) (subst (λ (u : List ℕ). has_shared_values u ≡ true) r.parts inside))

-- Ops

-- the op of CSS that asks the same
pub op_stands : {op : List ℕ} {gives : List ℕ → List ℕ → Selector} → port.OpGives op gives → (u : List ℕ)
    → (own : Op) × (op_at (op ++ u) ≡ Ok (own, u)) × ((k v : List ℕ) → css_of (gives k v) ≡ Is (Value Bare (ident_of k) own v Unsaid))
op_stands port.equal u = (Equals, refl, λ k v. refl)
op_stands port.has_part u = (Word, refl, λ k v. refl)
op_stands port.starts u = (Starts, refl, λ k v. refl)
op_stands port.ends u = (Ends, refl, λ k v. refl)
op_stands port.contains u = (Inside, refl, λ k v. refl)

op_solid : {op : List ℕ} {gives : List ℕ → List ℕ → Selector} → port.OpGives op gives → (u : List ℕ) → Solid (op ++ u) × NoMore None (op ++ u)
op_solid port.equal u = ((refl, refl), refl)
op_solid port.has_part u = ((refl, refl), refl)
op_solid port.starts u = ((refl, refl), refl)
op_solid port.ends u = ((refl, refl), refl)
op_solid port.contains u = ((refl, refl), refl)

pub op_value : {op : List ℕ} {gives : List ℕ → List ℕ → Selector} → port.OpGives op gives → (u : List ℕ) → has_shared_values (op ++ u) ≡ true
    → (begins_shared_value u ≡ true) × (has_shared_values u ≡ true)
op_value port.equal u h = and_parts (begins_shared_value u) (has_shared_values u) h
op_value port.has_part u h = and_parts (begins_shared_value u) (has_shared_values u) h
op_value port.starts u h = and_parts (begins_shared_value u) (has_shared_values u) h
op_value port.ends u h = and_parts (begins_shared_value u) (has_shared_values u) h
op_value port.contains u h = and_parts (begins_shared_value u) (has_shared_values u) h

pub op_key : {op : List ℕ} {gives : List ℕ → List ℕ → Selector} → port.OpGives op gives → (k v : List ℕ) → is_shared (gives k v) ≡ true → is_lower_name k ≡ true
op_key port.equal k v h = h
op_key port.has_part k v h = h
op_key port.starts k v h = (and_parts (is_lower_name k) (has_bytes v) h).0
op_key port.ends k v h = (and_parts (is_lower_name k) (has_bytes v) h).0
op_key port.contains k v h = (and_parts (is_lower_name k) (has_bytes v) h).0

-- Brackets

pub key_stands : (k rest : List ℕ) → is_lower_name k ≡ true → AttributeStands (k ++ 93 ∷ rest) (Key Bare (ident_of k)) rest
key_stands k rest h =
    key (gap_stands (k ++ 93 ∷ rest) (name_solid k (93 ∷ rest) (lower_is_name k h))) (plain_key (name_stands k (93 ∷ rest) (lower_is_name k h) refl)) (gap_stands (93 ∷ rest) (refl, refl))

pub test_stands : {op u v rest : List ℕ} {gives : List ℕ → List ℕ → Selector} (k : List ℕ) → is_lower_name k ≡ true → (g : port.OpGives op gives)
    → ValueStands u v (93 ∷ rest) → Solid u → AttributeStands (k ++ (op ++ u)) (Value Bare (ident_of k) (op_stands g u).0 v Unsaid) rest
test_stands {op} {u} {v} {rest} k h g own solid =
    let after = op_solid g u in
    value (gap_stands (k ++ (op ++ u)) (name_solid k (op ++ u) (lower_is_name k h))) (plain_key (name_stands k (op ++ u) (lower_is_name k h) after.1)) (gap_stands (op ++ u) after.0)
    (op_stands g u).1 (gap_stands u solid) own (gap_stands (93 ∷ rest) (refl, refl)) (no_flag refl) false (gap_stands (93 ∷ rest) (refl, refl))
