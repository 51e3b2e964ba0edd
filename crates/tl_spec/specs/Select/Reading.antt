-- How a selector text is read from the front.
use Rattle.std.specs.Prelude.{ℕ, zero, suc, ◌+◌, Bool, false, ◌==◌, if◌then◌else◌, List, [], ◌∷◌, length, Option, Some, None, option_map, option_and_then}
use Rattle.std.specs.List.{take_while}
use Rattle.std.specs.Str.{byte}
use Rattle.tl_spec.specs.Lex.ByteClass.{is_ident, is_quote, is_space}
use Rattle.tl_spec.specs.Lex.Runs.{drop_while}
use Rattle.tl_spec.specs.Select.Selector.{Selector, Tag, Id, Class, All, And, Or, Descendant, Parent, Attribute, AttributeValue, AttributeValueWhitespacedContains, AttributeValueStartsWith, AttributeValueEndsWith, AttributeValueSubstring}

infixl 10 ◌>>=◌
abbrev pub ◌>>=◌ : {A B : Type 0} → Option A → (A → Option B) → Option B
o >>= f = option_and_then f o

-- what stands after this byte, where it stands first
abbrev pub skip_byte : ℕ → List ℕ → Option (List ℕ)
skip_byte b [] = None
skip_byte b (c ∷ s) = if c == b then Some s else None

-- a run of ident bytes, and what stands after the byte that has to follow it
abbrev pub run_before : ℕ → List ℕ → Option (List ℕ × List ℕ)
run_before b s =
    option_map (λ rest. (take_while is_ident s, rest)) (skip_byte b (drop_while is_ident s))

-- a quote that stands first, and what stands after it
abbrev pub quote_at : List ℕ → Option (ℕ × List ℕ)
quote_at [] = None
quote_at (c ∷ s) = if is_quote c then Some (c, s) else None

abbrev pub value_by : Option (ℕ × List ℕ) → List ℕ → Option (List ℕ × List ℕ)
value_by None s = run_before (byte "]") s
value_by (Some q) s =
    run_before q.0 q.1 >>= λ v. option_map (λ rest. (v.0, rest)) (skip_byte (byte "]") v.1)

-- a value, and what stands after the `]` that has to follow it
abbrev pub value_at : List ℕ → Option (List ℕ × List ℕ)
value_at s = value_by (quote_at s) s

-- what an op asks of a value
pub data AttrOperator : Type 0 where
  Equals : AttrOperator
  HasPart : AttrOperator
  StartsWith : AttrOperator
  EndsWith : AttrOperator
  Contains : AttrOperator

abbrev pub with_operator : AttrOperator → List ℕ → List ℕ → Selector
with_operator Equals = AttributeValue
with_operator HasPart = AttributeValueWhitespacedContains
with_operator StartsWith = AttributeValueStartsWith
with_operator EndsWith = AttributeValueEndsWith
with_operator Contains = AttributeValueSubstring

-- the op whose first byte this is, where a `=` follows
abbrev pub operator_of : ℕ → Option AttrOperator
operator_of b =
    if b == byte "~" then Some HasPart
    else (if b == byte "^" then Some StartsWith
    else (if b == byte "$" then Some EndsWith
    else (if b == byte "*" then Some Contains
    else None)))

abbrev pub operator_by : Option AttrOperator → List ℕ → Option (AttrOperator × List ℕ)
operator_by None s = None
operator_by (Some op) s = option_map (λ rest. (op, rest)) (skip_byte (byte "=") s)

-- an op, and what stands after it
abbrev pub operator_at : List ℕ → Option (AttrOperator × List ℕ)
operator_at [] = None
operator_at (b ∷ s) = if b == byte "=" then Some (Equals, s) else operator_by (operator_of b) s

abbrev pub bracket_by : Option (List ℕ) → List ℕ → List ℕ → Option (Selector × List ℕ)
bracket_by (Some rest) key s = Some (Attribute key, rest)
bracket_by None key s =
    operator_at s >>= λ op. option_map (λ v. (with_operator op.0 key v.0, v.1)) (value_at op.1)

-- a test of a key, and what stands after its `]`, from after its `[` on
abbrev pub bracket_at : List ℕ → Option (Selector × List ℕ)
bracket_at s =
    let m = drop_while is_ident s in bracket_by (skip_byte (byte "]") m) (take_while is_ident s) m

-- a simple part, and what stands after it
abbrev pub simple_at : List ℕ → Option (Selector × List ℕ)
simple_at [] = None
simple_at (b ∷ s) =
    if b == byte "#" then Some (Id (take_while is_ident s), drop_while is_ident s)
    else (if b == byte "." then Some (Class (take_while is_ident s), drop_while is_ident s)
    else (if b == byte "*" then Some (All, s)
    else (if b == byte "[" then bracket_at s
    else (if is_ident b then Some (Tag (take_while is_ident (b ∷ s)), drop_while is_ident (b ∷ s))
    else None))))

-- what stands between two simple parts: `,`, `>`, spaces alone, or nothing
pub data Separator : Type 0 where
  Comma : Separator
  Step : Separator
  Spaces : Separator
  Touch : Separator

abbrev pub starts_with_space : List ℕ → Bool
starts_with_space [] = false
starts_with_space (b ∷ s) = is_space b

abbrev pub separator_by : Bool → List ℕ → Option (Separator × List ℕ)
separator_by spaced [] = None
separator_by spaced (b ∷ s) =
    if b == byte "," then Some (Comma, drop_while is_space s)
    else (if b == byte ">" then Some (Step, drop_while is_space s)
    else Some ((if spaced then Spaces else Touch), b ∷ s))

-- the link after a part with the spaces around it, and what stands after it; none where the text
-- ends
abbrev pub separator_at : List ℕ → Option (Separator × List ℕ)
separator_at s = separator_by (starts_with_space s) (drop_while is_space s)

-- what comes after a part: the end, what is no part, or a link, a part and what stands after it
pub data Next : Type 0 where
  End : Next
  Bad : Next
  Part : Separator → Selector → List ℕ → Next

abbrev pub part_by : Separator → Option (Selector × List ℕ) → Next
part_by link None = Bad
part_by link (Some part) = Part link part.0 part.1

abbrev pub next_by : Option (Separator × List ℕ) → Next
next_by None = End
next_by (Some link) = part_by link.0 (simple_at link.1)

abbrev pub next_at : List ℕ → Next
next_at s = next_by (separator_at s)

abbrev pub parts_by : (List ℕ → Option (List (Separator × Selector))) → Next →
    Option (List (Separator × Selector))
parts_by more End = Some []
parts_by more Bad = None
parts_by more (Part link part rest) = option_map (λ parts. (link, part) ∷ parts) (more rest)

-- at most n parts
abbrev pub parts_within : ℕ → List ℕ → Option (List (Separator × Selector))
parts_within zero s = None
parts_within (suc n) s = parts_by (λ rest. parts_within n rest) (next_at s)

-- all parts up to the end, each with the link before it
unfoldable pub parts_at : List ℕ → Option (List (Separator × Selector))
parts_at s = parts_within (length s + 1) s

-- what a link gives of what stands before it and the part after it
abbrev pub combine : Separator → Selector → Selector → Selector
combine Comma = Or
combine Step = Parent
combine Spaces = Descendant
combine Touch = And

-- The parts are nested from the left, with `,` loosest: all that stands before the last `,`, where
-- there is one, and the chain after it.

abbrev pub push_complex : Option Selector → Selector → Selector
push_complex None chain = chain
push_complex (Some before) chain = Or before chain

abbrev pub list_after : Separator → Option Selector → Selector → Option Selector
list_after Comma before chain = Some (push_complex before chain)
list_after link before chain = before

abbrev pub complex_after : Separator → Selector → Selector → Selector
complex_after Comma chain part = part
complex_after link chain part = combine link chain part

abbrev pub nest : Option Selector → Selector → List (Separator × Selector) → Selector
nest before chain [] = push_complex before chain
nest before chain (p ∷ ps) = nest (list_after p.0 before chain) (complex_after p.0 chain p.1) ps

-- the selector of a text, `None` where the text is none
abbrev pub selector_at : List ℕ → Option Selector
selector_at s =
    simple_at (drop_while is_space s) >>= λ first. option_map (nest None first.0) (parts_at first.1)
