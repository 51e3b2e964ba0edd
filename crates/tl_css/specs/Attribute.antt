-- Attribute selectors: `[key]`, `[key op value]`, `[key op value flag]`.
use Rattle.std.specs.Prelude.{ℕ, ◌==◌, if◌then◌else◌, List, [], ◌∷◌, Option, Some, None, codes, Result, Ok}
use Rattle.std.specs.Str.{byte}
use Rattle.tl_spec.specs.Lex.ByteClass.{is_quote}
use Rattle.tl_css.specs.declared.error.Wrong.{Wrong}
use Rattle.tl_css.specs.declared.error.Cause.TheVariants.{Unclosed, NoOperator, NoValue, NoFlag, Namespace, Unexpected}
use Rattle.tl_css.specs.declared.selector.Case.{Case}
use Rattle.tl_css.specs.declared.selector.Case.TheVariants.{Unsaid, Folded, Exact}
use Rattle.tl_css.specs.declared.selector.Op.{Op}
use Rattle.tl_css.specs.declared.selector.Op.TheVariants.{Equals, Word, Dashed, Starts, Ends, Inside}
use Rattle.tl_css.specs.declared.selector.Space.{Space}
use Rattle.tl_css.specs.declared.selector.Space.TheVariants.{Bare, Every}
use Rattle.tl_css.specs.Selector.{Ident, ident_of, Test, Key, Value}
use Rattle.tl_css.specs.Read.{Read, wrong, wrong_at, ◌>>=◌, after_byte}
use Rattle.tl_css.specs.Lexical.{run_at, begins_name, name_at, is_word, gap_at, past_comments}

-- what stands before a name: `|` for no namespace, `*|` for any; nothing says the same as `|`
abbrev pub starred_by : List ℕ → Option (List ℕ) → Space × List ℕ
starred_by s None = (Bare, s)
starred_by s (Some rest) = (Every, past_comments rest)

abbrev pub space_at : List ℕ → Space × List ℕ
space_at [] = (Bare, [])
space_at (b ∷ s) = if b == byte "|" then (Bare, past_comments s)
    else (if b == byte "*" then starred_by (b ∷ s) (after_byte (byte "|") (past_comments s))
    else (Bare, b ∷ s))

-- a key, and the namespaces that it is looked for in
abbrev pub key_at : List ℕ → Read (Space × Ident)
key_at s = name_at (space_at s).1 >>= λ name. Ok (((space_at s).0, ident_of name.0), name.1)

-- the op whose first byte this is, where a `=` follows
abbrev pub op_of : ℕ → Option Op
op_of b =
    if b == byte "~" then Some Word
    else (if b == byte "|" then Some Dashed
    else (if b == byte "^" then Some Starts
    else (if b == byte "$" then Some Ends
    else (if b == byte "*" then Some Inside
    else None))))

abbrev pub op_by : ℕ → List ℕ → Option Op → Option (List ℕ) → Read Op
op_by b s (Some op) (Some rest) = Ok (op, rest)
op_by b s None (Some rest) = wrong (b ∷ s) NoOperator
op_by b s op None = if b == byte "|" then wrong (b ∷ s) Namespace else wrong (b ∷ s) NoOperator

abbrev pub op_at : List ℕ → Read Op
op_at [] = wrong [] NoOperator
op_at (b ∷ s) =
    if b == byte "=" then Ok (Equals, s) else op_by b s (op_of b) (after_byte (byte "=") s)

abbrev pub string_by : List ℕ → ℕ → List ℕ × List ℕ → Read (List ℕ)
string_by s quote run = elim (after_byte quote run.1) as (λ _. Read (List ℕ))
    [ None ↦ wrong s Unclosed | Some rest ↦ Ok (run.0, rest) ]

-- a value: a name, or a string between two of the same quotes; `opened` is where its bracket was
-- opened
abbrev pub value_at : ℕ → List ℕ → Read (List ℕ)
value_at opened [] = wrong_at opened Unclosed
value_at opened (b ∷ s) =
    if is_quote b then string_by (b ∷ s) b (run_at (Some b) s)
    else (if begins_name (b ∷ s) then Ok (run_at None (b ∷ s)) else wrong (b ∷ s) NoValue)

-- a flag, or none: how case counts
abbrev pub flag_at : List ℕ → Read Case
flag_at s =
    if begins_name s then
    (if is_word s (codes "i") then Ok (Folded, (run_at None s).1)
    else (if is_word s (codes "s") then Ok (Exact, (run_at None s).1) else wrong s NoFlag))
    else Ok (Unsaid, s)

-- what stands after the `]`
abbrev pub close_at : ℕ → List ℕ → Result (List ℕ) Wrong
close_at opened [] = wrong_at opened Unclosed
close_at opened (b ∷ s) = if b == byte "]" then Ok s else wrong (b ∷ s) Unexpected

-- what stands after a key and an op: a value, a flag or none, and `]`
abbrev pub match_at : ℕ → Space × Ident → Op → List ℕ → Read Test
match_at opened key op s =
    gap_at s >>= λ a. value_at opened a.1 >>= λ value. gap_at value.1 >>= λ b.
    flag_at b.1 >>= λ case. gap_at case.1 >>= λ c.
    close_at opened c.1 >>= λ rest. Ok (Value key.0 key.1 op value.0 case.0, rest)

abbrev pub after_key : ℕ → Space × Ident → List ℕ → Read Test
after_key opened key [] = wrong_at opened Unclosed
after_key opened key (b ∷ s) = if b == byte "]" then Ok (Key key.0 key.1, s)
    else (op_at (b ∷ s) >>= λ op. match_at opened key op.0 op.1)

-- from after the `[` on
abbrev pub attribute_at : ℕ → List ℕ → Read Test
attribute_at opened s =
    gap_at s >>= λ a. key_at a.1 >>= λ key. gap_at key.1 >>= λ b. after_key opened key.0 b.1
