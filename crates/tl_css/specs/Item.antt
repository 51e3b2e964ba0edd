-- What stands next in a selector text: a simple selector with the combinator before it, a comma, or
-- the end of a list.
use Rattle.std.specs.Prelude.{ℕ, Bool, true, false, not, ◌&&◌, ◌==◌, if◌then◌else◌, List, [], ◌∷◌, length, Option, Some, None, codes, Ok, unwrap_or}
use Rattle.std.specs.Str.{byte}
use Rattle.std.specs.List.{list_any}
use Rattle.tl_css.specs.declared.error.Cause.{Cause}
use Rattle.tl_css.specs.declared.error.Cause.TheVariants.{Unclosed, NoName, NoSelector, Namespace, Unexpected}
use Rattle.tl_css.specs.declared.selector.Anchor.TheVariants.{Scope}
use Rattle.tl_css.specs.declared.text.role.Role.{Role}
use Rattle.tl_css.specs.declared.text.role.Role.TheVariants.{Top, Is as IsRole, Not as NotRole, Has, NthOf}
use Rattle.tl_css.specs.declared.text.role.Combinator.{Combinator}
use Rattle.tl_css.specs.declared.text.role.Combinator.TheVariants.{Descendant, Child, NextSibling, SubsequentSibling}
use Rattle.tl_css.specs.declared.text.role.Before.{Before}
use Rattle.tl_css.specs.declared.text.role.Before.TheVariants.{Touching, After, Begin}
use Rattle.tl_css.specs.Selector.{ident_of, Test, Any, Name, Id, Class, Is}
use Rattle.tl_css.specs.Read.{Read, wrong, wrong_at, ◌>>=◌, after_byte}
use Rattle.tl_css.specs.Lexical.{run_at, begins_name, name_at, gap_at, ident_run, past_comments}
use Rattle.tl_css.specs.Attribute.{attribute_at}
use Rattle.tl_css.specs.PseudoClass.{Simple, Whole, nowhere, outermost, pseudo_at}

abbrev pub unexpected : ℕ → Cause
unexpected b =
    if b == byte "|" then Namespace
    else (if list_any (λ c. b == c) (codes ",)>+~") then NoSelector
    else Unexpected)

-- a simple selector that may stand after others
abbrev pub simple_at : List ℕ → Read Simple
simple_at [] = wrong [] NoSelector
simple_at (b ∷ s) =
    if b == byte ":" then pseudo_at (b ∷ s) (past_comments s)
    else (if b == byte "[" then (attribute_at (length (b ∷ s)) s >>= λ test.
    Ok (Whole (Is test.0), test.1))
    else (if b == byte "#" then (name_at s >>= λ id. Ok (Whole (Is (Id id.0)), id.1))
    else (if b == byte "." then (name_at (past_comments s) >>= λ class.
    Ok (Whole (Is (Class class.0)), class.1))
    else (if b == byte "&" then Ok (Whole (outermost Scope), s)
    else wrong (b ∷ s) (unexpected b)))))

-- what stands after the `|` of a type: `*`, or a name
abbrev pub type_at : List ℕ → Read Test
type_at [] = wrong [] NoName
type_at (b ∷ s) = if b == byte "*" then Ok (Any, s)
    else (name_at (b ∷ s) >>= λ name. Ok (Name (ident_of name.0), name.1))

-- after a `*`: a `|` makes it any namespace, in which a type stands
abbrev pub star_by : List ℕ → Option (List ℕ) → Read Simple
star_by s None = Ok (Whole (Is Any), s)
star_by s (Some rest) = type_at (past_comments rest) >>= λ test. Ok (Whole (Is test.0), test.1)

-- a simple selector that may stand first: a type selector too. A `|` at its front asks for no
-- namespace
abbrev pub first_at : List ℕ → Read Simple
first_at [] = wrong [] NoSelector
first_at (b ∷ s) =
    if b == byte "*" then star_by s (after_byte (byte "|") (past_comments s))
    else (if b == byte "|" then (type_at (past_comments s) >>= λ test. Ok (Whole nowhere, test.1))
    else (if begins_name (b ∷ s) then Ok
    (Whole (Is (Name (ident_run (b ∷ s)))), (run_at None (b ∷ s)).1)
    else simple_at (b ∷ s)))

abbrev pub combinator_of : ℕ → Option Combinator
combinator_of b =
    if b == byte ">" then Some Child
    else (if b == byte "+" then Some NextSibling
    else (if b == byte "~" then Some SubsequentSibling
    else None))

abbrev pub combinator_by : List ℕ → Option Combinator → List ℕ → Read (Option Combinator)
combinator_by s None rest = Ok (None, s)
combinator_by s (Some combinator) rest = gap_at rest >>= λ gap. Ok (Some combinator, gap.1)

-- a combinator that a byte says, or none, and the gap after it
abbrev pub combinator_at : List ℕ → Read (Option Combinator)
combinator_at [] = Ok (None, [])
combinator_at (b ∷ s) = combinator_by (b ∷ s) (combinator_of b) s

-- what stands next in a list
pub data Item : Type 0 where
  End : Item
  Comma : Item
  -- a simple selector, what stands before it, and how many bytes are left from it on
  Part : Before → ℕ → Simple → Item

abbrev pub part : Before → List ℕ → Read Simple → Read Item
part before s simple = simple >>= λ simple. Ok (Part before (length s) simple.0, simple.1)

abbrev pub is_relative : Role → Bool
is_relative Top = false
is_relative IsRole = false
is_relative NotRole = false
is_relative Has = true
is_relative (NthOf way formula) = false

abbrev pub is_top : Role → Bool
is_top Top = true
is_top IsRole = false
is_top NotRole = false
is_top Has = false
is_top (NthOf way formula) = false

-- the combinator at the front of a complex selector: a relative one may begin with it
abbrev pub leading_at : Role → List ℕ → Read Combinator
leading_at role s =
    if is_relative role then (combinator_at s >>= λ combinator.
    Ok (unwrap_or combinator.0 Descendant, combinator.1))
    else Ok (Descendant, s)

-- the first item of a complex selector
abbrev pub begin_at : Role → List ℕ → Read Item
begin_at role s = gap_at s >>= λ gap. leading_at role gap.1 >>= λ combinator.
    part (Begin combinator.0) combinator.1 (first_at combinator.1)

abbrev pub part_at : Bool → Option Combinator → List ℕ → Read Item
part_at spaced (Some combinator) s = part (After combinator) s (first_at s)
part_at true None s = part (After Descendant) s (first_at s)
part_at false None s = part Touching s (simple_at s)

abbrev pub next_by : Role → ℕ → Bool → List ℕ → Read Item
next_by role opened spaced [] = if is_top role then Ok (End, []) else wrong_at opened Unclosed
next_by role opened spaced (b ∷ s) =
    if b == byte "," then Ok (Comma, s)
    else (if (b == byte ")") && not (is_top role) then Ok (End, s)
    else (combinator_at (b ∷ s) >>= λ combinator. part_at spaced combinator.0 combinator.1))

-- the next item after a simple selector, in a list whose bracket was opened where so many bytes
-- were left
abbrev pub next_at : Role → ℕ → List ℕ → Read Item
next_at role opened s = gap_at s >>= λ gap. next_by role opened gap.0 gap.1
