-- Pseudo-classes, by their names and arguments.
use Rattle.std.specs.Prelude.{ℕ, Bool, true, false, ◌&&◌, ◌==◌, if◌then◌else◌, List, [], ◌∷◌, length, drop, Option, Some, None, codes, Ok, bytes_eq}
use Rattle.std.specs.Str.{byte}
use Rattle.tl_css.specs.declared.error.Cause.TheVariants.{Unclosed, NoFormula, NoPseudoClass, PseudoElement, NeedsArgument, TakesNone}
use Rattle.tl_css.specs.declared.selector.Anchor.{Anchor}
use Rattle.tl_css.specs.declared.selector.Anchor.TheVariants.{Root, Scope}
use Rattle.tl_css.specs.declared.selector.Formula.{Formula}
use Rattle.tl_css.specs.declared.selector.Link.{Link}
use Rattle.tl_css.specs.declared.selector.Link.TheVariants.{Parent, Sibling, Twin}
use Rattle.tl_css.specs.declared.selector.Reach.TheVariants.{Once}
use Rattle.tl_css.specs.declared.selector.Way.{Way}
use Rattle.tl_css.specs.declared.selector.Way.TheVariants.{From, To}
use Rattle.tl_css.specs.declared.text.role.Role.{Role}
use Rattle.tl_css.specs.declared.text.role.Role.TheVariants.{Is as IsRole, Not as NotRole, Has, NthOf}
use Rattle.tl_css.specs.declared.text.role.PseudoClass.{PseudoClass}
use Rattle.tl_css.specs.declared.text.role.PseudoClass.TheVariants as p
use Rattle.tl_css.specs.Selector.{Any, Empty, May, Css, Is, Not, Both, At, Nth}
use Rattle.tl_css.specs.Read.{Read, wrong, wrong_at, ◌>>=◌}
use Rattle.tl_css.specs.Lexical.{run_at, begins, name_at, is_word, gap_at, lower_run}
use Rattle.tl_css.specs.Formula.{formula_at}

-- no link leads from here, or to here: this is the first tag along it, or the last
abbrev pub edge : Way → Link → Css
edge way link = Not (At way link Once (Is Any))

abbrev pub only : Link → Css
only link = Both (edge From link) (edge To link)

-- of the tags that may be this anchor the outermost: one whose parent may not be it
abbrev pub outermost : Anchor → Css
outermost anchor = Both (Is (May anchor)) (Not (At From Parent Once (Is (May anchor))))

-- in no namespace: each element of a page is in one
abbrev pub nowhere : Css
nowhere = Not (Is Any)

-- the pseudo-classes without an argument
abbrev pub plain_class : List ℕ → Option PseudoClass
plain_class word =
    if bytes_eq word (codes "first-child") then Some (p.Edge From Sibling)
    else (if bytes_eq word (codes "last-child") then Some (p.Edge To Sibling)
    else (if bytes_eq word (codes "only-child") then Some (p.Only Sibling)
    else (if bytes_eq word (codes "first-of-type") then Some (p.Edge From Twin)
    else (if bytes_eq word (codes "last-of-type") then Some (p.Edge To Twin)
    else (if bytes_eq word (codes "only-of-type") then Some (p.Only Twin)
    else (if bytes_eq word (codes "root") then Some (p.Outermost Root)
    else (if bytes_eq word (codes "scope") then Some (p.Outermost Scope)
    else (if bytes_eq word (codes "empty") then Some p.Empty
    else None))))))))

-- those of a formula
abbrev pub nth_class : List ℕ → Option PseudoClass
nth_class word =
    if bytes_eq word (codes "nth-child") then Some (p.Nth From Sibling)
    else (if bytes_eq word (codes "nth-last-child") then Some (p.Nth To Sibling)
    else (if bytes_eq word (codes "nth-of-type") then Some (p.Nth From Twin)
    else (if bytes_eq word (codes "nth-last-of-type") then Some (p.Nth To Twin)
    else None)))

-- those of a list of selectors
abbrev pub list_class : List ℕ → Option PseudoClass
list_class word =
    if bytes_eq word (codes "not") then Some (p.List NotRole)
    else (if bytes_eq word (codes "is") then Some (p.List IsRole)
    else (if bytes_eq word (codes "where") then Some (p.List IsRole)
    else (if bytes_eq word (codes "has") then Some (p.List Has)
    else None)))

abbrev pub or_else : {A : Type 0} → Option A → Option A → Option A
or_else None o = o
or_else (Some x) o = Some x

abbrev pub pseudo_class : List ℕ → Option PseudoClass
pseudo_class word = or_else (plain_class word) (or_else (nth_class word) (list_class word))

-- a simple selector: read to its end, or up to a list in brackets, with what that is for and how
-- many bytes are left from its bracket on
pub data Simple : Type 0 where
  Whole : Css → Simple
  Opens : Role → ℕ → Simple

abbrev pub begins_argument : List ℕ → Bool
begins_argument s = begins (λ b. b == byte "(") s

-- no argument stands here
abbrev pub whole_at : Css → List ℕ → Read Simple
whole_at e s = if begins_argument s then wrong s TakesNone else Ok (Whole e, s)

abbrev pub is_sibling : Link → Bool
is_sibling Parent = false
is_sibling Sibling = true
is_sibling Twin = false

-- after a formula and its gap: `)`, or `of` and a list
abbrev pub after_formula : ℕ → Way → Link → Formula → Bool → List ℕ → Read Simple
after_formula opened way link formula spaced [] = wrong_at opened Unclosed
after_formula opened way link formula spaced (b ∷ s) =
    if b == byte ")" then Ok (Whole (Nth way link formula (Is Any)), s)
    else (if spaced && (is_sibling link && is_word (b ∷ s) (codes "of")) then Ok
    (Opens (NthOf way formula) opened, (run_at None (b ∷ s)).1)
    else wrong (b ∷ s) NoFormula)

-- from after the `(` on
abbrev pub nth_at : ℕ → Way → Link → List ℕ → Read Simple
nth_at opened way link s =
    gap_at s >>= λ gap.
    (if length gap.1 == 0 then wrong_at opened Unclosed
    else (formula_at gap.1 >>= λ formula. gap_at formula.1 >>= λ rest.
    after_formula opened way link formula.0 rest.0 rest.1))

-- the bracket of an argument: how many bytes are left from it on
abbrev pub argument_at : List ℕ → Read ℕ
argument_at s = if begins_argument s then Ok (length s, drop 1 s) else wrong s NeedsArgument

-- after its name
abbrev pub class_at : PseudoClass → List ℕ → Read Simple
class_at (p.Edge way link) s = whole_at (edge way link) s
class_at (p.Only link) s = whole_at (only link) s
class_at (p.Outermost anchor) s = whole_at (outermost anchor) s
class_at p.Empty s = whole_at (Is Empty) s
class_at (p.List role) s = argument_at s >>= λ opened. Ok (Opens role opened.0, opened.1)
class_at (p.Nth way link) s = argument_at s >>= λ opened. nth_at opened.0 way link opened.1

abbrev pub class_by : Option PseudoClass → List ℕ → List ℕ → Read Simple
class_by None word s = wrong word NoPseudoClass
class_by (Some class) word s = class_at class s

-- from after the `:` on; a second one is wrong where the first one stands
abbrev pub pseudo_at : List ℕ → List ℕ → Read Simple
pseudo_at colon s =
    if begins (λ b. b == byte ":") s then wrong colon PseudoElement
    else (name_at s >>= λ name. class_by (pseudo_class (lower_run s)) s name.1)
