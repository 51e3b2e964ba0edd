-- What a selector of CSS says of the document that is held, if one is.
use Rattle.std.specs.Prelude.{◌≡◌, ◌↔◌, ◌⊎◌, ℕ, Bool, true, false, List, Option, None, Some, MatchOption, Result, Ok, Err, ⊤, if◌then◌else◌, slice_get}
use Rattle.std.specs.Result.{result_err}
use Rattle.std.specs.Str.{is_utf8}
use Rattle.tl_css.specs.Reading.{css_at}
use Rattle.tl_css.specs.Relative.{relative_at}
use Rattle.tl_css.specs.Selector.{Css}
use Rattle.tl_css.specs.declared.error.Cause.{Cause}
use Rattle.tl_css.specs.declared.error.Cause.TheVariants.{Unclosed, NoSelector, NoName, NoOperator, NoValue, NoFlag, NoFormula, LargeNumber, NoPseudoClass, PseudoElement, Namespace, NeedsArgument, TakesNone, TooDeep, Unexpected}
use Rattle.tl_css.specs.declared.selector.Link.TheVariants.{Parent}
use Rattle.tl_css.specs.declared.selector.Way.TheVariants.{From}
use Rattle.tl_tree.specs.declared.tree.Tree.{Tree}
use Rattle.tl_tree_select.specs.Meaning.{AreFound, AreFoundBelow, Holds, IsClosest, IsFirst, IsFound, IsUpTo}
use Rattle.tl_tree_select.specs.Page.{page_from, page_of}
use Rattle.tl_page.specs.Outcome.{Outcome, not_understood, refused, success}
use Rattle.tl_c.specs.Readings.{IsReadable}
use Rattle.tl_c.specs.Queries.{outcome_of_some, tree_held, tree_in}
use Rattle.tl_c.specs.declared.css.Reading.{Reading}
use Rattle.tl_c.specs.declared.css.Reading.TheVariants.{Relative, Whole}
use Rattle.tl_c.specs.declared.parsed_page.ParsedPage.{ParsedPage}

-- the number of a cause in the header
abbrev pub number_of_cause : Cause → ℕ
number_of_cause Unclosed = 1
number_of_cause NoSelector = 2
number_of_cause NoName = 3
number_of_cause NoOperator = 4
number_of_cause NoValue = 5
number_of_cause NoFlag = 6
number_of_cause NoFormula = 7
number_of_cause LargeNumber = 8
number_of_cause NoPseudoClass = 9
number_of_cause PseudoElement = 10
number_of_cause Namespace = 11
number_of_cause NeedsArgument = 12
number_of_cause TakesNone = 13
number_of_cause TooDeep = 14
number_of_cause Unexpected = 15

-- the first byte that is wrong and its cause are told; 0 and 0 where nothing is wrong
abbrev pub IsTold : Option (ℕ × Cause) → ℕ → ℕ → Type 0
IsTold None place cause = (place ≡ 0) × (cause ≡ 0)
IsTold (Some wrong) place cause = (place ≡ wrong.0) × (cause ≡ number_of_cause wrong.1)

-- how bytes are read as a selector: alone, or relative to a node
abbrev pub read_by : Reading → List ℕ → Result Css (ℕ × Cause)
read_by Whole text = css_at text
read_by Relative text = relative_at text

-- what is wrong with bytes as a selector; of what is no text nothing is said
abbrev pub wrong_by : Reading → List ℕ → Option (ℕ × Cause)
wrong_by reading text = if is_utf8 text then result_err (read_by reading text) else None

abbrev pub wrong_in : List ℕ → Option (ℕ × Cause)
wrong_in text = wrong_by Whole text

abbrev pub outcome_of_css : Result Css (ℕ × Cause) → Outcome Css
outcome_of_css (Ok e) = success e
outcome_of_css (Err wrong) = refused

-- the selector that bytes are; a text that is none is refused
abbrev pub css_by : Reading → List ℕ → Outcome Css
css_by reading text =
    if is_utf8 text then outcome_of_css (read_by reading text) else not_understood

abbrev pub css_in : List ℕ → Outcome Css
css_in text = css_by Whole text

-- a selector, a change and a page with which nothing can be asked: the selector is no text, the
-- change is none, or the page can't be read
abbrev pub IsUnasked : {X : Type 0} → List ℕ → Option X → List ℕ → Type 0
IsUnasked selector asked page = (is_utf8 selector ≡ false) ⊎ ((asked ≡ None)
    ⊎ (IsReadable page → ⊥))

-- what is said of a selector and of a tree, where both are there
abbrev pub IfBoth : (Css → Tree → Type 0) → Outcome Css → Option Tree → Type 0
IfBoth P (success e) None = ⊤
IfBoth P (success e) (Some tree) = P e tree
IfBoth P refused place = ⊤
IfBoth P not_understood place = ⊤

-- these are the numbers of the elements where the selector holds
abbrev pub AreFoundBy : Outcome Css → Option ParsedPage → List ℕ → Type 0
AreFoundBy css held ns = IfBoth (λ e tree. AreFound (page_of tree) e ns) css (tree_held held)

-- the first of them, if there is one
abbrev pub IsFirstBy : Outcome Css → Option ParsedPage → Option ℕ → Type 0
IsFirstBy css held number =
    IfBoth
    (λ e tree. MatchOption number
    ((n : ℕ) → IsFound (page_of tree) e n → ⊥)
    (IsFirst (page_of tree) e))
    css
    (tree_held held)

-- these are those of the elements below a node
abbrev pub AreFoundBelowBy : ℕ → Outcome Css → Option ParsedPage → List ℕ → Type 0
AreFoundBelowBy node css held ns =
    IfBoth (λ e tree. AreFoundBelow (page_from tree node) e node ns) css (tree_in node held)

-- this says whether the selector holds at a node
abbrev pub TellsAt : ℕ → Outcome Css → Option ParsedPage → Bool → Type 0
TellsAt node css held holds =
    IfBoth (λ e tree. (holds ≡ true) ↔ Holds (page_from tree node) e node) css (tree_in node held)

-- this is the innermost element from a node on outwards where it holds, if there is one
abbrev pub IsClosestBy : ℕ → Outcome Css → Option ParsedPage → Option ℕ → Type 0
IsClosestBy node css held number =
    IfBoth
    (λ e tree. let page = page_from tree node in MatchOption number
    ((m : ℕ) → IsUpTo page From Parent m node → Holds page e m → ⊥)
    (IsClosest page e node))
    css
    (tree_in node held)

-- what is answered of a document or of a node; where there is none that is refused, and so is what
-- is no selector
abbrev pub answer_by : {X A : Type 0} → Outcome Css → Option X → A → Outcome A
answer_by (success e) place answer = outcome_of_some (λ _. success answer) place
answer_by refused place answer = refused
answer_by not_understood place answer = not_understood

-- the first of the numbers; where there is none that is refused
abbrev pub first_of : Outcome (List ℕ) → Outcome ℕ
first_of (success ns) = outcome_of_some success (slice_get ns 0)
first_of refused = refused
first_of not_understood = not_understood

-- a number that was found; where none was that is refused
abbrev pub found_or_refused : Outcome (Option ℕ) → Outcome ℕ
found_or_refused (success number) = outcome_of_some success number
found_or_refused refused = refused
found_or_refused not_understood = not_understood
