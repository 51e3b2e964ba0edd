-- What is found, row by row.
use Rattle.std.specs.Prelude.{◌≡◌, ◌↔◌, ◌<◌, ◌≤◌, ℕ, List, None, Option, Some, true, ⊤}
use Rattle.std.specs.List.{AllPairs, Contains}
use Rattle.tl_css.specs.Program.{selector_of}
use Rattle.tl_css.specs.Selector.{Css}
use Rattle.tl_css.specs.declared.selector.Link.TheVariants.{Parent}
use Rattle.tl_css.specs.declared.selector.Way.TheVariants.{From}
use Rattle.tl_tree.specs.Asked.{node_at}
use Rattle.tl_tree.specs.Rows.{IsInRange, contents}
use Rattle.tl_tree_select.specs.Inner.Columns.{AreMarks}
use Rattle.tl_tree_select.specs.Inner.Looking.{IsSeen, is_exact}
use Rattle.tl_tree_select.specs.declared.look.Look.{Look}
use Rattle.tl_tree_select.specs.Meaning.{Holds, IsUpTo}
use Rattle.tl_tree_select.specs.Inner.Compound.{HoldBelow, IsCompound}
use Rattle.tl_tree_select.specs.Page.{Page}
use Rattle.tl_tree_select.specs.declared.finder.Finder.{Finder}
use Rattle.tl_tree_select.specs.declared.passing.Place.{Place}
use Rattle.tl_tree_select.specs.declared.finder.Finder.TheVariants.{Compound, Marked}

-- what a selector is looked for by is of that selector
abbrev pub Finds : Page → Css → Finder → Type 0
Finds page e (Compound steps look asked) = IsCompound steps.now × (e ≡ selector_of steps.now)
    × ((n : ℕ) → Holds page e n → IsSeen page look n)
    × ((n : ℕ) → (is_exact look ≡ true → IsSeen page look n) → HoldBelow page steps.now n asked)
Finds page e (Marked marks) = AreMarks page e marks.items

-- what a look answers of a row, where no more is seen than is there: the first tests of a compound
abbrev pub IsAnswered : Page → Finder → ℕ → Type 0
IsAnswered page (Compound steps look asked) n = HoldBelow page steps.now n asked
IsAnswered page (Marked marks) n = ⊤

-- a look is one for what is looked for
pub record IsLookFor (page : Page) (e : Css) (finder : Finder) (look : Look) : Type 0 where
  pub sees : (n : ℕ) → Holds page e n → IsSeen page look n
  pub answers : (n : ℕ) → (is_exact look ≡ true → IsSeen page look n) → IsAnswered page finder n

-- a row stands in contents that stand from a number on
abbrev pub IsHidden : Page → ℕ → ℕ → Type 0
IsHidden page start n = (m : ℕ) × (start ≤ m) × (node_at page.rows m ≡ Some contents)
    × IsInRange page.rows m n

-- a selector holds at a row from a number on, outside of contents from there on
abbrev pub IsFoundFrom : Page → Css → ℕ → ℕ → Type 0
IsFoundFrom page e start n = Holds page e n × (start ≤ n) × (IsHidden page start n → ⊥)

-- what stands from a number on, and before another one, stands in contents that come before it,
-- from a third one on
abbrev pub EndsContents : Page → ℕ → ℕ → ℕ → Type 0
EndsContents page start number behind = (n : ℕ) → number ≤ n → (n < behind) ↔ ((m : ℕ)
    × (start ≤ m) × (m < number) × (node_at page.rows m ≡ Some contents) × IsInRange page.rows m n)

-- where a way outwards goes on, a row is reached from there
abbrev pub LeadsTo : Page → Option ℕ → ℕ → Type 0
LeadsTo page None k = ⊥
LeadsTo page (Some at) k = IsUpTo page From Parent k at

-- the numbers below one that have a property: each once, rising
pub record AreBelow (P : ℕ → Type 0) (number : ℕ) (ns : List ℕ) : Type 0 where
  pub rising : AllPairs (λ m n. m < n) ns
  pub each : (n : ℕ) → Contains ns n ↔ ((n < number) × P n)

-- contents that begin before a place, from a number on, end there
abbrev pub IsPlace : Page → ℕ → Place → Type 0
IsPlace page start place =
    (start ≤ place.number) × EndsContents page start place.number place.behind

-- of what is found from a place on, and before a number, the first stands at another place
pub record IsNext (page : Page) (e : Css) (start from end : ℕ) (at : Place) : Type 0 where
  pub within : (from ≤ at.number) × (at.number < end)
  pub found : IsFoundFrom page e start at.number
  pub first : (n : ℕ) → from ≤ n → n < at.number → IsFoundFrom page e start n → ⊥
  pub place : IsPlace page start at
