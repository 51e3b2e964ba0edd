-- Marks of the rows where selectors hold, one column of them for each selector that waits.
use Rattle.std.specs.Prelude.{◌≡◌, ◌↔◌, ◌&&◌, ℕ, Bool, true, false, if◌then◌else◌, List, [], ◌∷◌, length, map, reverse, ⊤}
use Rattle.std.proofs.Common.{Vec, Global}
use Rattle.tl_tree_select.specs.Page.{Page}
use Rattle.tl_css.specs.Selector.{Css, Not, Both, Either, At, Nth}
use Rattle.tl_css.specs.Program.{meet, unite}
use Rattle.tl_css.specs.declared.selector.Step.{Step}
use Rattle.tl_css.specs.declared.selector.Step.TheVariants.{Ask, Keep, Turn, Meet, Unite, Shift, Count}
use Rattle.tl_tree_select.specs.Meaning.{Holds}
use Rattle.tl_css.specs.declared.selector.Reach.{Reach}
use Rattle.tl_css.specs.declared.selector.Reach.TheVariants.{Once, Often}
use Rattle.tl_css.specs.declared.selector.Way.{Way}
use Rattle.tl_css.specs.declared.selector.Way.TheVariants.{From, To}
use Rattle.tl_tree_select.specs.Inner.Links.{is_at, passes_on, IsAhead, IsBehind, IsSource, IsTarget}
use Rattle.tl_tree_select.specs.Inner.Kin.{is_element_at}
use Rattle.tl_tree.specs.Asked.{parent_at}
use Rattle.std.specs.Option.{option_map_or}

-- a mark at each row where a selector holds, and at no other
pub record AreMarks (page : Page) (e : Css) (marks : List Bool) : Type 0 where
  pub len : length marks ≡ length page.rows
  pub each : (n : ℕ) → (is_at marks n ≡ true) ↔ Holds page e n

-- the same of all selectors that wait, the last one first
abbrev pub AreColumns : Page → List Css → List (List Bool) → Type 0
AreColumns page [] [] = ⊤
AreColumns page [] (marks ∷ columns) = ⊥
AreColumns page (e ∷ es) [] = ⊥
AreColumns page (e ∷ es) (marks ∷ columns) = AreMarks page e marks × AreColumns page es columns

abbrev pub is_often : Reach → Bool
is_often Once = false
is_often Often = true

-- an element stands in a row that has a mark, or in one that was found, where several links count
abbrev pub is_inside : Page → List Bool → Bool → List Bool → ℕ → Bool
is_inside page marks often found n = is_element_at page n
    && option_map_or (passes_on marks often found) (parent_at page.rows n) false

-- a mark is passed on to n, in this way
abbrev pub IsPassed : List ℕ → List Bool → Way → Bool → ℕ → Type 0
IsPassed links marks From often n = IsSource links marks often n
IsPassed links marks To often n = IsTarget links marks often n

-- m counts at n, in this way
abbrev pub IsCounted : List ℕ → List Bool → Way → ℕ → ℕ → Type 0
IsCounted links marks From n m = IsAhead links marks n m
IsCounted links marks To n m = IsBehind links marks n m

-- columns that are held, the last one first
abbrev pub columns_of : List (Vec Bool Global) → List (List Bool)
columns_of held = reverse (map (λ marks. marks.items) held)

-- a selector, changed by a step that changes the last one
abbrev pub changed : Step → Css → Css
changed (Ask t) e = Not e
changed (Keep t) e = Not e
changed Turn e = Not e
changed Meet e = Not e
changed Unite e = Not e
changed (Shift way link reach) e = At way link reach e
changed (Count way link formula) e = Nth way link formula e

-- the last two selectors, put together
abbrev pub joined : Bool → List Css → List Css
joined both es = if both then meet es else unite es

abbrev pub join : Bool → Css → Css → Css
join both a b = if both then Both a b else Either a b
