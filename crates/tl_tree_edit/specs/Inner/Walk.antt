-- Two trees read side by side: what is left of each.
use Rattle.std.specs.Prelude.{Bool, List, None, Option, Some, [], drop, false, if◌then◌else◌, map, reverse, true, ℕ, ⊤, ◌==◌, ◌++◌, ◌≡◌, ◌≢◌, ◌↔◌, ◌∷◌}
use Rattle.std.specs.Option.{option_map}
use Rattle.tl_tree.specs.Asked.{node_at}
use Rattle.tl_tree.specs.Rows.{Node, Row}
use Rattle.tl_tree.specs.TreeView.{rows_in}
use Rattle.tl_tree.specs.declared.kind.Kind.{Kind}
use Rattle.tl_tree.specs.declared.kind.Kind.TheVariants as kinds
use Rattle.tl_tree_edit.specs.Bare.{bare}
use Rattle.tl_tree_edit.specs.Changes.{Change, Edit, changed, changed_node, is_emptied, last_of, steps_from}
use Rattle.tl_tree_edit.specs.Events as spec
use Rattle.tl_tree_edit.specs.Events.{Step, begins, ends, has_end, kept, opened, said, says}
use Rattle.tl_tree_edit.specs.View.{change_of, edits_of}
use Rattle.tl_tree_edit.specs.declared.events.Event.{Event}
use Rattle.tl_tree_edit.specs.declared.events.Event.TheVariants.{Begins, Ends, Says}
use Rattle.tl_tree_edit.specs.declared.events.Events.{Events}
use Rattle.tl_tree_edit.specs.declared.walk.Open.{Open}
use Rattle.tl_tree_edit.specs.declared.walk.Walk.{Walk}

-- One tree

abbrev pub own_open : ℕ → spec.Open
own_open end = record { end = end; last = ends ∷ [] }

-- the innermost first
abbrev pub own_opens : List ℕ → List spec.Open
own_opens outer = map own_open (reverse outer)

-- what a tree says from a row on, with these open
abbrev pub rest_of : List Row → List ℕ → ℕ → List spec.Event
rest_of rows outer n = said (own_opens outer) 0 n (map kept (drop n rows))

abbrev pub left : Events → List spec.Event
left e = map says e.text.now ++ rest_of (rows_in e.tree.now) e.ends.items e.number

-- the innermost of these doesn't end there
abbrev pub AreLeft : Option ℕ → List spec.Open → Type 0
AreLeft at [] = ⊤
AreLeft at (o ∷ outer) = spec.is_past at o.end ≡ false

-- the number of a row, if there is such a row
abbrev pub row_at : List Row → ℕ → Option ℕ
row_at rows n = option_map (λ (node : Node). n) (node_at rows n)

abbrev pub is_kind_with_end : Kind → Bool
is_kind_with_end kinds.Element = true
is_kind_with_end kinds.Contents = true
is_kind_with_end _ = false

-- with one more that is open, or without
abbrev pub held : Bool → List ℕ → ℕ → List ℕ
held is outer end = if is then outer ++ end ∷ [] else outer

-- the next event, and what is left behind it
pub record IsBegun (rows : List Row) (n : ℕ) (old new : List spec.Event) : Type 0 where
  pub node : Node
  pub stands : node_at rows n ≡ Some node
  pub says : old ≡ begins (bare node) ∷ new

abbrev pub IsNext : List Row → List spec.Event → List spec.Event → Option Event → Type 0
IsNext rows old new None = old ≡ []
IsNext rows old new (Some (Begins n)) = IsBegun rows n old new
IsNext rows old new (Some (Says byte)) = old ≡ says byte ∷ new
IsNext rows old new (Some Ends) = old ≡ ends ∷ new

-- Two trees side by side

-- What is left of one begins with what another one says, where what is left then begins with what
-- that says then; or it doesn't.
abbrev pub Follows : (says-now says-then left-now left-then : List spec.Event) → Bool → Type 0
Follows says-now says-then left-now left-then true =
    (rest : List spec.Event) → (left-now ≡ says-now ++ rest) ↔ (left-then ≡ says-then ++ rest)
Follows says-now says-then left-now left-then false =
    (rest : List spec.Event) → left-now ≢ says-now ++ rest

-- what is left of a tree begins with these
abbrev pub Meets : List spec.Event → Events → Events → Bool → Type 0
Meets these old new is = Follows these [] (left old) (left new) is

abbrev pub changed_by : Option Change → Node → Node
changed_by None node = node
changed_by (Some change) node = changed_node change node

abbrev pub last_by : Option Change → List spec.Event
last_by None = ends ∷ []
last_by (Some change) = last_of change

abbrev pub open_of : Open → spec.Open
open_of o = record { end = o.end; last = last_by (option_map change_of o.change) }

-- the innermost first
abbrev pub all_open : List Open → List spec.Open
all_open outer = map open_of (reverse outer)

abbrev pub opens_of : Walk → List spec.Open
opens_of w = all_open w.outer.items

-- the edits that are still to be made
abbrev pub edits_left : Walk → List Edit
edits_left w = edits_of (drop w.next w.edits.now)

-- what the old tree says from a row on, once it is edited
abbrev pub remaining : List Row → ℕ → Walk → List spec.Event
remaining rows n w = said (opens_of w) w.until n (steps_from (edits_left w) n (drop n rows))

-- What is done to a row

-- that of the first of these edits, if it is of this number
abbrev pub edit_in : ℕ → List Edit → Option Change
edit_in n [] = None
edit_in n (e ∷ edits) = if e.number == n then Some e.change else None

-- from which row on something is said again
abbrev pub until_by : Option Change → ℕ → ℕ → ℕ
until_by None end until = until
until_by (Some change) end until = if is_emptied change then end else until

abbrev pub step_by : Option Change → Row → Step
step_by None row = kept row
step_by (Some change) row = if has_end row.node then changed change row else kept row

-- a row was met, and is open now
pub record AreOpened (step : Step) (old new : Walk) : Type 0 where
  pub outer : opens_of new ≡ opened step (opens_of old)
  pub until : new.until ≡ (if step.is_over then step.end else old.until)

abbrev pub IsStepped : Step → Walk → Walk → List spec.Event → List spec.Event → Bool → Type 0
IsStepped step old new left-now left-then true =
    AreOpened step old new × Follows step.first [] left-now left-then true
IsStepped step old new left-now left-then false = Follows step.first [] left-now left-then false
