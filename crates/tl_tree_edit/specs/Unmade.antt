-- Why it isn't known whether an operation was made.
use Rattle.std.specs.Prelude.{Bool, List, Some, false, slice_get, ℕ, ⊤, ◌≡◌}
use Rattle.tl_dom_spec.specs.HtmlTree.{Context, is_fragment_in_proportion_by, standard}
use Rattle.tl_tree.specs.Rows.{Row}
use Rattle.tl_tree.specs.Sources.{IsOutOfProportionAt, fragment_begin}
use Rattle.tl_tree.specs.declared.error.ReadError.{ReadError}
use Rattle.tl_tree.specs.declared.error.ReadError.TheVariants as read
use Rattle.tl_tree_edit.specs.Operations.{Operation, changes_each, context, puts}
use Rattle.tl_tree_edit.specs.declared.error.MadeError.{MadeError}
use Rattle.tl_tree_edit.specs.declared.error.MadeError.TheVariants as error
use Rattle.tl_tree_edit.specs.declared.position.Position.{Position}

-- why markup isn't read in an element
abbrev pub IsUnreadIn : List ℕ → Context → ReadError → Type 0
IsUnreadIn markup own read.OutOfMemory = ⊤
IsUnreadIn markup own read.TooLarge = ⊤
IsUnreadIn markup own (read.OutOfProportion at) =
    (is_fragment_in_proportion_by standard own markup ≡ false)
    × IsOutOfProportionAt markup (fragment_begin standard own) at

-- it isn't read where it comes to stand, seen from one of some elements
pub record IsUnreadSeen (rows : List Row) (is_quirks : Bool) (position : Position)
    (markup numbers : List ℕ) (why : ReadError) : Type 0 where
  pub place : ℕ
  pub number : ℕ
  pub among : slice_get numbers place ≡ Some number
  pub unread : IsUnreadIn markup (context rows is_quirks position number) why

abbrev pub IsUnput : List Row → Bool → Position → List ℕ → List ℕ → MadeError → Type 0
IsUnput rows is_quirks position markup numbers error.OutOfMemory = ⊤
IsUnput rows is_quirks position markup numbers (error.Unread why) =
    IsUnreadSeen rows is_quirks position markup numbers why

-- why it isn't known of an operation on some elements: of want of memory nothing is said
abbrev pub IsUnmade : List Row → Bool → List ℕ → Operation → MadeError → Type 0
IsUnmade rows is_quirks numbers (changes_each change) why = why ≡ error.OutOfMemory
IsUnmade rows is_quirks numbers (puts position markup) why =
    IsUnput rows is_quirks position markup numbers why
