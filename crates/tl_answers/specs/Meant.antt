-- Whether the tree of what is written is the one that the operation of the DOM would have made.
use Rattle.std.specs.List.{list_all}
use Rattle.std.specs.Option.{option_and_then}
use Rattle.std.specs.Prelude.{Bool, Err, List, Ok, Option, Result, Some, codes, false, map, string_bytes, true, ℕ, ◌||◌, ◌≡◌}
use Rattle.std.specs.Str.{bytes_eq}
use Rattle.tl_answers.specs.Pages.{IsUnread, page_rows, searched}
use Rattle.tl_answers.specs.declared.edit.Edit.{Edit}
use Rattle.tl_answers.specs.declared.edit.Edit.TheVariants as edit
use Rattle.tl_answers.specs.declared.edit.Refusal.{Refusal}
use Rattle.tl_answers.specs.declared.edit.Refusal.TheVariants as refusal
use Rattle.tl_answers.specs.declared.meant.Meant.{Meant}
use Rattle.tl_answers.specs.declared.meant.Meant.TheVariants.{No, Unasked, Unput, Unread, Yes}
use Rattle.tl_css.specs.Selector.{Css}
use Rattle.tl_patch_edit.specs.View.{patch_view}
use Rattle.tl_patch_spec.specs.Patches as patches
use Rattle.tl_patch_spec.specs.Patches.{Content, Patch}
use Rattle.tl_tree.specs.Asked.{namespace_of, node_at}
use Rattle.tl_tree.specs.Rows.{Row}
use Rattle.tl_tree.specs.declared.entries.Namespace.{Namespace}
use Rattle.tl_tree.specs.declared.entries.Namespace.TheVariants.{Html}
use Rattle.tl_tree_edit.specs.Changes as tree
use Rattle.tl_tree_edit.specs.Changes.{Remove, Rename, Set, Text, Unset, Unwrap, edited}
use Rattle.tl_tree_edit.specs.Events.{events}
use Rattle.tl_tree_edit.specs.Operations.{IsMade, Operation, changes_each, put_there, puts}
use Rattle.tl_tree_edit.specs.Unmade.{IsUnmade}
use Rattle.tl_tree_edit.specs.declared.error.MadeError.{MadeError}
use Rattle.tl_tree_edit.specs.declared.error.MadeError.TheVariants as made
use Rattle.tl_tree_edit.specs.declared.position.Position.{Position}
use Rattle.tl_tree_edit.specs.declared.position.Position.TheVariants as position
use Rattle.tl_tree_select.specs.Meaning.{AreFound}
use Rattle.tl_tree_select.specs.Page.{Page}
use Rattle.tl_values.specs.NewValues.{values_got}
use Rattle.tl_values.specs.declared.rewrite.Rewrite.{Rewrite}

-- The keys that rules of the standard ask for, so that another value may make another tree:
-- `encoding` of an `annotation-xml`, `type` of an `input` in a table, and the others of a `font` in
-- an `svg`.
abbrev pub steers : List ℕ → Bool
steers key =
    bytes_eq key (codes "color") || bytes_eq key (codes "encoding") || bytes_eq key (codes "face")
    || bytes_eq key (codes "size")
    || bytes_eq key (codes "type")

abbrev pub put_operation : Position → Content → Operation
put_operation there (patches.Text text) = changes_each (put_there there (Text text))
put_operation there (patches.Markup markup) = puts there markup

abbrev pub patch_operation : Patch → Operation
patch_operation (patches.SetAttribute key value) = changes_each (Set key value)
patch_operation (patches.UnsetAttribute key) = changes_each (Unset key)
patch_operation (patches.RenameElement name) = changes_each (Rename name)
patch_operation patches.Remove = changes_each Remove
patch_operation patches.Unwrap = changes_each Unwrap
patch_operation (patches.ReplaceWith own) = put_operation position.Replace own
patch_operation (patches.Fill own) = put_operation position.Fill own
patch_operation (patches.Prepend own) = put_operation position.Prepend own
patch_operation (patches.Append own) = put_operation position.Append own
patch_operation (patches.PutBefore own) = put_operation position.Before own
patch_operation (patches.PutAfter own) = put_operation position.After own

-- the value that a node gets
abbrev pub value_edit : List ℕ → ℕ × List ℕ → tree.Edit
value_edit key own = record { number = own.0; change = Set key own.1 }

-- those that are made of old ones
abbrev pub value_edits : Rewrite → List ℕ → List Row → List ℕ → List tree.Edit
value_edits rewrite key rows numbers = map (value_edit key) (values_got rewrite key rows numbers)

-- these rows are those of a page with what is meant done with the elements of these numbers
abbrev pub IsDoneIn : Edit → List Row → Bool → List ℕ → List Row → Type 0
IsDoneIn (edit.Set key value) old is_quirks numbers new =
    IsMade old is_quirks numbers (changes_each (Set (string_bytes key) value.now)) new
IsDoneIn (edit.Rewrite key rewrite) old is_quirks numbers new =
    events new ≡ edited (value_edits rewrite (string_bytes key) old numbers) old
IsDoneIn (edit.Unset key) old is_quirks numbers new =
    IsMade old is_quirks numbers (changes_each (Unset (string_bytes key))) new
IsDoneIn (edit.Rename name) old is_quirks numbers new =
    IsMade old is_quirks numbers (changes_each (Rename (string_bytes name))) new
IsDoneIn (edit.Element patch) old is_quirks numbers new =
    IsMade old is_quirks numbers (patch_operation (patch_view patch)) new

-- why that isn't known: what is put isn't read where it comes to stand
abbrev pub IsUnknown : Edit → List Row → Bool → List ℕ → MadeError → Type 0
IsUnknown (edit.Element patch) old is_quirks numbers why =
    IsUnmade old is_quirks numbers (patch_operation (patch_view patch)) why
IsUnknown _ old is_quirks numbers why = why ≡ made.OutOfMemory

abbrev pub is_html_space : Option Namespace → Bool
is_html_space (Some Html) = true
is_html_space _ = false

-- whether each of these nodes is an element of HTML
abbrev pub are_html : List Row → List ℕ → Bool
are_html rows numbers =
    list_all (λ n. is_html_space (option_and_then namespace_of (node_at rows n))) numbers

-- whether it is asked: in `svg` and `math` elements have keys that are written otherwise than in
-- their tags, so that only those are asked about that steer something
abbrev pub asks_key : List ℕ → List Row → List ℕ → Bool
asks_key key rows numbers = steers key || are_html rows numbers

abbrev pub is_asked : Edit → List Row → List ℕ → Bool
is_asked (edit.Set key value) rows numbers = asks_key (string_bytes key) rows numbers
is_asked (edit.Rewrite key rewrite) rows numbers = asks_key (string_bytes key) rows numbers
is_asked (edit.Unset key) rows numbers = asks_key (string_bytes key) rows numbers
is_asked _ rows numbers = true

-- what is told of an answer
abbrev pub told_of : Result Bool MadeError → Result Meant Refusal
told_of (Ok true) = Ok Yes
told_of (Ok false) = Ok No
told_of (Err made.OutOfMemory) = Err refusal.OutOfMemory
told_of (Err (made.Unread error)) = Ok (Unput error)

-- what is told of a text that is written, by these rows of the page: whether an edit was made of
-- elements of these numbers, or why it isn't known: the text isn't read, or what is put
abbrev pub Tells : Edit → List Row → Bool → List ℕ → List ℕ → Meant → Type 0
Tells own old is_quirks numbers text Yes = IsDoneIn own old is_quirks numbers (page_rows text)
Tells own old is_quirks numbers text No = IsDoneIn own old is_quirks numbers (page_rows text) → ⊥
Tells own old is_quirks numbers text (Unread error) = IsUnread text error
Tells own old is_quirks numbers text (Unput error) =
    IsUnknown own old is_quirks numbers (made.Unread error)
Tells own old is_quirks numbers text Unasked = ⊥

-- what is told of it, if it is asked
abbrev pub TellsIf : Bool → Edit → List Row → Bool → List ℕ → List ℕ → Meant → Type 0
TellsIf true own old is_quirks numbers text meant = Tells own old is_quirks numbers text meant
TellsIf false own old is_quirks numbers text meant = meant ≡ Unasked

-- what is told of a text in the place of a page with an edit of the elements where a selector holds
pub record IsToldBy (own : Edit) (e : Css) (page : Page) (text : List ℕ) (meant : Meant)
    : Type 0 where
  pub numbers : List ℕ
  pub found : AreFound page e numbers
  pub told :
      TellsIf (is_asked own page.rows numbers) own page.rows page.is_quirks numbers text meant

-- what is told of a page and a text that is written in its place
abbrev pub IsMeant : Edit → Css → List ℕ → List ℕ → Meant → Type 0
IsMeant own e page text meant = IsToldBy own e (searched page) text meant
