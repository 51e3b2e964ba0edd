-- Elements that are left open, of the code, as the definitions have them.
use Rattle.std.specs.Prelude.{◌≡◌, ℕ, zero, suc, Bool, true, false, List, [], ◌∷◌, ◌++◌, length, map, Option, None, Some, option_map}
use Rattle.std.specs.List.{All}
use Rattle.tl_html_parts.specs.Parts.{name_of}
use Rattle.tl_html_spec.specs.Pieces.{Piece}
use Rattle.tl_patch_spec.specs.Elements.{Element, OpenElement}
use Rattle.tl_patch_spec.specs.LeftOpen.{Closing, ElementAt, LeftOpen, closed_all, closings, open_after, without_ended}
use Rattle.tl_patch_spec.specs.Patches.{Extent, Fill, Patch, Prepend, Remove}
use Rattle.tl_patch_spec.specs.Tail.{elements_up_to_tail}
use Rattle.tl_patch_spec.specs.Together.{asked_at, asked_each, asked_from, end_tags, none_gone, turn_of}
use Rattle.tl_patch_edit.specs.Asks.{planned_view}
use Rattle.tl_patch_edit.specs.Several.{asked_view}
use Rattle.tl_patch_edit.specs.View.{patch_view}
use Rattle.tl_patch_edit.specs.declared.ask.MeantPatch.{MeantPatch}
use Rattle.tl_patch_edit.specs.declared.ask.PlacedAsk.{PlacedAsk}
use Rattle.tl_patch_edit.specs.declared.ask.Planned.{Planned}
use Rattle.tl_patch_edit.specs.declared.ask.Put.TheVariants as put
use Rattle.tl_patch_edit.specs.declared.ask.Start.{Start}
use Rattle.tl_patch_edit.specs.declared.left_open.Closing.{Closing as CodeClosing}
use Rattle.tl_patch_edit.specs.declared.left_open.LeftOpen.{LeftOpen as CodeLeft}
use Rattle.tl_patch_edit.specs.declared.left_open.OpenElement.{OpenElement as CodeOpen}

abbrev pub one_view : CodeOpen → OpenElement
one_view o = (name_of o.name.now, o.start)

abbrev pub open_view : Option CodeOpen → Option OpenElement
open_view o = option_map one_view o

abbrev pub all_view : List (Option CodeOpen) → ElementAt
all_view left = map open_view left

abbrev pub left_view : CodeLeft → LeftOpen
left_view left = record {
  before = all_view left.before.items;
  inside = all_view left.inside.items;
  own = all_view left.own.items;
}

abbrev pub closing_view : CodeClosing → Closing
closing_view c = record { place = c.place; of = one_view c.of }

abbrev pub AreNone : List (Option CodeOpen) → Type 0
AreNone left = All (λ (o : Option CodeOpen). o ≡ None) left

-- the element of the token of a number
abbrev pub open_of : List (Option CodeOpen) → ℕ → Option CodeOpen
open_of [] n = None
open_of (o ∷ left) zero = o
open_of (o ∷ left) (suc n) = open_of left n

-- of a patch of the element of this start tag, which has this number
pub record IsOf (start : Start) (at : ℕ) (a : PlacedAsk) : Type 0 where
  pub same : a.start ≡ start
  pub number : a.turn.at ≡ at

-- its end tag there, asked for by the patch of a number, of the element of this start tag
abbrev pub end_tag_asks : Start → ℕ → ℕ → Option CodeOpen → List PlacedAsk
end_tag_asks start at place None = []
end_tag_asks start at place (Some o) = record {
  start = start;
  turn = record { depth = o.start; rank = 3; at = at };
  ask = record { from = place; until = place; put = put.LeftOut o.name };
} ∷ []

-- of an element that gets its end tag, if it has got none
abbrev pub closing_asks : Start → ℕ → Option CodeClosing → CodeLeft → List PlacedAsk
closing_asks start at None left = []
closing_asks start at (Some c) left =
    end_tag_asks start at c.place (open_of left.own.items (c.of).start)

-- asks with the end tags that a patch puts in, and what is left open then
pub record ArePutIn (m : MeantPatch) (at : ℕ) (extent : Extent) (left : CodeLeft)
    (asks : List PlacedAsk) (new_left : CodeLeft) (new : List PlacedAsk) : Type 0 where
  pub tags : List PlacedAsk
  pub is : new ≡ asks ++ tags
  pub asked : asked_view tags
      ≡ end_tags at (left_view left)
      (closings (patch_view m.patch) m.start.number extent (left_view left))
  pub of : All (IsOf m.start at) tags
  pub remains : left_view new_left
      ≡ closed_all (left_view left)
      (closings (patch_view m.patch) m.start.number extent (left_view left))

-- asks with those of a patch, and with these end tags
pub record ArePushed (m : MeantPatch) (at : ℕ) (extent : Extent) (planned : Planned)
    (left : CodeLeft) (asks : List PlacedAsk) (new_left : CodeLeft) (new : List PlacedAsk) :
    Type 0 where
  pub more : List PlacedAsk
  pub is : new ≡ asks ++ more
  pub asked : asked_view more
      ≡ map (asked_at (turn_of (patch_view m.patch) m.start.number at)) (planned_view planned)
      ++ end_tags at (left_view left)
      (closings (patch_view m.patch) m.start.number extent (left_view left))
  pub of : All (IsOf m.start at) more
  pub remains : left_view new_left
      ≡ open_after (patch_view m.patch) m.start.number extent (left_view left)

-- whether a patch may put in end tags
abbrev pub closes : Patch → Bool
closes Remove = false
closes (Fill c) = false
closes (Prepend c) = false
closes patch = true

-- with what is left open there patches ask for what they ask for in a page that has these elements
-- and so many pieces
abbrev pub IsOpenFor : List Element → ℕ → List (ℕ × Patch) → LeftOpen → Type 0
IsOpenFor es len patches left =
    (ps : List Piece) → es ≡ elements_up_to_tail ps → length ps ≡ len →
    asked_each ps patches ≡ asked_from ps 0 none_gone (without_ended patches left) patches
