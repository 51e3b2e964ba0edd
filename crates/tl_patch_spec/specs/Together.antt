-- What patches ask for of several elements of a page together.
use Rattle.std.specs.Prelude.{◌≡◌, ℕ, suc, Bool, true, ◌||◌, ◌&&◌, not, ◌==◌, nat_le, nat_lt, List, [], ◌∷◌, ◌++◌, length, map, Option, Some, None, if◌then◌else◌}
use Rattle.std.specs.List.Sorted.{IsPermutation}
use Rattle.tl_html_spec.specs.Pieces.{Piece}
use Rattle.tl_patch_spec.specs.Elements.{OpenElement}
use Rattle.tl_patch_spec.specs.LeftOpen.{Closing, LeftOpen, closed_at, closings, left_open, open_after, open_at, without_ended}
use Rattle.tl_patch_spec.specs.Patches.{Append, AreAskedOne, Extent, Fill, NewEndTag, Patch, Prepend, Put, PutAfter, PutBefore, Remove, RenameElement, ReplaceWith, asked_of, extent_in, put_at}
use Rattle.tl_patch_spec.specs.Splices.{Splice, are_ordered}
use Rattle.tl_patch_spec.specs.Tail.{elements_up_to_tail}

-- this patch of each element that is named here in order; one that is named twice counts once
abbrev pub at_each : Patch → List ℕ → List (ℕ × Patch)
at_each patch [] = []
at_each patch (n ∷ []) = (n, patch) ∷ []
at_each patch (n ∷ m ∷ ns) =
    if n == m then at_each patch (m ∷ ns) else (n, patch) ∷ at_each patch (m ∷ ns)

-- when what a patch puts has its turn among what is put at the same place
pub record Turn : Type 0 where
  pub depth : ℕ
  pub rank : ℕ
  pub at : ℕ

-- an inner element has its turn before an outer one, and what stands before an element is the last
abbrev pub depth_of : Patch → ℕ → ℕ
depth_of (PutBefore c) n = 0
depth_of patch n = n

-- of one element first what stands in it, then its end tag, then what stands after it
abbrev pub rank_of : Patch → ℕ
rank_of (Prepend c) = 0
rank_of (Fill c) = 1
rank_of (Append c) = 2
rank_of (RenameElement name) = 3
rank_of (PutAfter c) = 4
rank_of (PutBefore c) = 5
rank_of patch = 0

-- the turn of the patch of this number, of the element whose start tag is the piece of a number
abbrev pub turn_of : Patch → ℕ → ℕ → Turn
turn_of patch n at = record { depth = depth_of patch n; rank = rank_of patch; at = at }

abbrev pub comes_first : Turn → Turn → Bool
comes_first a b = nat_lt b.depth a.depth
    || ((a.depth == b.depth)
    && (nat_lt a.rank b.rank || ((a.rank == b.rank) && nat_le a.at b.at)))

-- a splice that is asked for
pub record Asked : Type 0 where
  pub turn : Turn
  pub ask : Splice Put

abbrev pub asked_at : Turn → Splice Put → Asked
asked_at turn ask = record { turn = turn; ask = ask }

abbrev pub ask_of : Asked → Splice Put
ask_of a = a.ask

-- what was taken away last: of the element of this number, up to a piece
pub record Gone : Type 0 where
  pub from : ℕ
  pub until : ℕ

abbrev pub none_gone : Gone
none_gone = record { from = 0; until = 0 }

-- whether the element that begins at a piece goes with another one
abbrev pub is_gone : Gone → ℕ → Bool
is_gone gone n = nat_lt gone.from n && nat_lt n gone.until

abbrev pub gone_after : Patch → ℕ → List (Splice Put) → Gone → Gone
gone_after Remove n (s ∷ splices) gone = record { from = n; until = s.until }
gone_after (ReplaceWith c) n (s ∷ splices) gone = record { from = n; until = s.until }
gone_after (Fill c) n (s ∷ splices) gone = record { from = n; until = s.until }
gone_after patch n splices gone = gone

-- the end tag of an element that is left open, before a piece: it has its turn with that element
abbrev pub end_tag_at : ℕ → ℕ → Option OpenElement → List Asked
end_tag_at at place None = []
end_tag_at at place (Some o) =
    asked_at (record { depth = o.1; rank = 3; at = at }) (put_at place (NewEndTag o.0 ∷ [])) ∷ []

-- those that the patch of a number puts in, of these elements that have got none
abbrev pub end_tags : ℕ → LeftOpen → List Closing → List Asked
end_tags at left [] = []
end_tags at left (c ∷ cs) = end_tag_at at c.place (open_at left.own (c.of).1)
    ++ end_tags at (closed_at left (c.of).1) cs

-- how far the element that begins at a piece goes
abbrev pub piece_extent : List Piece → ℕ → Extent
piece_extent ps n = extent_in n (elements_up_to_tail ps)

abbrev pub with_asks : Turn → List (Splice Put) → List Asked → Option (List Asked)
    → Option (List Asked)
with_asks turn asks tags None = None
with_asks turn asks tags (Some more) = Some (map (asked_at turn) asks ++ (tags ++ more))

-- what patches ask for, from the one of a number on, each of the element whose start tag is the
-- piece of a number, in the order of these; one that begins in what another takes away doesn't
-- count
abbrev pub asked_from : List Piece → ℕ → Gone → LeftOpen → List (ℕ × Patch) → Option (List Asked)
asked_from ps at gone left [] = Some []
asked_from ps at gone left (p ∷ patches) =
    if is_gone gone p.0 then asked_from ps (suc at) gone left patches
    else elim (asked_of ps p.0 p.1) as (λ _. Option (List Asked)) [
      | None ↦ None
      | Some asks ↦ with_asks (turn_of p.1 p.0 at) asks
          (end_tags at left (closings p.1 p.0 (piece_extent ps p.0) left))
          (asked_from ps (suc at) (gone_after p.1 p.0 asks gone)
          (open_after p.1 p.0 (piece_extent ps p.0) left) patches)
    ]

abbrev pub asked_each : List Piece → List (ℕ × Patch) → Option (List Asked)
asked_each ps patches =
    asked_from ps 0 none_gone (without_ended patches (left_open ps)) patches

-- whether what is put at one place is put in turn
abbrev pub is_in_turn : Asked → Asked → Bool
is_in_turn a b = not (a.ask.from == b.ask.until) || comes_first a.turn b.turn

abbrev pub are_in_turn : List Asked → Bool
are_in_turn [] = true
are_in_turn (a ∷ []) = true
are_in_turn (a ∷ b ∷ asks) = is_in_turn a b && are_in_turn (b ∷ asks)

-- the splices of pieces are those that the patches ask for of these elements, in order, none over
-- another
pub record AreAskedTogether (ps : List Piece) (patches : List (ℕ × Patch))
    (splices : List (Splice Piece)) : Type 0 where
  pub each : List Asked
  pub asked : asked_each ps patches ≡ Some each
  pub asks : List Asked
  pub same : IsPermutation each asks
  pub ordered : are_ordered 0 (length ps) (map ask_of asks) ≡ true
  pub in_turn : are_in_turn asks ≡ true
  pub are_asked : AreAskedOne ps (map ask_of asks) splices
