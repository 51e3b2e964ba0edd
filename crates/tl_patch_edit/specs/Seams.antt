-- Where separators stand around what is put: exactly where a text would go on with what stands
-- behind it, and where a byte order mark would come to the front of a page.
use Rattle.std.specs.Prelude.{◌≡◌, ◌-◌, ◌==◌, ℕ, Bool, true, false, ◌&&◌, not, List, [], ◌∷◌, ◌++◌, Option, Some, None, drop, take, if◌then◌else◌, ⊤}
use Rattle.std.specs.List.{list_all, slice_get}
use Rattle.tl_html_spec.specs.Pieces.{Piece, are_characters, runs}
use Rattle.tl_patch_spec.specs.Patches.{Changed, IsAsked, Put, separator_if}
use Rattle.tl_patch_spec.specs.Seams.{is_seam}
use Rattle.tl_patch_spec.specs.Splices.{Splice}

-- a tag or a comment that the end of a page cuts goes on with a separator, too
abbrev pub needs_separator : Option Piece → Option Piece → Bool
needs_separator None after = is_seam None after
needs_separator (Some p) after = are_characters p.tokens && is_seam (Some p) after

-- the last of some items, or what stood before them
abbrev pub last_of : {A : Type 0} → Option A → List A → Option A
last_of before [] = before
last_of before (x ∷ xs) = last_of (Some x) xs

-- the first of some items, or what stands behind them
abbrev pub first_of : {A : Type 0} → List A → Option A → Option A
first_of [] behind = behind
first_of (x ∷ xs) behind = Some x

abbrev pub is_empty : {A : Type 0} → List A → Bool
is_empty [] = true
is_empty (x ∷ xs) = false

-- whether the first of these splices begins at a place
abbrev pub begins_at : List (Splice Put) → ℕ → Bool
begins_at [] place = false
begins_at (ask ∷ asks) place = ask.from == place

-- the item at which a splice ends, if the next one doesn't begin there
abbrev pub behind : {A : Type 0} → List A → List (Splice Put) → ℕ → Option A
behind items asks place = if begins_at asks place then None else slice_get items place

-- whether separators stand before and after what is put between two pieces
abbrev pub is_parted_before : Option Piece → List Piece → Option Piece → Bool
is_parted_before before put after = needs_separator before (first_of put after)

abbrev pub is_parted_after : List Piece → Option Piece → Bool
is_parted_after put after = not (is_empty put) && needs_separator (last_of None put) after

-- a splice is as it is asked for, with separators exactly where they have to stand; characters
-- side by side are one piece
pub record IsSeparated (front back : Option Piece) (ps : List Piece) (ask : Splice Put)
    (splice : Splice Piece) : Type 0 where
  pub asked : IsAsked ps ask splice
  pub before : asked.before ≡ is_parted_before front (runs asked.put) back
  pub after : asked.after ≡ is_parted_after (runs asked.put) back

abbrev pub written_put : Bool → List Piece → Bool → List Piece
written_put before put after = separator_if before ++ (runs put ++ separator_if after)

-- splices are as they are asked for, from a place on, behind what was written last
abbrev pub AreSeparatedFrom
    : Option Piece → ℕ → List Piece → List (Splice Put) → List (Splice Piece) → Type 0
AreSeparatedFrom before place ps [] [] = ⊤
AreSeparatedFrom before place ps (ask ∷ asks) (splice ∷ splices) =
    (s : IsSeparated (last_of before (take (ask.from - place) (drop place ps)))
    (behind ps asks ask.until) ps ask splice)
    × AreSeparatedFrom (last_of (last_of before (take (ask.from - place) (drop place ps)))
    (written_put s.asked.before s.asked.put s.asked.after)) ask.until ps asks splices
AreSeparatedFrom before place ps _ _ = ⊥

abbrev pub AreSeparated : List Piece → List (Splice Put) → List (Splice Piece) → Type 0
AreSeparated ps asks splices = AreSeparatedFrom None 0 ps asks splices

-- whether what is put is new, and no tag of the page that changes
abbrev pub is_new : Put → Bool
is_new (Changed change) = false
is_new _ = true

abbrev pub changes_none : Splice Put → Bool
changes_none ask = list_all is_new ask.put
