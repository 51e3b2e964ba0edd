-- Whether an element of a tree is whole in the bytes of the page: what comes of the bytes that it
-- has by its end tags stands in it, and nothing else does.
use Rattle.std.specs.List.{Contains}
use Rattle.std.specs.Prelude.{List, Option, Some, [], ℕ, ⊤, ◌<◌, ◌∷◌, ◌≡◌, ◌≤◌, ◌⊎◌}
use Rattle.tl_css.specs.Selector.{Css}
use Rattle.tl_patch_edit.specs.Stretches.{stretches, tail_begin}
use Rattle.tl_patch_edit.specs.declared.reach.Stretch.{Stretch}
use Rattle.tl_patch_select.specs.Selected.{place_of}
use Rattle.tl_patch_select.specs.declared.whole.Crossed.{Crossed}
use Rattle.tl_tree.specs.Asked.{end_or}
use Rattle.tl_tree.specs.TreeView.{rows_in}
use Rattle.tl_tree.specs.declared.tree.Tree.{Tree}
use Rattle.tl_tree_select.specs.Meaning.{AreFound}
use Rattle.tl_tree_select.specs.Page.{page_of}

-- of rows that come from these places one comes of what begins at a byte of the page, before its
-- tail: what stands there is white space and comments
pub record ComesBy (places : ℕ → Option ℕ) (tail row at : ℕ) : Type 0 where
  pub place : places row ≡ Some at
  pub before : at < tail

-- a row is that of an element, which ends before another row, or stands in it
abbrev pub BelongsBy : ℕ → ℕ → ℕ → Type 0
BelongsBy number end row = (number ≤ row) × (row < end)

-- a byte of the page is one of these
abbrev pub Holds : Stretch → ℕ → Type 0
Holds stretch at = (stretch.start ≤ at) × (at < stretch.end)

-- what comes of these bytes belongs to an element, and what belongs to it comes of these bytes
pub record IsWholeBy (places : ℕ → Option ℕ) (tail number end : ℕ) (stretch : Stretch) : Type 0
  where
    pub inside : (row at : ℕ) → ComesBy places tail row at → Holds stretch at →
        BelongsBy number end row
    pub own : (row at : ℕ) → ComesBy places tail row at → BelongsBy number end row →
        Holds stretch at

-- what begins at a byte comes of these bytes and doesn't belong to the element, or the other way
-- round
pub record IsCrossedBy (places : ℕ → Option ℕ) (tail number end : ℕ) (stretch : Stretch)
    (at : ℕ) : Type 0 where
  pub row : ℕ
  pub comes : ComesBy places tail row at
  pub crosses : (Holds stretch at × (BelongsBy number end row → ⊥))
      ⊎ (BelongsBy number end row × (Holds stretch at → ⊥))

-- the same of the rows of a tree

abbrev pub ComesFrom : Tree → ℕ → ℕ → ℕ → Type 0
ComesFrom tree tail row at = ComesBy (place_of tree) tail row at

abbrev pub end_of : Tree → ℕ → ℕ
end_of tree number = end_or (rows_in tree) number 0

abbrev pub BelongsTo : Tree → ℕ → ℕ → Type 0
BelongsTo tree number row = BelongsBy number (end_of tree number) row

abbrev pub IsWholeIn : Tree → ℕ → ℕ → Stretch → Type 0
IsWholeIn tree tail number stretch =
    IsWholeBy (place_of tree) tail number (end_of tree number) stretch

abbrev pub IsCrossedAt : Tree → ℕ → ℕ → Stretch → ℕ → Type 0
IsCrossedAt tree tail number stretch at =
    IsCrossedBy (place_of tree) tail number (end_of tree number) stretch at

-- an element of a tree of a page is whole in the bytes that its start tag begins
abbrev pub IsWhole : List ℕ → Tree → ℕ → Type 0
IsWhole page tree number =
    (stretch : Stretch) → Contains (stretches page) stretch →
    place_of tree number ≡ Some stretch.start →
    IsWholeIn tree (tail_begin page) number stretch

-- the bytes of an element whose start tag begins at a place are crossed at a byte
pub record IsCrossed (page : List ℕ) (tree : Tree) (number place at : ℕ) : Type 0 where
  pub begins : place_of tree number ≡ Some place
  pub stretch : Stretch
  pub among : Contains (stretches page) stretch
  pub start : stretch.start ≡ place
  pub crossed : IsCrossedAt tree (tail_begin page) number stretch at

-- so are those of one of these elements
pub record IsOneCrossed (page : List ℕ) (tree : Tree) (numbers : List ℕ) (place at : ℕ) : Type 0
  where
    pub number : ℕ
    pub among : Contains numbers number
    pub crossed : IsCrossed page tree number place at

-- so are those of one of the elements where the selector holds
pub record IsNotWhole (e : Css) (tree : Tree) (page : List ℕ) (place at : ℕ) : Type 0 where
  pub numbers : List ℕ
  pub found : AreFound (page_of tree) e numbers
  pub one : IsOneCrossed page tree numbers place at

-- of some elements, in order, each is well, or what isn't is the next one of these
abbrev pub AreThose : (ℕ → Type 0) → (ℕ → Crossed → Type 0) → List ℕ → List Crossed → Type 0
AreThose IsWell IsIll [] [] = ⊤
AreThose IsWell IsIll [] (one ∷ crossed) = ⊥
AreThose IsWell IsIll (number ∷ numbers) [] = IsWell number × AreThose IsWell IsIll numbers []
AreThose IsWell IsIll (number ∷ numbers) (one ∷ crossed) =
    (IsWell number × AreThose IsWell IsIll numbers (one ∷ crossed))
    ⊎ (IsIll number one × AreThose IsWell IsIll numbers crossed)

abbrev pub IsCrossedOne : List ℕ → Tree → ℕ → Crossed → Type 0
IsCrossedOne page tree number one = IsCrossed page tree number one.place one.at

-- these are those of some elements that aren't whole, in the order of the elements: none is missed
abbrev pub AreCrossed : List ℕ → Tree → List ℕ → List Crossed → Type 0
AreCrossed page tree numbers crossed =
    AreThose (IsWhole page tree) (IsCrossedOne page tree) numbers crossed
