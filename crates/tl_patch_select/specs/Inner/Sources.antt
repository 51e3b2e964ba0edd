-- Where the rows of a tree come from, as the code has them.
use Rattle.std.specs.List.{Contains}
use Rattle.std.specs.Prelude.{List, Some, ℕ, ◌<◌, ◌≡◌}
use Rattle.tl_patch_edit.specs.declared.reach.Stretch.{Stretch}
use Rattle.tl_patch_select.specs.Inner.Ranges.{IsByKey}
use Rattle.tl_patch_select.specs.Selected.{place_of}
use Rattle.tl_patch_select.specs.Whole.{ComesFrom, IsCrossedAt, IsWholeIn}
use Rattle.tl_patch_select.specs.declared.ranges.Keyed.{Keyed}
use Rattle.tl_patch_select.specs.declared.whole.Crossed.{Crossed}
use Rattle.tl_patch_select.specs.declared.whole.Sources.{Sources}
use Rattle.tl_tree.specs.declared.tree.Tree.{Tree}

abbrev pub keyed : ℕ → ℕ → Keyed
keyed key number = record { key = key; number = number }

-- the other way round
abbrev pub turned : Keyed → Keyed
turned one = keyed one.number one.key

abbrev pub keyed_stretch : Stretch → Keyed
keyed_stretch s = keyed s.start s.end

abbrev pub stretch_of_keyed : Keyed → Stretch
stretch_of_keyed one = record { start = one.key; end = one.number }

-- these are the rows up to one that come from a place before the tail, with these places
pub record AreRowsUpTo (tree : Tree) (tail count : ℕ) (all : List Keyed) : Type 0 where
  pub each : (one : Keyed) → Contains all one → ComesFrom tree tail one.key one.number
  pub kept : (row at : ℕ) → row < count → ComesFrom tree tail row at → Contains all (keyed row at)

-- these are all of them
pub record AreRows (tree : Tree) (tail : ℕ) (all : List Keyed) : Type 0 where
  pub each : (one : Keyed) → Contains all one → ComesFrom tree tail one.key one.number
  pub kept : (row at : ℕ) → ComesFrom tree tail row at → Contains all (keyed row at)

-- these are all of them, by their places
pub record ArePlaces (tree : Tree) (tail : ℕ) (all : List Keyed) : Type 0 where
  pub each : (one : Keyed) → Contains all one → ComesFrom tree tail one.number one.key
  pub kept : (row at : ℕ) → ComesFrom tree tail row at → Contains all (keyed at row)

pub record AreSources (tree : Tree) (own : Sources) : Type 0 where
  pub by_number : IsByKey own.by_number
  pub by_place : IsByKey own.by_place
  pub rows : AreRows tree own.tail own.by_number.all.items
  pub places : ArePlaces tree own.tail own.by_place.all.items

-- an element is whole in those of these bytes that begin at a place
abbrev pub IsWholeAt : List Keyed → Tree → ℕ → ℕ → ℕ → Type 0
IsWholeAt elements tree tail number place =
    (one : Keyed) → Contains elements one → one.key ≡ place →
    IsWholeIn tree tail number (stretch_of_keyed one)

-- such bytes are crossed at a byte
pub record IsCrossedIn (elements : List Keyed) (tree : Tree) (tail number place at : ℕ) : Type 0
  where
    pub one : Keyed
    pub among : Contains elements one
    pub start : one.key ≡ place
    pub crossed : IsCrossedAt tree tail number (stretch_of_keyed one) at

abbrev pub IsWholeOf : List Keyed → Tree → ℕ → ℕ → Type 0
IsWholeOf elements tree tail number =
    (place : ℕ) → place_of tree number ≡ Some place → IsWholeAt elements tree tail number place

-- an element isn't whole in those of these bytes that begin where its start tag does
pub record IsCrossedOf (elements : List Keyed) (tree : Tree) (tail number : ℕ) (crossed : Crossed) :
    Type 0 where
  pub begins : place_of tree number ≡ Some crossed.place
  pub is : IsCrossedIn elements tree tail number crossed.place crossed.at

-- nor is one of these elements
pub record IsOneCrossedIn (elements : List Keyed) (tree : Tree) (tail : ℕ) (numbers : List ℕ)
    (crossed : Crossed) : Type 0 where
  pub number : ℕ
  pub among : Contains numbers number
  pub is : IsCrossedOf elements tree tail number crossed
