-- What goes of a tag where a key gets a value, or goes: a value, or attributes with the white space
-- before them, and no other byte.
use Rattle.std.specs.Prelude.{◌≡◌, ◌⊎◌, ◌≤◌, ◌+◌, ℕ, true, false, List, [], ◌∷◌, drop, ⊤}
use Rattle.std.specs.List.{All, Contains, list_all, list_any}
use Rattle.tl_html_parts.specs.Bytes.{is_space}
use Rattle.tl_patch_spec.specs.TagNames.{IsNameEnd}
use Rattle.tl_patch_spec.specs.Splices.{Splice}
use Rattle.tl_patch_spec.specs.TagChanges.{Rename, Set, TagChange, Unset}
use Rattle.tl_patch.specs.AttributePlaces.{IsFirstNamed, is_named, part, places_of}
use Rattle.tl_patch.specs.declared.stage.Place.{Place}

-- the value of the first attribute with this key goes, with its quotes; nothing where it has none
pub record TakesValue (tag key : List ℕ) (s : Splice ℕ) : Type 0 where
  pub start : ℕ
  pub place : Place
  pub name : IsNameEnd false start tag
  pub first : IsFirstNamed (drop start tag) key (places_of (drop start tag)) place
  pub from : s.from ≡ start + place.value
  pub until : s.until ≡ start + place.end

-- no attribute has this key, so nothing goes, and what is put stands right behind the name
pub record TakesNothing (tag key : List ℕ) (s : Splice ℕ) : Type 0 where
  pub start : ℕ
  pub name : IsNameEnd false start tag
  pub absent : list_any (is_named (drop start tag) key) (places_of (drop start tag)) ≡ false
  pub behind : IsNameEnd false s.from tag
  pub nothing : s.until ≡ s.from

-- in what follows the name of a tag an attribute goes that stands among these and has this key,
-- with white space before it
pub record TakesAttribute (rest key : List ℕ) (places : List Place) (s : Splice ℕ) : Type 0 where
  pub place : Place
  pub among : Contains places place
  pub named : is_named rest key place ≡ true
  pub order : s.from ≤ place.key.start
  pub white : list_all is_space (part s.from place.key.start rest) ≡ true
  pub until : s.until ≡ place.end

abbrev pub shifted : ℕ → Splice ℕ → Splice ℕ
shifted n s = record { from = n + s.from; until = n + s.until; put = s.put }

-- the same in the tag itself
pub record TakesKey (tag key : List ℕ) (s : Splice ℕ) : Type 0 where
  pub start : ℕ
  pub inner : Splice ℕ
  pub name : IsNameEnd false start tag
  pub takes : TakesAttribute (drop start tag) key (places_of (drop start tag)) inner
  pub is : s ≡ shifted start inner

-- what goes where splices make a change: of a key that gets a value its old one, in one place
abbrev pub AreTaken : TagChange → List ℕ → List (Splice ℕ) → Type 0
AreTaken (Set key value) tag splices =
    (s : Splice ℕ) × (splices ≡ s ∷ []) × (TakesValue tag key s ⊎ TakesNothing tag key s)
AreTaken (Unset key) tag splices = All (TakesKey tag key) splices
AreTaken (Rename name) tag splices = ⊤
