-- How many of the active formatting elements have a number, and that no fewer are counted.
use Rattle.std.specs.Prelude.{Bool, List, [], cond, false, length, nat_eq, slice_index, suc, true, ℕ, ◌%◌, ◌<◌, ◌==◌, ◌∷◌, ◌≤◌}
use Rattle.tl_tree.specs.Inner.Looks.{key_of}
use Rattle.tl_tree.specs.Inner.Store.{is_tag_number, tag_at}
use Rattle.tl_tree.specs.declared.active.ActiveList.{ActiveList}
use Rattle.tl_tree.specs.declared.active_entry.Entry.{Entry}
use Rattle.tl_tree.specs.declared.active_entry.Entry.TheVariants.{Formatting, Marker}
use Rattle.tl_tree.specs.declared.look.Key.{Key}
use Rattle.tl_tree.specs.declared.look.Key.TheVariants.{Look, Name}
use Rattle.tl_tree.specs.declared.store.Store.{Store}

-- an element whose number is one
abbrev pub has_key : Store → Key → ℕ → Entry → Bool
has_key s key number Marker = false
has_key s key number (Formatting n tag) = key_of key (tag_at s tag) == number

-- an element in a slot of so many
abbrev pub is_in : Store → Key → ℕ → ℕ → Entry → Bool
is_in s key size slot Marker = false
is_in s key size slot (Formatting n tag) = (key_of key (tag_at s tag) % size) == slot

-- how many pass a test
abbrev pub counted : {A : Type 0} → (A → Bool) → List A → ℕ
counted test [] = 0
counted test (x ∷ xs) = cond (test x) (suc (counted test xs)) (counted test xs)

abbrev pub AreTallied : Store → Key → List ℕ → List Entry → Type 0
AreTallied s key counts entries =
    (slot : ℕ) → slot < length counts →
    counted (is_in s key (length counts) slot) entries ≤ slice_index counts slot

-- both counts of a list, of these entries
pub record AreBothTallied (s : Store) (a : ActiveList) (entries : List Entry) : Type 0 where
  pub looks : AreTallied s Look a.looks.counts.items entries
  pub names : AreTallied s Name a.names.counts.items entries

abbrev pub IsTallied : Store → ActiveList → Type 0
IsTallied s a = AreBothTallied s a a.entries.items

-- whether it is an element of a tag
abbrev pub is_tagged : ℕ → Entry → Bool
is_tagged tag Marker = false
is_tagged tag (Formatting n own) = nat_eq own tag

-- whether its tag is one of a store
abbrev pub is_known : Store → Entry → Bool
is_known s Marker = true
is_known s (Formatting n tag) = is_tag_number s tag
