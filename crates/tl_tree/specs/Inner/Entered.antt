-- The elements that are known to the searches of a path.
use Rattle.std.specs.Prelude.{List, [], drop, map, suc, take, ℕ, ◌++◌, ◌∷◌}
use Rattle.tl_tree.specs.Inner.NameNumbers.{number_at}
use Rattle.tl_tree.specs.Inner.Roles.{role_of}
use Rattle.tl_tree.specs.Inner.Store.{tag_at}
use Rattle.tl_tree.specs.declared.frame.Frame.{Frame}
use Rattle.tl_tree.specs.declared.role.Entered.{Entered}
use Rattle.tl_tree.specs.declared.role.Role.{Role}
use Rattle.tl_tree.specs.declared.scopes.Entry.{Entry}
use Rattle.tl_tree.specs.declared.scopes.Scopes.{Scopes}
use Rattle.tl_tree.specs.declared.store.Store.{Store}

-- the outermost first
unfoldable pub entered : Scopes → List Entered
entered s = map (λ (entry : Entry). entry.own) s.entries.items

-- what the tag of a number is to searches
abbrev pub role_at : Store → ℕ → Role
role_at s n = role_of (tag_at s n) (number_at s n)

-- what is entered of a frame
abbrev pub entered_of : Store → Frame → Entered
entered_of s f = record { number = f.number; role = role_at s f.tag }

-- the element inside of the one at a place stands at its place, and a new one right inside of it
abbrev pub turned_after : List Entered → Entered → List Entered → List Entered
turned_after outer new [] = outer
turned_after outer new (inside ∷ inner) = outer ++ inside ∷ new ∷ inner

unfoldable pub turned : ℕ → Entered → List Entered → List Entered
turned place new elements = turned_after (take place elements) new (drop (suc place) elements)

-- a new element stands at a place, which is to searches what the next one is
abbrev pub replaced_before : List Entered → ℕ → List Entered → List Entered
replaced_before outer number [] = outer
replaced_before outer number (inside ∷ inner) =
    outer ++ record { number = number; role = inside.role } ∷ inside ∷ inner

unfoldable pub replaced : ℕ → ℕ → List Entered → List Entered
replaced place number elements =
    replaced_before (take place elements) number (drop (suc place) elements)
