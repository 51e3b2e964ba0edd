-- Which frames may stand on a path: what they have is in the store, and their numbers differ.
use Rattle.std.specs.List.{list_any}
use Rattle.std.specs.Prelude.{Bool, List, [], false, map, nat_eq, nat_le, nat_lt, not, true, ℕ, ◌&&◌, ◌∷◌}
use Rattle.tl_tree.specs.declared.frame.Frame.{Frame}
use Rattle.tl_tree.specs.declared.frame.Place.{Place}
use Rattle.tl_tree.specs.declared.frame.Place.TheVariants.{Behind, Here, Into, IntoHead}

-- where there are so many tags and rows
abbrev pub frame_is_within : ℕ → ℕ → Frame → Bool
frame_is_within tags rows f =
    nat_lt f.tag tags
    && (nat_le f.children rows && (nat_le f.late rows && nat_le f.waiting rows))

-- numbers from this one on are free
abbrev pub is_before : ℕ → Frame → Bool
is_before next f = nat_lt f.number next

abbrev pub is_numbered : ℕ → Frame → Bool
is_numbered k f = nat_eq f.number k

abbrev pub numbers : List Frame → List ℕ
numbers frames = map (λ (f : Frame). f.number) frames

abbrev pub are_distinct : List Frame → Bool
are_distinct [] = true
are_distinct (f ∷ frames) = not (list_any (is_numbered f.number) frames) && are_distinct frames

-- whether a node goes to the end of what is next on the path
abbrev pub goes_here : Place → Bool
goes_here Here = true
goes_here (Into number) = false
goes_here (Behind number) = false
goes_here IntoHead = false

abbrev pub is_here : Frame → Bool
is_here f = goes_here f.place
