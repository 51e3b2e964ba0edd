-- The adoption agency algorithm, on frames that are kept the outermost first.
use Rattle.std.specs.Option.{option_map}
use Rattle.std.specs.Prelude.{Bool, List, None, Option, Some, [], drop, false, length, map, not, reverse, slice_index_or, suc, take, true, if◌then◌else◌, ℕ, ◌&&◌, ◌+◌, ◌++◌, ◌<◌, ◌==◌, ◌≡◌, ◌≤◌, ◌∷◌}
use Rattle.tl_dom_spec.specs.Adoption.{Clones, cloned, entry_moved, first, inside_of, moved_into, moved_place, outermost, outside_of, readopted, settled_to}
use Rattle.tl_dom_spec.specs.Builder.{Entry}
use Rattle.tl_dom_spec.specs.Formatting.{Listed}
use Rattle.tl_dom_spec.specs.Path.{Frame, Nodes, Path, Place, caught_up, document, elements, here, new_frame, no_nodes, node_of, on_top, place_in, with_nodes}
use Rattle.tl_dom_spec.specs.Tags.{Tag, is_foster_target}
use Rattle.tl_tree.specs.Inner.Active.{active_of}
use Rattle.tl_tree.specs.Inner.Frames.{around, changed, frames_of, path_of}
use Rattle.tl_tree.specs.declared.active.ActiveList.{ActiveList}
use Rattle.tl_tree.specs.declared.path.FramePath.{FramePath}

-- the number of a frame, where there is one
abbrev pub number_of : Option Frame → Option ℕ
number_of found = option_map (λ (f : Frame). f.number) found

abbrev pub frame_at : FramePath → ℕ → Frame
frame_at p n = slice_index_or (frames_of p) n document

-- the frame of a place that was found
abbrev pub frame_found : FramePath → Option ℕ → Option Frame
frame_found p found = option_map (frame_at p) found

abbrev pub is_element_of : ℕ → Frame → Bool
is_element_of k f = f.is_open && (f.number == k)

-- an element that passes a test
abbrev pub is_block : (Tag → Bool) → Frame → Bool
is_block test f = f.is_open && test f.tag

-- the furthest block, where one was found and so many of the outermost frames are left
unfoldable pub furthest : (Tag → Bool) → ℕ → FramePath → Option ℕ → ℕ → Option Frame
furthest test k p found n =
    outermost test k (frame_found p found) (elements (reverse (take n (frames_of p))))

-- the number of the innermost element of so many of the outermost frames
unfoldable pub innermost_number : FramePath → ℕ → Option ℕ
innermost_number p n = number_of (first (elements (reverse (take n (frames_of p)))))

-- not the one of a number, where there is a number
abbrev pub is_inside : Option ℕ → Frame → Bool
is_inside None f = false
is_inside (Some k) f = not (f.number == k)

-- with nothing in it
abbrev pub emptied : Frame → Frame
emptied f = record f { children = no_nodes; waiting = no_nodes; place = here }

-- a new element that has what is in another one
abbrev pub filled : ℕ → Tag → Frame → Frame
filled number tag f = record (new_frame number tag here) {
  children = f.children;
  waiting = f.waiting;
}

abbrev pub placed : Place → Frame → Frame
placed place f = record f { place = place }

abbrev pub moved : ℕ → ℕ → Frame → Frame
moved block new f = record f { place = moved_place block new f.place }

-- a block with what is inside of it, and a new element between
abbrev pub renewed : ℕ → Tag → List Frame → List Frame
renewed number tag [] = []
renewed number tag (block ∷ inner) =
    emptied block ∷ filled number tag block ∷ map (moved block.number number) inner

-- without what is in it
abbrev pub shape : Frame → Frame
shape f = record f { children = no_nodes; waiting = no_nodes }

-- a block with what is inside of it, a new element between, and what is outside, as it is seen
abbrev pub renewed_over : Frame → ℕ → Tag → Path → Path → Path
renewed_over block number tag inner outer =
    map (moved block.number number) inner ++ (filled number tag block ∷ emptied block ∷ outer)

-- the elements inside of the one of a number, and outside of a place
unfoldable pub elements_between : ℕ → FramePath → ℕ → List Frame
elements_between k p n = elements (inside_of k (around p n))

-- clones of what stands at these places, by the numbers from one on
abbrev pub clones_at : List Frame → ℕ → List ℕ → Path
clones_at frames next [] = []
clones_at frames next (n ∷ places) =
    new_frame next (slice_index_or frames n document).tag here
    ∷ clones_at frames (suc next) places

-- these places are inside of one, and each is outside of the one before it
abbrev pub AreInward : ℕ → ℕ → List ℕ → Type 0
AreInward least most [] = Unit
AreInward least most (n ∷ places) = (least ≤ n) × (n < most) × AreInward least n places

-- a new element in the place of any other
abbrev pub anew : ℕ → Tag → Frame → Frame
anew number tag f = new_frame number tag here

-- what frames are called by, and their tags, the outermost first
abbrev pub numbers_in : FramePath → List ℕ
numbers_in p = map (λ (f : Frame). f.number) (frames_of p)

abbrev pub tags_in : FramePath → List Tag
tags_in p = map (λ (f : Frame). f.tag) (frames_of p)

-- the formatting element goes to what is right outside of it, and what goes there isn't foster
-- parented
pub record IsNear (is_fostering : Bool) (k : ℕ) (outside own : Frame) : Type 0 where
  pub fosters : (is_fostering && is_foster_target outside.tag) ≡ false
  pub number : own.number ≡ k
  pub goes : own.place ≡ here
  pub around : outside.is_open ≡ true

-- frames with others outside of them; the outermost goes to its place
abbrev pub with_outer : Bool → Path → List Frame → List Frame
with_outer is_fostering outer frames =
    reverse outer ++ on_top (placed (place_in is_fostering outer)) frames

-- clones around what stands at a place, the innermost first
abbrev pub with_clones : ℕ → Path → List Frame → List Frame
with_clones place clones frames = take place frames ++ (reverse clones ++ drop place frames)

-- what the inner loop makes, where it made some before
abbrev pub after_clones : Path → Clones → Clones
after_clones clones r = record r { frames = clones ++ r.frames }

-- where nothing is made any more
abbrev pub none_cloned : List Entry → ℕ → Clones
none_cloned entries next = record { frames = []; entries = entries; next = next }

-- the clone that was made first has this number
abbrev pub IsFirst : ℕ → Path → Type 0
IsFirst k [] = Unit
IsFirst k (clone ∷ clones) = clone.number ≡ k

-- a frame before the elements of others, where it is one of the stack
abbrev pub with_element : Frame → List Frame → List Frame
with_element f fs = if f.is_open then f ∷ fs else fs

-- some clones were made around what stands at a place, and what is to be made is so as well
pub record AreMade (place : ℕ) (p q : FramePath) (all rest : Clones) (before after : ℕ)
    : Type 0 where
  pub clones : Path
  pub frames : frames_of q ≡ with_clones place clones (frames_of p)
  pub whole : all ≡ after_clones clones rest
  pub count : after ≡ before + length clones

-- A round with a block, on the path and the list

abbrev pub clones_in : Listed → Frame → Path → List Entry → ℕ → Clones
clones_in own block path entries next =
    cloned 0 (elements (inside_of own.number (outside_of block.number path))) entries next

abbrev pub outer_in : Listed → Frame → Path → Path
outer_in own block path =
    settled_to (first (elements (outside_of own.number path))) (outside_of block.number path)

abbrev pub adopted_path : Bool → Listed → Frame → Clones → Path → Path → Path
adopted_path is_fostering own block clones outer path =
    moved_into block.number clones.next (inside_of block.number path)
    ++ readopted (place_in is_fostering outer) block own clones outer

abbrev pub adopted_entries : Listed → Clones → List Entry
adopted_entries own clones =
    entry_moved own.number clones.next own.tag clones.frames clones.entries

-- with these clones, of which there are so many
pub record IsAdopted (is_fostering : Bool) (own : Listed) (block : Frame) (clones : Clones)
    (p q : FramePath) (list : ActiveList) (count : ℕ) : Type 0 where
  pub path :
      path_of q
      ≡ adopted_path is_fostering own block clones (outer_in own block (path_of p)) (path_of p)
  pub active : active_of q.store list ≡ adopted_entries own clones
  pub next : q.next ≡ suc clones.next
  pub made : clones.next ≡ p.next + count
