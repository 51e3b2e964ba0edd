-- The adoption agency algorithm (13.2.6.4.7).
use Rattle.std.specs.Prelude.{Bool, List, None, Option, Some, [], false, if◌then◌else◌, map, nat_lt, not, suc, true, ℕ, ◌&&◌, ◌++◌, ◌+◌, ◌-◌, ◌==◌, ◌∷◌}
use Rattle.tl_dom_spec.specs.Tags.{Tag, is_named, is_scope, is_special}
use Rattle.tl_dom_spec.specs.Path.{Frame, Path, Place, behind, elements, has_number, has_tag, here, into, is_open_number, new_frame, no_nodes, place_in, popped_through, settled_while, within}
use Rattle.tl_dom_spec.specs.Builder.{Again, Builder, Done, Entry, Outcome, close_except_for, current_node, formatting, pop_current_node, repeated}
use Rattle.tl_dom_spec.specs.Formatting.{Listed, is_listed, listed, listed_behind, relisted, unlisted}

-- any other end tag: the innermost element of its name is closed, where no special one stands
-- further in
abbrev pub any_other_end_tag : List ℕ → Builder → Builder
any_other_end_tag name b =
    if within (has_tag (is_named name)) (has_tag (is_special b.flags.counts_search))
    (elements b.path)
    then close_except_for (is_named name) (is_named name) b
    else b

-- the furthest block: the outermost special element of those in the stack inside of an element
abbrev pub outermost : (Tag → Bool) → ℕ → Option Frame → List Frame → Option Frame
outermost test k found [] = None
outermost test k found (f ∷ fs) =
    if f.number == k then found else outermost test k (if test f.tag then Some f else found) fs

abbrev pub furthest_block : ℕ → Builder → Option Frame
furthest_block k b = outermost (is_special b.flags.counts_search) k None (elements b.path)

-- what stands inside of the element of a number, and what outside
abbrev pub inside_of : ℕ → Path → Path
inside_of k [] = []
inside_of k (f ∷ path) = if f.number == k then [] else f ∷ inside_of k path

abbrev pub outside_of : ℕ → Path → Path
outside_of k [] = []
outside_of k (f ∷ path) = if f.number == k then path else outside_of k path

-- the elements between, of which the listed ones are made anew: the clones, the list, and the
-- number of the next element
pub record Clones : Type 0 where
  pub frames : Path
  pub entries : List Entry
  pub next : ℕ

-- the inner loop, from the block outwards: of more than three none stays in the list, and what is
-- not in the list leaves the stack
abbrev pub cloned : ℕ → List Frame → List Entry → ℕ → Clones
cloned count [] entries next = record { frames = []; entries = entries; next = next }
cloned count (f ∷ fs) entries next =
    elim (is_listed f.number entries) as (λ _. Clones) [
      | false ↦ cloned (suc count) fs entries next
      | true ↦ elim (nat_lt 2 count) as (λ _. Clones) [
        | true ↦ cloned (suc count) fs (unlisted f.number entries) next
        | false ↦ (let r = cloned (suc count) fs (relisted f.number next entries) (suc next) in
            record r { frames = new_frame next f.tag here ∷ r.frames })
      ]
    ]

-- the new element's entry: where that of the formatting element is, or behind that of the clone
-- that was made first
abbrev pub entry_moved : ℕ → ℕ → Tag → Path → List Entry → List Entry
entry_moved k new tag [] entries = relisted k new entries
entry_moved k new tag (clone ∷ clones) entries =
    listed_behind clone.number (formatting new tag) (unlisted k entries)

-- the last of these goes to a place
abbrev pub outermost_at : Place → Path → Path
outermost_at place [] = []
outermost_at place (f ∷ []) = record f { place = place } ∷ []
outermost_at place (f ∷ g ∷ path) = f ∷ outermost_at place (g ∷ path)

-- what went into the block goes into the new element
abbrev pub moved_place : ℕ → ℕ → Place → Place
moved_place block new (into k) = into (if k == block then new else k)
moved_place block new (behind k) = behind (if k == block then new else k)
moved_place block new place = place

abbrev pub moved_into : ℕ → ℕ → Path → Path
moved_into block new path =
    map (λ (f : Frame). record f { place = moved_place block new f.place }) path

-- all that stands inside of the common ancestor, which is the element in the stack around the
-- formatting element, is settled, up to the block
abbrev pub is_inside_of : Option Frame → Frame → Bool
is_inside_of None f = false
is_inside_of (Some ancestor) f = not (f.number == ancestor.number)

abbrev pub first : List Frame → Option Frame
first [] = None
first (f ∷ fs) = Some f

abbrev pub settled_to : Option Frame → Path → Path
settled_to ancestor path = settled_while (is_inside_of ancestor) path path

-- the path with the clones around the block, and in it a new element that has what was in the
-- block; the outermost of them at a place
abbrev pub readopted : Place → Frame → Listed → Clones → Path → Path
readopted place block own clones outer =
    record (new_frame clones.next own.tag here) {
      children = block.children;
      waiting = block.waiting;
    }
    ∷ (outermost_at place
    (record block { children = no_nodes; waiting = no_nodes; place = here } ∷ clones.frames)
    ++ outer)

-- a round with a furthest block, where all between it and the common ancestor is settled
abbrev pub adopted : Builder → Listed → Frame → Clones → Path → Outcome
adopted b own block clones outer =
    Again (record b {
      path = moved_into block.number clones.next (inside_of block.number b.path)
          ++ readopted (place_in b.is_fostering outer) block own clones outer;
      active = entry_moved own.number clones.next own.tag clones.frames clones.entries;
      next = suc clones.next;
      added = b.added + (suc clones.next - b.next);
    })

abbrev pub with_block : Builder → Listed → Option Frame → Outcome
with_block b own None =
    Done (record b {
      path = popped_through (has_number own.number) b.path;
      active = unlisted own.number b.active;
    })
with_block b own (Some block) =
    adopted b own block
    (cloned 0 (elements (inside_of own.number (outside_of block.number b.path))) b.active b.next)
    (settled_to (first (elements (outside_of own.number b.path)))
    (outside_of block.number b.path))

-- a round of the outer loop, from its step on the formatting element on
abbrev pub with_formatting : List ℕ → Builder → Option Listed → Outcome
with_formatting name b None = Done (any_other_end_tag name b)
with_formatting name b (Some own) =
    if not (is_open_number own.number b.path)
    then Done (record b { active = unlisted own.number b.active })
    else if not (within (has_number own.number) (has_tag is_scope) (elements b.path)) then Done b
    else with_block b own (furthest_block own.number b)

abbrev pub adoption_round : List ℕ → Builder → Outcome
adoption_round name b = with_formatting name b (listed name b.active)

-- for an end tag, and for a start tag of `a` or `nobr`: eight rounds at most
abbrev pub adoption_agency : List ℕ → Builder → Builder
adoption_agency name b =
    if is_named name (current_node b).tag && not (is_listed (current_node b).number b.active)
    then pop_current_node b
    else repeated 8 (adoption_round name) (Again b)
