-- Where the range of a node's descendants begins and ends.
use Rattle.std.specs.Prelude.{◌≡◌, ℕ, zero, suc, ◌+◌, ◌<◌, Bool, true, false, nat_lt, if◌then◌else◌, List, [], ◌∷◌, length, Option, Some, None, Result, Ok, Err, slice_get}
use Rattle.std.specs.List.{between, last_or}
use Rattle.tl_spec.specs.Tree.Document.{Node, Tag, TagNode}
use Rattle.tl_spec.specs.Tree.Element.{last_child_of}
use Rattle.tl_spec.specs.Walk.{TreeFault, Dangling, Cycle, Walk, end, meets_text, meets_comment, meets_tag, passes_tag, meets_fault, all_tags, stands_on, visits, visits_from, walk}

module _ (nodes : List Node) where
  -- one handle on the way along last children: whether it stands on the way already, and its node,
  -- or none past the table
  abbrev pub handle_end : (Option ℕ → Result (Option ℕ) TreeFault) → ℕ → Bool → Option Node →
      Result (Option ℕ) TreeFault
  handle_end further h stands None = Err (Dangling h)
  handle_end further h true (Some node) = Err (Cycle h)
  handle_end further h false (Some node) = further (last_child_of node)

  -- a step of the way, which ends where there is no further child; the last handle of the path
  -- stands first
  abbrev pub step_end : (List ℕ → Option ℕ → Result (Option ℕ) TreeFault) → List ℕ → Option ℕ →
      Result (Option ℕ) TreeFault
  step_end further path None = Ok (slice_get path 0)
  step_end further path (Some h) =
      handle_end (further (h ∷ path)) h (stands_on path h) (slice_get nodes h)

  -- the way, at most n steps further
  abbrev pub end_within : ℕ → List ℕ → Option ℕ → Result (Option ℕ) TreeFault
  end_within zero path last = step_end (λ before next. Ok (slice_get before 0)) path last
  end_within (suc n) path last = step_end (end_within n) path last

  -- the last handle on the way below this path, or the fault there: a path is never longer than the
  -- table
  abbrev pub end_below : List ℕ → Option ℕ → Result (Option ℕ) TreeFault
  end_below = end_within (length nodes)

  -- the end of what hangs below a node: its last child, that one's last child, and so on. The
  -- node's own handle is not known
  abbrev pub last_below : Option ℕ → Result (Option ℕ) TreeFault
  last_below = end_below []

-- the first child and the end: none where there is no child
abbrev pub with_end : Option ℕ → Result (Option ℕ) TreeFault → Result (Option (ℕ × ℕ)) TreeFault
with_end None last = Ok None
with_end (Some first) (Ok None) = Ok None
with_end (Some first) (Ok (Some last)) = Ok (Some (first, last))
with_end (Some first) (Err fault) = Err fault

-- the boundaries of what hangs below a node with this first and this last child: the first one is
-- not looked up
abbrev pub boundaries_from : List Node → Option ℕ → Option ℕ → Result (Option (ℕ × ℕ)) TreeFault
boundaries_from nodes first last = with_end first (last_below nodes last)

-- the boundaries of what hangs below a node with these children
abbrev pub boundaries_of : List Node → List ℕ → Result (Option (ℕ × ℕ)) TreeFault
boundaries_of nodes children = boundaries_from nodes (slice_get children 0) (last_or None children)

-- the numbers from one to another, as a first one and the one after the last: none where they are
-- reversed
abbrev pub half_open : Option (ℕ × ℕ) → ℕ × ℕ
half_open None = (0, 0)
half_open (Some b) = if nat_lt b.1 b.0 then (0, 0) else (b.0, b.1 + 1)

-- the range between boundaries
abbrev pub range_between : Result (Option (ℕ × ℕ)) TreeFault → Result (ℕ × ℕ) TreeFault
range_between (Ok boundaries) = Ok (half_open boundaries)
range_between (Err fault) = Err fault

-- the range of what hangs below a node with this first and this last child
abbrev pub range_from : List Node → Option ℕ → Option ℕ → Result (ℕ × ℕ) TreeFault
range_from nodes first last = range_between (boundaries_from nodes first last)

-- the range of what hangs below a node with these children
abbrev pub range_of : List Node → List ℕ → Result (ℕ × ℕ) TreeFault
range_of nodes children = range_between (boundaries_of nodes children)

-- the answer of what is met later, where something is
abbrev pub end_or_later : Walk → Result (Option ℕ) TreeFault → Result (Option ℕ) TreeFault →
    Result (Option ℕ) TreeFault
end_or_later end here later = here
end_or_later (meets_text h bytes more) here later = later
end_or_later (meets_comment h bytes more) here later = later
end_or_later (meets_tag h own children more) here later = later
end_or_later (passes_tag h own more) here later = later
end_or_later (meets_fault fault more) here later = later

-- where a walk ends: at the last of the handles in a row, and below it at the last again; or the
-- fault there
abbrev pub walk_end : Option ℕ → Walk → Result (Option ℕ) TreeFault
walk_end before end = Ok before
walk_end before (meets_text h bytes more) = end_or_later more (Ok (Some h)) (walk_end before more)
walk_end before (meets_comment h bytes more) =
    end_or_later more (Ok (Some h)) (walk_end before more)
walk_end before (meets_tag h own children more) =
    end_or_later more (walk_end (Some h) children) (walk_end before more)
walk_end before (passes_tag h own more) = end_or_later more (Ok (Some h)) (walk_end before more)
walk_end before (meets_fault fault more) = end_or_later more (Err fault) (walk_end before more)

-- the range of each tag's children holds what hangs below the tag, in order, and nothing else; it
-- begins right after the tag
abbrev pub AreRangesOfDescendants : List Node → Type 0
AreRangesOfDescendants nodes = (n : ℕ) (own : TagNode) → slice_get nodes n ≡ Some (Tag own) →
    (range : ℕ × ℕ) × (range_of nodes own.children.items ≡ Ok range)
    × (visits (walk all_tags nodes [] own.children.items)
    ≡ visits_from range.0 (between range.0 range.1 nodes))
    × (range.0 < range.1 → range.0 ≡ n + 1)
