-- Links from numbers to lower ones, and marks of numbers.
use Rattle.std.specs.Prelude.{◌≡◌, ◌↔◌, ◌<◌, ◌≤◌, ◌⊎◌, ℕ, zero, suc, ◌+◌, Bool, true, false, ◌||◌, ◌&&◌, ◌==◌, if◌then◌else◌, List, Option, Some, None, IfSome, slice_get, slice_index_or, slice_set, option_and_then}
use Rattle.std.specs.Option.{option_map_or}

-- the number that stands for no link
abbrev pub no_link : ℕ
no_link = 4294967295

abbrev pub link_or_none : ℕ → Option ℕ
link_or_none to = if to == no_link then None else Some to

-- the number that the link of another leads to, if it has one
abbrev pub link_at : List ℕ → ℕ → Option ℕ
link_at links n = option_and_then link_or_none (slice_get links n)

-- whether a number is marked
abbrev pub is_at : List Bool → ℕ → Bool
is_at marks n = slice_index_or marks n false

-- links lead to lower numbers
abbrev pub AreLower : List ℕ → Type 0
AreLower links = (n : ℕ) → IfSome (link_at links n) (λ to. to < n)

-- k links and one more lead from n to m
abbrev pub AreLinked : List ℕ → ℕ → ℕ → ℕ → Type 0
AreLinked links zero m n = link_at links n ≡ Some m
AreLinked links (suc k) m n = (j : ℕ) × (link_at links n ≡ Some j) × AreLinked links k m j

-- a link leads from n to m; where `often`, one or more do
abbrev pub IsLinked : List ℕ → Bool → ℕ → ℕ → Type 0
IsLinked links false m n = link_at links n ≡ Some m
IsLinked links true m n = (k : ℕ) × AreLinked links k m n

-- links lead from n to a marked number
abbrev pub IsSource : List ℕ → List Bool → Bool → ℕ → Type 0
IsSource links marks often n = (m : ℕ) × IsLinked links often m n × (is_at marks m ≡ true)

-- links lead from a marked number to n
abbrev pub IsTarget : List ℕ → List Bool → Bool → ℕ → Type 0
IsTarget links marks often n = (m : ℕ) × IsLinked links often n m × (is_at marks m ≡ true)

-- a number has its mark, or one that was found, where several links count
abbrev pub passes_on : List Bool → Bool → List Bool → ℕ → Bool
passes_on marks often found n = is_at marks n || (often && is_at found n)

-- what the link of a number says of it
abbrev pub source_mark : List ℕ → List Bool → Bool → List Bool → ℕ → Bool
source_mark links marks often found n =
    option_map_or (passes_on marks often found) (link_at links n) false

-- marks with one more: where a number passes its mark on, that to which its link leads
abbrev pub with_target : List ℕ → List Bool → Bool → ℕ → List Bool → List Bool
with_target links marks often n found =
    option_map_or (λ to. if passes_on marks often found n then slice_set found to true else found)
    (link_at links n) found

abbrev pub count_at : List ℕ → ℕ → ℕ
count_at counts n = slice_index_or counts n 0

abbrev pub one_if : Bool → ℕ
one_if mark = if mark then 1 else 0

-- the count of the number that a link leads to
abbrev pub linked_count : List ℕ → List ℕ → ℕ → ℕ
linked_count links counts n = option_map_or (count_at counts) (link_at links n) 0

-- counts, where that of a number is added to the one that its link leads to
abbrev pub with_added : List ℕ → ℕ → List ℕ → List ℕ
with_added links n counts = option_map_or
    (λ to. slice_set counts to (count_at counts to + count_at counts n)) (link_at links n) counts

-- m is marked, and is n or links lead from n to m
abbrev pub IsAhead : List ℕ → List Bool → ℕ → ℕ → Type 0
IsAhead links marks n m = ((m ≡ n) ⊎ IsLinked links true m n) × (is_at marks m ≡ true)

-- m is marked, and is n or links lead from m to n
abbrev pub IsBehind : List ℕ → List Bool → ℕ → ℕ → Type 0
IsBehind links marks n m = ((m ≡ n) ⊎ IsLinked links true n m) × (is_at marks m ≡ true)

-- both numbers have one group
abbrev pub AreGrouped : {G : Type 0} → (ℕ → Option G) → ℕ → ℕ → Type 0
AreGrouped {G} group_at m n = (g : G) × (group_at m ≡ Some g) × (group_at n ≡ Some g)

-- m is the last number below n that is related to it
abbrev pub IsLastBelow : (ℕ → ℕ → Type 0) → ℕ → ℕ → Type 0
IsLastBelow R m n = ((m < n) × R m n) × ((k : ℕ) → (k < n) × R k n → k ≤ m)

-- links from each number to the last one below it that is related to it, and none where none is
pub record AreToLast (R : ℕ → ℕ → Type 0) (links : List ℕ) : Type 0 where
  pub each : (m n : ℕ) → (link_at links n ≡ Some m) ↔ IsLastBelow R m n
  pub none : (k n : ℕ) → link_at links n ≡ None → k < n → R k n → ⊥

-- the last number below another that has a group, if there is one
abbrev pub IsLatest : {G : Type 0} → (ℕ → Option G) → ℕ → G → Option ℕ → Type 0
IsLatest group_at number g None = (k : ℕ) → k < number → group_at k ≡ Some g → ⊥
IsLatest group_at number g (Some m) = (m < number) × (group_at m ≡ Some g)
    × ((k : ℕ) → k < number → group_at k ≡ Some g → k ≤ m)
