-- Where the selector of an iterator holds, and the numbers that it has left.
use Rattle.std.specs.Prelude.{◌≡◌, ◌<◌, ◌≤◌, ℕ, zero, suc, ◌+◌, Bool, true, false, Option, MatchOption, List, [], ◌∷◌, slice_get, slice_index_or, if◌then◌else◌}
use Rattle.std.specs.Option.{option_map_or}
use Rattle.tl_spec.specs.Tree.Document.{Node}
use Rattle.tl_spec.specs.Select.Search.{holds_alone}
use Rattle.tl_selector.specs.Spine.{has_sides}
use Rattle.tl_selector.specs.View.{selector}
use Rattle.tl_selector.specs.declared.matches.node_test.Test.{Test}
use Rattle.tl_selector.specs.declared.matches.node_test.Test.TheVariants.{Alone, Marked}

-- the numbers of k places from n on that pass
abbrev pub found_numbers : (ℕ → Bool) → ℕ → ℕ → List ℕ
found_numbers p n zero = []
found_numbers p n (suc k) = if p n then n ∷ found_numbers p (n + 1) k else found_numbers p (n + 1) k

-- a number is the first from one on, and below another, that passes; none where none does
abbrev pub IsFirst : (ℕ → Bool) → ℕ → ℕ → Option ℕ → Type 0
IsFirst p from to first = MatchOption first ((n : ℕ) → from ≤ n → n < to → p n ≡ false)
    (λ m. (from ≤ m) × (m < to) × (p m ≡ true) × ((n : ℕ) → from ≤ n → n < m → p n ≡ false))

-- whether a test finds the node of a number
abbrev pub is_found : Test → List Node → ℕ → Bool
is_found (Alone e) nodes n = option_map_or (holds_alone (selector e)) (slice_get nodes n) false
is_found (Marked marks) nodes n = slice_index_or marks.items n false

-- the test of a selector that isn't joined of two, which is cloned without memory
abbrev pub IsOfOnePart : Test → Type 0
IsOfOnePart (Alone e) = has_sides (selector e) ≡ false
IsOfOnePart (Marked marks) = ⊥
