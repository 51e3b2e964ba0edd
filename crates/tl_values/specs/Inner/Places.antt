-- Places in a value, one behind what stands at the one before.
use Rattle.std.specs.Prelude.{List, [], length, ℕ, ◌+◌, ◌≤◌, ◌∷◌}

-- at each of these places so many bytes stand in the value, and none of them before `from`
abbrev pub AreInTurn : ℕ → List ℕ → ℕ → List ℕ → Type 0
AreInTurn len value from [] = from ≤ length value
AreInTurn len value from (place ∷ places) =
    from ≤ place × place + len ≤ length value × AreInTurn len value (place + len) places
