-- How one text becomes another one, line by line.
use Rattle.std.specs.Borrow.{Bor}
use Rattle.std.specs.Prelude.{List, [], drop, length, map, take, ℕ, ◌≡◌, ◌≤◌, ◌∷◌}
use Rattle.tl_diff.specs.declared.change.Change.{Change}

-- the lines that references lead to
abbrev pub lines_said : List (Bor (List ℕ)) → List (List ℕ)
lines_said lines = map (λ (line : Bor (List ℕ)). line.now) lines

-- The changes lead from lines to lines: each is behind so many that both have, and takes so many of
-- the old ones away and puts so many of the new ones there; behind the last one both are the same
abbrev pub IsScript : List Change → List (List ℕ) → List (List ℕ) → Type 0
IsScript [] old new = old ≡ new
IsScript (c ∷ changes) old new =
    (take c.kept old ≡ take c.kept new)
    × (c.removed ≤ length (drop c.kept old))
    × (c.added ≤ length (drop c.kept new))
    × IsScript changes (drop c.removed (drop c.kept old)) (drop c.added (drop c.kept new))
