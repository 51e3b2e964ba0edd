-- Frames that are gone from a path: they are settled, and their places are kept.
use Rattle.std.specs.Prelude.{Bool, List, [], if◌then◌else◌, false, not, suc, true, zero, ℕ, ◌&&◌, ◌∷◌}
use Rattle.tl_tree.specs.declared.frame.Frame.{Frame}

-- those that are there, where it is marked of so many of the first whether they are gone
abbrev pub there : {A : Type 0} → List Bool → List A → List A
there [] xs = xs
there (gone ∷ marks) [] = []
there (gone ∷ marks) (x ∷ xs) = if gone then there marks xs else x ∷ there marks xs

-- how many are gone
abbrev pub gone_in : List Bool → ℕ
gone_in [] = 0
gone_in (gone ∷ marks) = if gone then suc (gone_in marks) else gone_in marks

-- a frame goes, which may be one that nothing is told of
abbrev pub without : ℕ → List Bool → List Bool
without zero [] = true ∷ []
without zero (gone ∷ marks) = true ∷ marks
without (suc n) [] = false ∷ without n []
without (suc n) (gone ∷ marks) = gone ∷ without n marks

abbrev pub is_first_there : List Bool → Bool
is_first_there [] = true
is_first_there (gone ∷ marks) = not gone

-- none that is gone is open
abbrev pub are_shut : List Bool → List Frame → Bool
are_shut [] frames = true
are_shut (gone ∷ marks) [] = true
are_shut (gone ∷ marks) (f ∷ frames) = not (gone && f.is_open) && are_shut marks frames
