-- How a path is known: by its order, or by a mark for each of its handles.
use Rattle.std.specs.Prelude.{◌≡◌, ℕ, ◌<◌, Bool, true, false, List, [], ◌∷◌, ◌⊎◌, ⊤, replicate, set}
use Rattle.tl_spec.specs.Walk.{stands_on}

-- no handle stands on the path twice, and each is one of n
abbrev pub AreFresh : ℕ → List ℕ → Type 0
AreFresh n [] = ⊤
AreFresh n (h ∷ path) = (h < n) × (stands_on path h ≡ false) × AreFresh n path

-- a mark for each handle of the path, among n
abbrev pub marks_of : ℕ → List ℕ → List Bool
marks_of n [] = replicate n false
marks_of n (h ∷ path) = set (marks_of n path) h true

-- above the last handle
abbrev pub IsAbove : ℕ → List ℕ → Type 0
IsAbove h [] = ⊤
IsAbove h (k ∷ path) = k < h

-- each handle is above the one before it
abbrev pub IsRising : List ℕ → Type 0
IsRising [] = ⊤
IsRising (h ∷ path) = IsAbove h path × IsRising path

-- no marks yet, and the path rises; or all marks
abbrev pub IsKept : ℕ → List ℕ → List Bool → Type 0
IsKept n path marks = ((marks ≡ []) × IsRising path) ⊎ (marks ≡ marks_of n path)

-- a handle that may be added to the path: without marks it is above the last one
abbrev pub MayFollow : ℕ → List ℕ → List Bool → Type 0
MayFollow h path marks = marks ≡ [] → IsAbove h path
