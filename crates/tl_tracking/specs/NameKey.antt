-- The number that names are hashed by.
use Rattle.std.specs.Prelude.{ℕ, List, [], ◌∷◌, ◌++◌, take}
use Rattle.std.specs.Int.{w64, from_le_bytes}
use Rattle.std.specs.List.{flat_map}
use Rattle.md5.specs.Md5.{md5, Holds}
use Rattle.tl_tracking.specs.declared.hasher.NameKey.{NameKey}

-- names, each with the byte 255 after it, which is no byte of a text
abbrev pub terminated_names : List (List ℕ) → List ℕ
terminated_names names = flat_map (λ name. name ++ 255 ∷ []) names

-- the first eight bytes of their MD5 digest, the lowest first
abbrev pub number_of_names : List (List ℕ) → ℕ
number_of_names names = from_le_bytes w64 (take 8 (md5 (terminated_names names)))

-- a key was made of these names
abbrev pub HasNames : NameKey → List (List ℕ) → Type 0
HasNames key names = Holds key.digest (terminated_names names)
