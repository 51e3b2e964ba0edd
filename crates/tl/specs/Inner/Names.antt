-- Which names of a table are tracked.
use Rattle.std.specs.Prelude.{ℕ, List, [], ◌∷◌, ◌++◌, ◌||◌, Option, None, Some, if◌then◌else◌}
use Rattle.std.specs.List.{flat_map}
use Rattle.tl_spec.specs.Tree.Document.{Node}
use Rattle.tl_spec.specs.Lookup.Scan.{id_of, class_of}
use Rattle.tl_tracking.specs.NameKey.{number_of_names}
use Rattle.tl_tracking.specs.Options.{Options}

-- a name, if there is one
abbrev pub name_list : Option (List ℕ) → List (List ℕ)
name_list None = []
name_list (Some name) = name ∷ []

-- the id of a node and its class as it stands, where they are tracked
abbrev pub names_of : Options → Node → List (List ℕ)
names_of asked node =
    (if asked.ids then name_list (id_of node) else [])
    ++ (if asked.classes then name_list (class_of node) else [])

-- those of all nodes, in order
abbrev pub names_in : Options → List Node → List (List ℕ)
names_in asked nodes = flat_map (names_of asked) nodes

-- the number that they are hashed by, where any are tracked
abbrev pub key_of : Options → List Node → ℕ
key_of asked nodes =
    if asked.ids || asked.classes then number_of_names (names_in asked nodes) else 0
