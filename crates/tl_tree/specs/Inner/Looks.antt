-- Numbers that elements share which the Noah's Ark clause takes for the same, and those of a name.
use Rattle.std.specs.Prelude.{List, [], ℕ, ◌%◌, ◌*◌, ◌+◌, ◌∷◌}
use Rattle.tl_dom_spec.specs.Tags.{Attribute, Tag}
use Rattle.tl_tree.specs.declared.look.Key.{Key}
use Rattle.tl_tree.specs.declared.look.Key.TheVariants.{Look, Name}

-- what was read so far, with some bytes more
abbrev pub read_on : ℕ → List ℕ → ℕ
read_on so_far [] = so_far
read_on so_far (byte ∷ bytes) = read_on ((so_far * 16777619 + byte) % 4294967296) bytes

-- the name counts, and the attribute where there is one alone
abbrev pub look_by : ℕ → List Attribute → ℕ
look_by name [] = name
look_by name (a ∷ []) = read_on (read_on name a.key) a.value
look_by name (a ∷ b ∷ attributes) = name

unfoldable pub look_of : Tag → ℕ
look_of t = look_by (read_on 0 t.name) t.attributes

abbrev pub key_of : Key → Tag → ℕ
key_of Look t = look_of t
key_of Name t = read_on 0 t.name
