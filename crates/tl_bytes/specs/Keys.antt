-- How byte strings are compared.
use Rattle.std.specs.Prelude.{Bool, nat_eq}
use Rattle.std.specs.Cmp.Lexicographic.{pointwise}
use Rattle.tl_bytes.specs.Held.{Kept}

-- both have the same list, however they are held
abbrev pub same_list : Kept → Kept → Bool
same_list x y = pointwise nat_eq x.list y.list
