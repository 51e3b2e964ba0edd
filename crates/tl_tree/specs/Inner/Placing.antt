-- Attributes that come behind others, and places of keys.
use Rattle.std.specs.Option.{is_some}
use Rattle.std.specs.Prelude.{Bool, List, Vec, [], ℕ, ◌++◌, ◌∷◌, ◌≡◌, ◌⊎◌}
use Rattle.std.specs.declared.alloc.Global.{Global}
use Rattle.tl_tree.specs.Inner.MetNames.{number_among}
use Rattle.tl_tree.specs.declared.entries.AttributeEntry.{AttributeEntry}

abbrev pub is_one_more : AttributeEntry → List AttributeEntry → List AttributeEntry → Type 0
is_one_more a old new = (new ≡ old) ⊎ (new ≡ old ++ a ∷ [])

-- whether the key of an attribute has a place
abbrev pub has_place : List (Vec ℕ Global × ℕ) → (AttributeEntry → List ℕ) → AttributeEntry → Bool
has_place places key_of a = is_some (number_among places (key_of a))
