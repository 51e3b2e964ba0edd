-- The names of the open tags, as `Balanced` has them: the innermost first.
use Rattle.std.specs.Prelude.{ℕ, zero, suc, nat_le, Bool, true, bit_or, ◌&&◌, ◌==◌, List, [], ◌∷◌, length, take, drop}
use Rattle.tl_html_spec.specs.Balanced.{Names}
use Rattle.tl_html_balance.specs.Classes.{classes_of}
use Rattle.tl_html_balance.specs.declared.open_tags.OpenTag.{OpenTag}

-- the names of tags, the innermost first, in bytes that end with the innermost
abbrev pub names_in : List OpenTag → List ℕ → Names
names_in [] bytes = []
names_in (tag ∷ tags) bytes = drop tag.start bytes ∷ names_in tags (take tag.start bytes)

-- the classes of tags together, as the innermost says them
abbrev pub all_classes : List OpenTag → ℕ
all_classes [] = 0
all_classes (tag ∷ tags) = tag.all_classes

-- a tag says the classes of its name, and those together with all around it
abbrev pub says_classes : OpenTag → List OpenTag → List ℕ → Bool
says_classes tag around name =
    (tag.classes == classes_of name)
    && (tag.all_classes == bit_or tag.classes (all_classes around))

-- each name begins where its tag says, and has the classes that it says
abbrev pub are_nested : List OpenTag → List ℕ → Bool
are_nested [] bytes = true
are_nested (tag ∷ tags) bytes =
    nat_le tag.start (length bytes) && says_classes tag tags (drop tag.start bytes)
    && are_nested tags (take tag.start bytes)

-- where the name at a place ends, counted from the innermost
abbrev pub end_at : List OpenTag → List ℕ → ℕ → ℕ
end_at tags bytes zero = length bytes
end_at [] bytes (suc place) = 0
end_at (tag ∷ tags) bytes (suc place) = end_at tags (take tag.start bytes) place
