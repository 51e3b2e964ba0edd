-- The source of elements: the bytes of the page that their tags enclose.
use Rattle.std.specs.Map.{update_all}
use Rattle.std.specs.Option.{option_and_then, option_map_or}
use Rattle.std.specs.Prelude.{List, None, Option, Some, [], flat_map, map, nat_eq, slice_range, ℕ, ◌++◌}
use Rattle.tl_patch_edit.specs.Stretches.{stretches}
use Rattle.tl_patch_edit.specs.declared.reach.Stretch.{Stretch}
use Rattle.tl_tree.specs.declared.source.Source.{Source}

-- where the last of these ends that begins at a place, if one does
abbrev pub end_from : List Stretch → ℕ → Option ℕ
end_from elements place =
    update_all nat_eq (λ _. None) (map (λ (s : Stretch). (s.start, s.end)) elements) place

-- what is written of an element that begins at a place: the bytes up to its end, by its end tags,
-- and what ends it; nothing where no element of these begins there
abbrev pub source_from : List ℕ → List ℕ → List Stretch → ℕ → List ℕ
source_from end page elements place =
    option_map_or (λ past. slice_range page place past ++ end) (end_from elements place) []

-- the same of a node; nothing where no tag stands for it
abbrev pub source_line :
    List ℕ → List ℕ → List Stretch → (ℕ → Option Source) → ℕ → List ℕ
source_line end page elements sources n =
    option_map_or (λ (source : Source). source_from end page elements source.start) (sources n) []

-- those of the nodes of these numbers, in order
abbrev pub source_lines : List ℕ → (ℕ → Option Source) → List ℕ → List ℕ → List ℕ
source_lines end sources page numbers =
    flat_map (source_line end page (stretches page) sources) numbers
