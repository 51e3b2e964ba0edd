use Rattle.std.proofs.Common.{drop, map, ◌≡◌}
use Rattle.std.specs.Char.{to_ascii_lowercase}
use Rattle.tl_dom_spec.specs.Quirks.{begins_with_one}
use Rattle.tl_names.specs.Elements.{words_of}
use Rattle.tl_tree.proofs.quirks.begins_with_one.Given as goal

abbrev pub invariant-loop-beginning : goal.invariant-loop-beginning
invariant-loop-beginning l =
    begins_with_one (words_of l.beginnings) (map to_ascii_lowercase l.id) ≡ begins_with_one (words_of (drop l.beginning-index l.beginnings)) (map to_ascii_lowercase l.id)
