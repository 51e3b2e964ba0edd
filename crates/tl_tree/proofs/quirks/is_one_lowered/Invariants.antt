use Rattle.std.proofs.Common.{drop, map, ◌≡◌}
use Rattle.std.specs.Char.{to_ascii_lowercase}
use Rattle.std.specs.List.{list_any}
use Rattle.std.specs.Str.{bytes_eq}
use Rattle.tl_names.specs.Elements.{words_of}
use Rattle.tl_tree.proofs.quirks.is_one_lowered.Given as goal

abbrev pub invariant-loop-word : goal.invariant-loop-word
invariant-loop-word l =
    list_any (bytes_eq (map to_ascii_lowercase l.id)) (words_of l.words) ≡ list_any (bytes_eq (map to_ascii_lowercase l.id)) (words_of (drop l.word-index l.words))
