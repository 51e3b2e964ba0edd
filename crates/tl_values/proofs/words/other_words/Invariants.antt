use Rattle.std.proofs.Common.{List, ◌++◌, ◌∷◌, ◌≡◌, ℕ}
use Rattle.std.specs.Prelude.{filter, flat_map, if◌then◌else◌}
use Rattle.tl_tree.specs.Below.{words_of}
use Rattle.tl_values.specs.Words.{is_other, spaced}
use Rattle.tl_values.proofs.words.other_words.Given as goal

-- what was written, and then the words that are left, are all
abbrev pub invariant-loop-own : goal.invariant-loop-own
invariant-loop-own l =
    let left : List (List ℕ) = filter (is_other l.word) l.own-iterator in
    l.new.items ++ (if l.is_first then spaced left else flat_map (λ other. 32 ∷ other) left)
    ≡ spaced (filter (is_other l.word) (words_of l.value))
