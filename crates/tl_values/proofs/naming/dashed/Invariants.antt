use Rattle.std.proofs.Common.{flat_map, ◌++◌, ◌∷◌, ◌≡◌}
use Rattle.std.specs.Prelude.{if◌then◌else◌}
use Rattle.tl_tree.specs.Below.{words_of}
use Rattle.tl_values.specs.Naming.{dashed}
use Rattle.tl_values.proofs.naming.dashed.Given as goal

-- what was written, and then the words that are left, are all
abbrev pub invariant-loop-word : goal.invariant-loop-word
invariant-loop-word l =
    l.new.items ++ (if l.is_first then dashed l.word-iterator else flat_map (λ other. 45 ∷ other) l.word-iterator)
    ≡ dashed (words_of l.text)
