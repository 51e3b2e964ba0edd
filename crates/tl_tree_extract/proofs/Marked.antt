-- Comments of ranges of rows, and marks of rows that are listed.
use Rattle.std.proofs.Common.{Bool, List, [], ap, append-nil, arith, false, get_or, length, refl, suc, sym, zero, ℕ, ◌+◌, ◌++◌, ◌<◌, ◌∙◌, ◌≡◌, ◌≤◌, ◌∷◌}
use Rattle.std.proofs.lemmas.Grind.{common_steps}
use Rattle.std.proofs.lemmas.List.{ext_get_or}
use Rattle.tl_tree.specs.Rows.{Row}
use Rattle.tl_tree_extract.specs.Marks.{comments_between, is_listed, marks_of}

-- none before the first
pub none_between : (rows : List Row) (first n : ℕ) → n ≤ first → comments_between rows first n ≡ []
none_between rows first zero within = refl
none_between rows first (suc n) within = grind (arith, common_steps, none_between rows first n (omega (arith, within)))

-- a mark for each of so many nodes, which says whether its number is listed
pub record AreMarks (numbers : List ℕ) (count : ℕ) (marks : List Bool) : Type 0 where
  pub length_is : length marks ≡ count
  pub listed : (n : ℕ) → n < count → get_or marks n false ≡ is_listed numbers n

as_many : (numbers : List ℕ) (count : ℕ) → length (marks_of numbers count) ≡ count
as_many numbers zero = refl
as_many numbers (suc n) = grind (arith, common_steps, as_many numbers n)

each_is : (numbers : List ℕ) (count n : ℕ) → n < count → get_or (marks_of numbers count) n false ≡ is_listed numbers n
each_is numbers zero n within = absurd (omega (arith, within))
each_is numbers (suc count) n within = grind (arith, common_steps, each_is numbers count, as_many numbers count)

pub marks_are : (numbers : List ℕ) (count : ℕ) (marks : List Bool) → AreMarks numbers count marks → marks ≡ marks_of numbers count
marks_are numbers count marks known =
    ext_get_or false marks (marks_of numbers count) (known.length_is ∙ sym (as_many numbers count))
    (λ n within. let below : n < count = omega (arith, within, known.length_is) in known.listed n below ∙ sym (each_is numbers count n below))
