-- Numbers of nodes: of those that are comments, and marks of those that are listed.
use Rattle.std.specs.List.{list_any}
use Rattle.std.specs.Prelude.{Bool, List, [], false, if◌then◌else◌, length, nat_le, suc, true, zero, ℕ, ◌&&◌, ◌+◌, ◌++◌, ◌==◌, ◌∷◌}
use Rattle.tl_tree.specs.Asked.{end_or}
use Rattle.tl_tree.specs.Below.{has_kind}
use Rattle.tl_tree.specs.Rows.{Row}
use Rattle.tl_tree.specs.declared.kind.Kind as kind
use Rattle.tl_tree.specs.declared.kind.Kind.TheVariants.{Comment}

abbrev pub is_comment_kind : kind.Kind → Bool
is_comment_kind Comment = true
is_comment_kind _ = false

abbrev pub is_comment : List Row → ℕ → Bool
is_comment = has_kind is_comment_kind

-- those of the rows from one on up to another
abbrev pub comments_between : List Row → ℕ → ℕ → List ℕ
comments_between rows first zero = []
comments_between rows first (suc n) =
    comments_between rows first n
    ++ (if nat_le first n && is_comment rows n then n ∷ [] else [])

abbrev pub comments_of : List Row → List ℕ
comments_of rows = comments_between rows 0 (length rows)

-- those below a row, also in contents of templates
abbrev pub comments_below : List Row → ℕ → List ℕ
comments_below rows number = comments_between rows (number + 1) (end_or rows number 0)

abbrev pub is_listed : List ℕ → ℕ → Bool
is_listed numbers n = list_any (λ number. number == n) numbers

-- a mark for each of so many nodes: whether its number is listed
abbrev pub marks_of : List ℕ → ℕ → List Bool
marks_of numbers zero = []
marks_of numbers (suc n) = marks_of numbers n ++ is_listed numbers n ∷ []
