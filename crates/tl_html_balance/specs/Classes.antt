-- The classes of names: the rows of the code, and what a rule asks of a name by them.
use Rattle.std.specs.Prelude.{ℕ, zero, suc, ◌-◌, Bool, not, bit_and, ◌==◌, List, [], ◌∷◌, ◌++◌, map, if◌then◌else◌}
use Rattle.std.specs.Borrow.{Bor}
use Rattle.std.specs.Char.{is_ascii_lowercase}
use Rattle.std.specs.Str.{bytes_eq}
use Rattle.tl_html_balance.specs.declared.known.TheConstants.{ROWS}

-- a name and its classes
abbrev pub Row : Type 0
Row = List ℕ × ℕ

abbrev pub plain : List (Bor (List ℕ) × ℕ) → List Row
plain rows = map (λ row. (row.0.now, row.1)) rows

-- the rows of each letter from `a` on
abbrev pub groups : List (List Row)
groups = map (λ rows. map (λ row. (row.0.now, row.1)) rows.now) ROWS

abbrev pub group_at : List (List Row) → ℕ → List Row
group_at [] i = []
group_at (rows ∷ more) zero = rows
group_at (rows ∷ more) (suc i) = group_at more i

unfoldable pub rows_at : ℕ → List Row
rows_at letter = if is_ascii_lowercase letter then group_at groups (letter - 97) else []

abbrev pub joined : List (List Row) → List Row
joined [] = []
joined (rows ∷ more) = rows ++ joined more

-- the classes of a name among rows
abbrev pub classes_in : List Row → List ℕ → ℕ
classes_in [] name = 0
classes_in (row ∷ rows) name = if bytes_eq name row.0 then row.1 else classes_in rows name

unfoldable pub classes_of : List ℕ → ℕ
classes_of name = classes_in (joined groups) name

-- whether one of these classes is among those
abbrev pub has : ℕ → ℕ → Bool
has wanted classes = not (bit_and classes wanted == 0)

-- whether a name has one of these classes
unfoldable pub is : ℕ → List ℕ → Bool
is wanted name = has wanted (classes_of name)
