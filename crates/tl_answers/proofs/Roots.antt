-- The element that stands in other other.
use Rattle.std.proofs.Common.{List, add-one, subst, sym, ◌+◌, Some, None, false, length, refl, suc, true, zero, ℕ, ◌-◌, ◌<◌, ◌≡◌, arith}
use Rattle.tl_answers.specs.Document.{document_element, is_root, root_from}
use Rattle.tl_tree.specs.Rows.{Row}

next_by : (rows : List Row) (most left n : ℕ) → left ≡ suc most → is_root rows n ≡ false → root_from rows left n ≡ root_from rows most (suc n)
next_by rows most left n e other = rw (e, other, root_from) refl

found_by : (rows : List Row) (most left n : ℕ) → left ≡ suc most → is_root rows n ≡ true → root_from rows left n ≡ Some n
found_by rows most left n e root = rw (e, root, root_from) refl

-- a row that is none is gone past
pub root_next : (rows : List Row) (n : ℕ) → n < length rows → is_root rows n ≡ false
    → root_from rows (length rows - n) n ≡ root_from rows (length rows - (n + 1)) (n + 1)
root_next rows n within other =
    subst (λ (m : ℕ). root_from rows (length rows - n) n ≡ root_from rows (length rows - m) m) (sym (add-one n))
    (next_by rows (length rows - suc n) (length rows - n) n (omega (arith, within)) other)

pub root_found : (rows : List Row) (n : ℕ) → n < length rows → is_root rows n ≡ true → root_from rows (length rows - n) n ≡ Some n
root_found rows n within root = found_by rows (length rows - suc n) (length rows - n) n (omega (arith, within)) root

none_by : (rows : List Row) (left n : ℕ) → left ≡ 0 → root_from rows left n ≡ None
none_by rows left n e = rw (e, root_from) refl

pub root_none : (rows : List Row) (n : ℕ) → length rows ≡ n → root_from rows (length rows - n) n ≡ None
root_none rows n e = none_by rows (length rows - n) n (omega (arith, e))
