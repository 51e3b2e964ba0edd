-- What holds of each row of a list, by its number, and of each two rows.
use Rattle.std.proofs.Common.{List, Some, [], arith, length, subst, suc, zero, ℕ, ◌+◌, ◌++◌, ◌<◌, ◌≡◌, ◌∷◌}
use Rattle.std.specs.Prelude.{slice_get, ⊤}
use Rattle.tl_tree.specs.Rows.{Row}

abbrev pub EachRow : (ℕ → Row → Type 0) → ℕ → List Row → Type 0
EachRow P n [] = ⊤
EachRow P n (row ∷ rows) = P n row × EachRow P (n + 1) rows

abbrev pub EachPair : (ℕ → Row → ℕ → Row → Type 0) → ℕ → List Row → Type 0
EachPair P n [] = ⊤
EachPair P n (row ∷ rows) = EachRow (P n row) (n + 1) rows × EachPair P (n + 1) rows

pub each-weaken : (P Q : ℕ → Row → Type 0) (n : ℕ) (rows : List Row) → ((i : ℕ) (row : Row) → P i row → Q i row) → EachRow P n rows → EachRow Q n rows
each-weaken P Q n [] w h = tt
each-weaken P Q n (row ∷ rows) w h = (w n row h.0, each-weaken P Q (n + 1) rows w h.1)

pub each-append : (P : ℕ → Row → Type 0) (n m : ℕ) (xs ys : List Row) → m ≡ n + length xs → EachRow P n xs → EachRow P m ys → EachRow P n (xs ++ ys)
each-append P n m [] ys e h k =
    let same : m ≡ n = omega (arith, e) in
    subst (λ v. EachRow P v ys) same k
each-append P n m (x ∷ xs) ys e h k =
    let same : m ≡ n + 1 + length xs = omega (arith, e) in
    (h.0, each-append P (n + 1) m xs ys same h.1 k)

pub pair-append : (P : ℕ → Row → ℕ → Row → Type 0) (n m : ℕ) (xs ys : List Row) → m ≡ n + length xs → EachPair P n xs → EachPair P m ys → EachRow (λ i row. EachRow (P i row) m ys) n xs → EachPair P n (xs ++ ys)
pair-append P n m [] ys e h k c =
    let same : m ≡ n = omega (arith, e) in
    subst (λ v. EachPair P v ys) same k
pair-append P n m (x ∷ xs) ys e h k c =
    let same : m ≡ n + 1 + length xs = omega (arith, e) in
    (each-append (P n x) (n + 1) m xs ys same h.0 c.0, pair-append P (n + 1) m xs ys same h.1 k c.1)

pub each-at : (P : ℕ → Row → Type 0) (n : ℕ) (rows : List Row) (i : ℕ) (row : Row) → EachRow P n rows → slice_get rows i ≡ Some row → P (n + i) row
each-at P n [] i row h e = absurd (let f : ⊥ = cc in f)
each-at P n (x ∷ rows) zero row h e =
    let same : x ≡ row = cc in
    let place : n ≡ n + 0 = omega arith in
    subst (λ v. P (n + 0) v) same (subst (λ v. P v x) place h.0)
each-at P n (x ∷ rows) (suc i) row h e =
    let place : n + 1 + i ≡ n + suc i = omega arith in
    subst (λ v. P v row) place (each-at P (n + 1) rows i row h.1 e)

pub pair-at : (P : ℕ → Row → ℕ → Row → Type 0) (n : ℕ) (rows : List Row) (i j : ℕ) (one other : Row) → EachPair P n rows → i < j → slice_get rows i ≡ Some one → slice_get rows j ≡ Some other → P (n + i) one (n + j) other
pair-at P n [] i j one other h l e f = absurd (let g : ⊥ = cc in g)
pair-at P n (x ∷ rows) i zero one other h l e f = absurd (let g : ⊥ = omega (arith, l) in g)
pair-at P n (x ∷ rows) zero (suc j) one other h l e f =
    let same : x ≡ one = cc in
    let first : n ≡ n + 0 = omega arith in
    let place : n + 1 + j ≡ n + suc j = omega arith in
    subst (λ v. P v one (n + suc j) other) first
    (subst (λ v. P n v (n + suc j) other) same
    (subst (λ v. P n x v other) place (each-at (P n x) (n + 1) rows j other h.0 f)))
pair-at P n (x ∷ rows) (suc i) (suc j) one other h l e f =
    let first : n + 1 + i ≡ n + suc i = omega arith in
    let place : n + 1 + j ≡ n + suc j = omega arith in
    let less : i < j = omega (arith, l) in
    subst (λ v. P v one (n + suc j) other) first
    (subst (λ v. P (n + 1 + i) one v other) place (pair-at P (n + 1) rows i j one other h.1 less e f))
