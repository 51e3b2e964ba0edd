-- Rows of a table, one by one.
use Rattle.std.proofs.Common.{slice_index_or, ◌≡◌, ℕ, zero, suc, ◌+◌, ◌-◌, ◌<◌, ◌≤◌, Bool, true, false, ◌==◌, ◌&&◌, List, [], ◌∷◌, ◌++◌, length, length-drop, take, drop, Option, Some, None, codes, refl, ap, ap₂, sym, ◌∙◌, arith, true≢false, le_refl, if◌then◌else◌}
use Rattle.std.specs.List.{prefix_len, starts_with, take_while}
use Rattle.std.proofs.lemmas.Bool.{and_parts, eqb-true}
use Rattle.tl_html_spec.specs.References.{Row, ends_with_semicolon, first_row, named, not_equals, not_zero, rows, rows_within}

abbrev pub value_in : List ℕ → List ℕ
value_in t = drop (suc (prefix_len not_equals t)) t

abbrev pub later_in : List ℕ → List ℕ
later_in t = drop (suc (prefix_len not_zero (value_in t))) (value_in t)

abbrev pub row_in : List ℕ → Row
row_in t = (take_while not_equals t, take_while not_zero (value_in t))

-- what is left of a table is shorter
pub shorter : (b : ℕ) (t : List ℕ) → length (later_in (b ∷ t)) ≤ length t
shorter b t =
    let x = length-drop (suc (prefix_len not_zero (value_in (b ∷ t)))) (value_in (b ∷ t)) in
    let y = length-drop (suc (prefix_len not_equals (b ∷ t))) (b ∷ t) in
    omega arith

rows_any : (n m : ℕ) (t : List ℕ) → length t ≤ n → length t ≤ m → rows_within n t ≡ rows_within m t
rows_any zero zero t h k = refl
rows_any zero (suc m) [] h k = refl
rows_any zero (suc m) (b ∷ t) h k = absurd (omega arith)
rows_any (suc n) zero [] h k = refl
rows_any (suc n) zero (b ∷ t) h k = absurd (omega arith)
rows_any (suc n) (suc m) [] h k = refl
rows_any (suc n) (suc m) (b ∷ t) h k =
    let less = shorter b t in
    ap (λ (rs : List Row). row_in (b ∷ t) ∷ rs) (rows_any n m (later_in (b ∷ t)) (omega arith) (omega arith))

pub rows-step : (b : ℕ) (t : List ℕ) → rows (b ∷ t) ≡ row_in (b ∷ t) ∷ rows (later_in (b ∷ t))
rows-step b t =
    let less = shorter b t in
    ap (λ (rs : List Row). row_in (b ∷ t) ∷ rs) (rows_any (length t) (length (later_in (b ∷ t))) (later_in (b ∷ t)) less (le_refl (length (later_in (b ∷ t)))))

pub row_here : (t s : List ℕ) → 0 < length t → starts_with ◌==◌ s (row_in t).0 ≡ true → first_row (rows t) s ≡ Some (row_in t)
row_here [] s h e = absurd (omega arith)
row_here (b ∷ t) s h e =
    ap (λ (rs : List Row). first_row rs s) (rows-step b t)
    ∙ ap (λ (x : Bool). if x then Some (row_in (b ∷ t)) else first_row (rows (later_in (b ∷ t))) s) e

pub row_later : (t s : List ℕ) → starts_with ◌==◌ s (row_in t).0 ≡ false → first_row (rows t) s ≡ first_row (rows (later_in t)) s
row_later [] s e = refl
row_later (b ∷ t) s e =
    ap (λ (rs : List Row). first_row rs s) (rows-step b t)
    ∙ ap (λ (x : Bool). if x then Some (row_in (b ∷ t)) else first_row (rows (later_in (b ∷ t))) s) e

-- bytes that begin with others
pub begins : (p s : List ℕ) → starts_with ◌==◌ s p ≡ true → s ≡ p ++ drop (length p) s
begins [] s e = refl
begins (a ∷ p) [] e = absurd (true≢false (sym e))
begins (a ∷ p) (b ∷ s) e =
    let parts = and_parts (a == b) (starts_with ◌==◌ s p) e in
    ap₂ (λ x (xs : List ℕ). x ∷ xs) (sym (eqb-true a b parts.0)) (begins p s parts.1)

-- the commonest names
pub amp : (s : List ℕ) → starts_with ◌==◌ s (codes "amp;") ≡ true → named s ≡ Some (codes "amp;", codes "&")
amp s e = ap named (begins (codes "amp;") s e)

pub lt : (s : List ℕ) → starts_with ◌==◌ s (codes "lt;") ≡ true → named s ≡ Some (codes "lt;", codes "<")
lt s e = ap named (begins (codes "lt;") s e)

pub gt : (s : List ℕ) → starts_with ◌==◌ s (codes "gt;") ≡ true → named s ≡ Some (codes "gt;", codes ">")
gt s e = ap named (begins (codes "gt;") s e)

pub quot : (s : List ℕ) → starts_with ◌==◌ s (codes "quot;") ≡ true → named s ≡ Some (codes "quot;", codes "\"")
quot s e = ap named (begins (codes "quot;") s e)

pub nbsp : (s : List ℕ) → starts_with ◌==◌ s (codes "nbsp;") ≡ true → named s ≡ Some (codes "nbsp;", 0xC2 ∷ 0xA0 ∷ [])
nbsp s e = ap named (begins (codes "nbsp;") s e)

-- the last byte of a name

step_down : (n : ℕ) → suc (suc n) - 1 ≡ suc (suc n - 1)
step_down n = omega arith

pub last_is : (n : List ℕ) → 0 < length n → (slice_index_or n (length n - 1) 0 == 59) ≡ ends_with_semicolon n
last_is [] h = absurd (omega arith)
last_is (b ∷ []) h = refl
last_is (b ∷ c ∷ n) h =
    ap (λ k. slice_index_or (b ∷ c ∷ n) k 0 == 59) (step_down (length n))
    ∙ last_is (c ∷ n) (omega arith)
