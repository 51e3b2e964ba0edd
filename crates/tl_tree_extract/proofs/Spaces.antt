-- Spaces before a line.
use Rattle.std.proofs.Common.{List, ap, arith, codes, refl, replicate, suc, sym, take, zero, ℕ, ◌*◌, ◌++◌, ◌∙◌, ◌≡◌, ◌≤◌, ◌∷◌}
use Rattle.tl_tree_extract.specs.Outline.{indentation}

abbrev spaces : ℕ → List ℕ
spaces n = replicate n 32

behind : (n : ℕ) → spaces n ++ codes "  " ≡ 32 ∷ 32 ∷ spaces n
behind zero = refl
behind (suc n) = ap (λ (l : List ℕ). 32 ∷ l) (behind n)

as_spaces : (n : ℕ) → indentation n ≡ spaces (2 * n)
as_spaces zero = refl
as_spaces (suc n) =
    let twice : suc (suc (2 * n)) ≡ 2 * suc n = omega arith in
    ap (λ l. l ++ codes "  ") (as_spaces n) ∙ behind (2 * n) ∙ ap spaces twice

front : (k n : ℕ) → k ≤ n → take k (spaces n) ≡ spaces k
front zero n h = refl
front (suc k) zero h = absurd (omega arith)
front (suc k) (suc n) h = ap (λ (l : List ℕ). 32 ∷ l) (front k n (omega arith))

pub indented : (n : ℕ) → n ≤ 255 → take (2 * n) (spaces 510) ≡ indentation n
indented n h = front (2 * n) 510 (omega arith) ∙ sym (as_spaces n)
