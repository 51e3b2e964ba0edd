-- Which counts are terms of a formula.
use Rattle.std.proofs.Common.{◌≡◌, ◌↔◌, ◌+◌, ◌*◌, ◌/◌, ◌%◌, ◌+ℤ◌, ◌*ℤ◌, ℕ, zero, suc, ℤ, pos, negsuc, neg_ℤ, sym, ap, ◌∙◌, arith, refl}
use Rattle.std.specs.Int.RustNames.{unsigned_abs}
use Rattle.std.proofs.lemmas.Int.{ints}
use Rattle.std.proofs.lemmas.Nat.{mod-mul-add, div-add-mod'}
use Rattle.tl_tree_select.specs.Inner.Terms.{IsDistance, is_natural}

-- a number of steps makes a count
abbrev pub IsReached : ℤ → ℤ → ℕ → Type 0
IsReached a b count = (k : ℕ) × (pos count ≡ (a *ℤ pos k) +ℤ b)

pub above_same : (x y count : ℕ) (b : ℤ) → pos count ≡ pos x +ℤ b → pos count ≡ pos y +ℤ b → x ≡ y
above_same x y count b h k = omega (arith, ints)

below_same : (x y count : ℕ) (b : ℤ) → b ≡ pos count +ℤ pos x → pos count ≡ neg_ℤ (pos y) +ℤ b → x ≡ y
below_same x y count b h k = omega (arith, ints)

below_is : (y count : ℕ) (b : ℤ) → pos count ≡ neg_ℤ (pos y) +ℤ b → b ≡ pos count +ℤ pos y
below_is y count b k = omega (arith, ints)

is_below : (y count : ℕ) (b : ℤ) → b ≡ pos count +ℤ pos y → pos count ≡ neg_ℤ (pos y) +ℤ b
is_below y count b k = omega (arith, ints)

turned : (s k : ℕ) → s * k ≡ k * s
turned s k = grind arith

multiple : (d s k : ℕ) → d ≡ suc s * k → d % suc s ≡ 0
multiple d s k e =
    let same : d ≡ k * suc s + 0 = e ∙ turned (suc s) k ∙ omega arith in
    ap (λ x. x % suc s) same ∙ mod-mul-add k (suc s) 0 (omega arith)

whole : (d s : ℕ) → d % suc s ≡ 0 → suc s * (d / suc s) ≡ d
whole d s z = let all = div-add-mod' d (suc s) in turned (suc s) (d / suc s) ∙ omega (arith, all, z)

pub term_is : (a b : ℤ) (count d : ℕ) → IsDistance (is_natural a) count b d → (unsigned_abs a ≡ 0 → ⊥) → IsReached a b count ↔ (d % unsigned_abs a ≡ 0)
term_is (pos zero) b count d h ne = absurd (ne refl)
term_is (pos (suc s)) b count d h ne = (
  λ t. multiple d s t.0 (above_same d (suc s * t.0) count b h t.1),
  λ z. (d / suc s, h ∙ ap (λ x. pos x +ℤ b) (sym (whole d s z))),
)
term_is (negsuc s) b count d h ne = (
  λ t. multiple d s t.0 (below_same d (suc s * t.0) count b h t.1),
  λ z. (d / suc s, is_below (suc s * (d / suc s)) count b (h ∙ ap (λ x. pos count +ℤ pos x) (sym (whole d s z)))),
)

pub term_isnt : (a b : ℤ) (count : ℕ) → ((d : ℕ) → IsDistance (is_natural a) count b d → ⊥) → IsReached a b count → ⊥
term_isnt (pos s) b count none t = none (s * t.0) t.1
term_isnt (negsuc s) b count none t = none (suc s * t.0) (below_is (suc s * t.0) count b t.1)
