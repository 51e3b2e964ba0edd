-- Facts of the run before the first place of a class.
use Rattle.std.proofs.Common.{◌≡◌, ℕ, ◌+◌, Bool, true, false, cond, not, ◌||◌, List, [], ◌∷◌, length, Some, None, unwrap_or, refl, ap, ap₂, ◌∙◌, arith, inl, inr}
use Rattle.std.specs.Prelude.{◌==◌}
use Rattle.std.specs.List.{prefix_len, position_or_len}
use Rattle.std.proofs.lemmas.Bool.{cases_lt, lt-ltb, le-ltb, cond-true, cond-false}
use Rattle.std.proofs.lemmas.List.Sums.{prefix_len-le-length}
use Rattle.tl_spec.specs.Lex.ByteClass.{ends_value}
use Rattle.tl_bytes.specs.Search.{first, is_one_of}

-- two tests that agree have the same run
pub prefix_len-same : (p q : ℕ → Bool) → ((b : ℕ) → p b ≡ q b) → (s : List ℕ) → prefix_len p s ≡ prefix_len q s
prefix_len-same p q same [] = refl
prefix_len-same p q same (b ∷ s) = ap₂ (λ t n. cond t (1 + n) 0) (same b) (prefix_len-same p q same s)

-- the first place that fails a test, or the length, is the length of the run that passes it
pub first_or_length : (p : ℕ → Bool) (s : List ℕ) → unwrap_or (first p s) (length s) ≡ prefix_len (λ b. not (p b)) s
first_or_length p s =
    let n = position_or_len p s in
    let within = prefix_len-le-length (λ b. not (p b)) s in
    elim (cases_lt n (length s)) [
      | inl inside ↦ ap (λ r. unwrap_or r (length s)) (cond-true _ (Some n) None (lt-ltb n (length s) inside))
      | inr past ↦ ap (λ r. unwrap_or r (length s)) (cond-false _ (Some n) None (le-ltb n (length s) past)) ∙ omega arith
    ]

regroup : (a b c d : Bool) → (a || (b || (c || (d || false)))) ≡ ((a || b) || (c || d))
regroup true b c d = refl
regroup false true c d = refl
regroup false false true d = refl
regroup false false false true = refl
regroup false false false false = refl

-- the four bytes that end a value
pub ends_value_is : (b : ℕ) → is_one_of (0x20 ∷ 0x0A ∷ 0x2F ∷ 0x3E ∷ []) b ≡ ends_value b
ends_value_is b = regroup (b == 0x20) (b == 0x0A) (b == 0x2F) (b == 0x3E)
