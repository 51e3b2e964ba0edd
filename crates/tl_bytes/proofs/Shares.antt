-- Parts of a text, cut again.
use Rattle.std.proofs.Common.{◌≡◌, ℕ, ◌+◌, ◌-◌, ◌≤◌, List, length, take, drop, slice_range, ap, ◌∙◌, sym, arith, length-take-le, length-drop}
use Rattle.std.proofs.lemmas.List.{drop-take, drop-drop, take-take}

-- how long a part is
pub part_len : (xs : List ℕ) (s e : ℕ) → s ≤ e → e ≤ length xs → length (slice_range xs s e) ≡ e - s
part_len xs s e p q = length-take-le (e - s) (drop s xs) (omega (arith, length-drop s xs))

-- a part of a part is a part of the whole
pub part_of_part : (xs : List ℕ) (s e a b : ℕ) → a ≤ b → s + b ≤ e → slice_range xs (s + a) (s + b) ≡ slice_range (slice_range xs s e) a b
part_of_part xs s e a b p q =
    let left = e - (s + a) in
    let same : e - s ≡ a + left = omega arith in
    let len : b - a ≡ s + b - (s + a) = omega arith in
    sym (ap (λ n. take (b - a) (drop a (take n (drop s xs)))) same
    ∙ ap (take (b - a)) (drop-take a left (drop s xs))
    ∙ take-take (b - a) left (drop a (drop s xs)) (omega arith)
    ∙ ap (take (b - a)) (drop-drop a s xs)
    ∙ ap (λ n. take n (drop (s + a) xs)) len)
