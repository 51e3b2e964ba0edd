-- The length of a run.
use Rattle.std.proofs.Common.{◌≡◌, ◌≤◌, ◌+◌, ℕ, Bool, true, false, cond, List, [], ◌∷◌, length, take, arith}
use Rattle.std.specs.List.{prefix_len}
use Rattle.std.proofs.lemmas.List.Folds.{length-prefix_len}

pub length_run : (p : ℕ → Bool) (s : List ℕ) → length (take (prefix_len p s) s) ≡ prefix_len p s
length_run p s = length-prefix_len p s

-- a run is no longer than the list
pub prefix_len_le : (p : ℕ → Bool) (s : List ℕ) → prefix_len p s ≤ length s
prefix_len_le p [] = omega arith
prefix_len_le p (x ∷ s) =
    let h : prefix_len p s ≤ length s = prefix_len_le p s in
    elim (p x) as (λ b. cond b (1 + prefix_len p s) 0 ≤ length (x ∷ s)) [ true ↦ omega arith | false ↦ omega arith ]
