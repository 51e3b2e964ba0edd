-- A text of words with commas between them, one word at a time.
use Rattle.std.proofs.Common.{◌≡◌, ◌≢◌, ℕ, List, [], ◌∷◌, false, None, Some, arith, get_or, lit<}
use Rattle.std.proofs.lemmas.Bool.Decides.{nat_tests}
use Rattle.std.proofs.lemmas.List.Elements.{All-from_get_or}
use Rattle.std.proofs.lemmas.List.Splits.{slice_split_first, slice_split_none}
use Rattle.std.proofs.lemmas.Str.Pattern.{IsSplitOnceResult, split_once_first, split_parts}
use Rattle.std.specs.Borrow.{Bor}
use Rattle.std.specs.List.{slice_split}
use Rattle.tl_tree_safe.specs.ListOptions.{is_comma}

no_comma : (b : ℕ) → b ≢ 44 → is_comma b ≡ false
no_comma b h = grind (arith, nat_tests)

-- a text that `split_once` cuts is a word and the words after it
pub cut_some : (bs : List ℕ) (parts : Bor (List ℕ) × Bor (List ℕ)) → IsSplitOnceResult 44 bs (Some parts) → slice_split is_comma bs ≡ parts.0.now ∷ slice_split is_comma parts.1.now
cut_some bs parts r =
    let h = split_once_first 44 bs (Some parts) r (lit< tt) in
    rw (h.1, h.2) (slice_split_first is_comma bs 0 h.0)

-- a text that it doesn't cut is one word
pub cut_none : (bs : List ℕ) → IsSplitOnceResult 44 bs None → slice_split is_comma bs ≡ bs ∷ []
cut_none bs r =
    let h = split_parts 44 bs None r (lit< tt) in
    slice_split_none is_comma bs (All-from_get_or (λ b. is_comma b ≡ false) bs 0 (λ i l. no_comma (get_or bs i 0) (h i l)))
