-- What a text of lines says, one line at a time.
use Rattle.std.proofs.Common.{◌≡◌, ◌≢◌, ℕ, List, [], ◌∷◌, ◌++◌, false, Option, None, Some, arith, get_or, lit<}
use Rattle.std.proofs.lemmas.Bool.Decides.{nat_tests}
use Rattle.std.proofs.lemmas.List.Elements.{All-from_get_or}
use Rattle.std.proofs.lemmas.List.Splits.{slice_split_first, slice_split_none}
use Rattle.std.proofs.lemmas.Str.Pattern.{IsSplitOnceResult, split_once_first, split_parts}
use Rattle.std.specs.Borrow.{Bor}
use Rattle.std.specs.List.{slice_split}
use Rattle.std.specs.Option.{option_map}
use Rattle.tl_spec.specs.Edit.{Change}
use Rattle.tl_spec.specs.Edit.StepLine.{is_line_feed}

-- these changes, and then those
abbrev pub after_changes : List Change → Option (List Change) → Option (List Change)
after_changes xs o = option_map (λ ys. xs ++ ys) o

not_feed : (b : ℕ) → b ≢ 10 → is_line_feed b ≡ false
not_feed b h = grind (arith, nat_tests)

-- a text that `split_once` cuts is a line and the lines after it
pub cut_some : (bs : List ℕ) (parts : Bor (List ℕ) × Bor (List ℕ)) → IsSplitOnceResult 10 bs (Some parts) → slice_split is_line_feed bs ≡ parts.0.now ∷ slice_split is_line_feed parts.1.now
cut_some bs parts r =
    let h = split_once_first 10 bs (Some parts) r (lit< tt) in
    rw (h.1, h.2) (slice_split_first is_line_feed bs 0 h.0)

-- a text that it doesn't cut is one line
pub cut_none : (bs : List ℕ) → IsSplitOnceResult 10 bs None → slice_split is_line_feed bs ≡ bs ∷ []
cut_none bs r =
    let h = split_parts 10 bs None r (lit< tt) in
    slice_split_none is_line_feed bs (All-from_get_or (λ b. is_line_feed b ≡ false) bs 0 (λ i l. not_feed (get_or bs i 0) (h i l)))
