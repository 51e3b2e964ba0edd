-- Parameters between marks.
use Rattle.std.proofs.Common.{All, Bool, List, ap, drop, false, get_or, length, sym, take, take-append-drop, true, ℕ, ◌+◌, ◌++◌, ◌<◌, ◌==◌, ◌∙◌, ◌∷◌, ◌≡◌, []}
use Rattle.std.specs.List.{slice_split}
use Rattle.std.proofs.lemmas.List.{drop_more}
use Rattle.std.proofs.lemmas.List.Splits.{slice_split_at, slice_split_none}
use Rattle.tl_values.specs.Parameters.{parameters_of}

abbrev pub is_mark : ℕ → Bool
is_mark b = b == 38

-- a parameter ends at the first mark
pub cut_at : (query : List ℕ) (i d : ℕ) → i < length query → is_mark (get_or query i d) ≡ true → All (λ x. is_mark x ≡ false) (take i query) →
    parameters_of query ≡ take i query ∷ parameters_of (drop (i + 1) query)
cut_at query i d lt e h =
    let b = get_or query i d in
    let parts : query ≡ take i query ++ b ∷ drop (i + 1) query =
    sym (take-append-drop i query) ∙ ap (λ zs. take i query ++ zs) (drop_more query i d lt) in
    ap (slice_split is_mark) parts ∙ slice_split_at is_mark (take i query) b (drop (i + 1) query) h e

pub uncut : (query : List ℕ) → All (λ x. is_mark x ≡ false) query → parameters_of query ≡ query ∷ []
uncut query h = slice_split_none is_mark query h
