-- Texts that stay as they are.
use Rattle.std.proofs.Common.{Bool, List, ap, not, true, ℕ, ◌&&◌, ◌∙◌, ◌≡◌}
use Rattle.std.proofs.lemmas.Bool.{and_parts}
use Rattle.std.specs.List.{list_all}
use Rattle.std.specs.Prelude.{◌==◌}
use Rattle.tl_tree_safe.proofs.Filters.{all_also, filter_same}
use Rattle.tl_tree_safe.proofs.Whole.{whole_stays}
use Rattle.tl_tree_safe.specs.Inner.Cleaning.{is_whole}
use Rattle.tl_tree_safe.specs.Inner.Walk.{said_where}
use Rattle.tl_tree_spec.specs.Stays.{may_be_read}
use Rattle.std.specs.List.{filter}

pub whole_there : (in_flow : Bool) (s : List ℕ) → list_all is_whole s ≡ true → list_all (may_be_read in_flow) s ≡ true → said_where in_flow s ≡ s
whole_there in_flow s whole read = ap (filter (may_be_read in_flow)) (whole_stays s whole) ∙ filter_same (may_be_read in_flow) s read

-- what holds no byte that goes may stand where the rules are those of "in body"
pub whole_in_flow : (s : List ℕ) → list_all is_whole s ≡ true → list_all (may_be_read true) s ≡ true
whole_in_flow s whole =
    all_also is_whole (may_be_read true) s
    (λ b h. (and_parts (not (b == 0)) (not (b == 13)) (and_parts (not (b == 0) && not (b == 13)) (not (b == 27)) h).0).0)
    whole
