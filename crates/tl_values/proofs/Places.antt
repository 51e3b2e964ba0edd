-- Where a text occurs in a value.
use Rattle.std.proofs.Common.{List, arith, length, zero, suc, ℕ, ◌+◌, ◌-◌, ◌≤◌, ◌∷◌}
use Rattle.std.proofs.lemmas.Bool.{cond_both}
use Rattle.memchr.proofs.lemmas.MatchLemmas.{OccursAt-true}
use Rattle.memchr.specs.Find.{match_len, matches_from, occurs_at}
use Rattle.tl_values.specs.Inner.Places.{AreInTurn}

-- the places at which a text occurs are in turn
pub in-turn : (value sought : List ℕ) (skip at count from : ℕ) →
    from ≤ at + skip → from ≤ length value →
    AreInTurn (length sought) value from (matches_from value sought skip at count)
unfolding matches_from
in-turn value sought skip at zero from near within = within
in-turn value sought (suc skip) at (suc count) from near within =
    in-turn value sought skip (at + 1) count from (omega (arith, near)) within
in-turn value sought zero at (suc count) from near within =
    cond_both (occurs_at value sought at) (at ∷ matches_from value sought (match_len sought - 1) (at + 1) count) (matches_from value sought 0 (at + 1) count) (AreInTurn (length sought) value from)
    (λ here.
    let room = (OccursAt-true value sought at here).fits in
    (omega (arith, near), room, in-turn value sought (match_len sought - 1) (at + 1) count (at + length sought) (omega arith) room))
    (λ _. in-turn value sought 0 (at + 1) count from (omega (arith, near)) within)
