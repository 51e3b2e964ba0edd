-- What a caller in C finds after a call.
use Rattle.std.specs.Prelude.{◌≡◌, ◌≢◌, ℕ, Bool, List, ◌++◌, length, drop, nat_lt, if◌then◌else◌}
use Rattle.tl_page.specs.Outcome.{Outcome, not_understood, refused, status_of, success, written_of}

-- more items than there is room for
abbrev pub is_too_long : {X : Type 0} → List X → List X → Bool
is_too_long items room = nat_lt (length room) (length items)

-- the value of an outcome, or the one that stands for none
abbrev pub value_or : {X : Type 0} → X → Outcome X → X
value_or none (success value) = value
value_or none refused = none
value_or none not_understood = none

-- the status of an outcome: 4 where its items are more than there is room for, else its own
abbrev pub status_in : {X : Type 0} → List X → Outcome (List X) → ℕ
status_in room outcome = if is_too_long (written_of outcome) room then 4 else status_of outcome

-- room with items at its front, whose rest is as it was; so is all of it where they are too many
abbrev pub room_with : {X : Type 0} → List X → List X → List X
room_with items room =
    if is_too_long items room then room else items ++ drop (length items) room

-- An outcome is put into room (old, and new after the call), or memory ran out, which is 3. All
-- else is determined: what has no items leaves the room as it was.
pub record Puts {X : Type 0} (outcome : Outcome (List X)) (old new : List X)
    (needed status : ℕ) : Type 0 where
  pub answered : status ≢ 3 → status ≡ status_in old outcome
  pub counted : status ≢ 3 → needed ≡ length (written_of outcome)
  pub filled : status ≢ 3 → new ≡ room_with (written_of outcome) old
  pub unneeded : status ≡ 3 → needed ≡ 0
  pub untouched : status ≡ 3 → new ≡ old

-- A value is put, or the one that stands for none where there is none, which the status says; or
-- memory ran out, which is 3.
pub record PutsOne {X : Type 0} (outcome : Outcome X) (none new : X) (status : ℕ) : Type 0 where
  pub answered : status ≢ 3 → status ≡ status_of outcome
  pub filled : status ≢ 3 → new ≡ value_or none outcome
  pub unfilled : status ≡ 3 → new ≡ none
