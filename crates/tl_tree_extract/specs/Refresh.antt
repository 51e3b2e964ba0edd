-- The URL that a `meta` refreshes to (4.2.5.3, "shared declarative refresh steps").
use Rattle.std.specs.Char.{eq_ignore_ascii_case, is_ascii_whitespace}
use Rattle.std.specs.Option.{option_and_then}
use Rattle.std.specs.Prelude.{Bool, List, None, Option, Some, [], false, true, if◌then◌else◌, length, not, ℕ, ◌==◌, ◌||◌, ◌∷◌}
use Rattle.tl_tree_extract.specs.Candidates.{Item}
use Rattle.tl_tree_extract.specs.Runs.{behind}
use Rattle.tl_tree_extract.specs.declared.run.Run.TheVariants.{Decimal, Digit, White}

-- a URL at the front of a rest: nothing is looked for behind it
abbrev pub only_item : List ℕ → List ℕ → Item
only_item rest url = record { rest = rest; url = url; next = [] }

abbrev pub is_quote : ℕ → Bool
is_quote b = b == 34 || b == 39

-- the bytes before a byte, or all of them
abbrev pub before : ℕ → List ℕ → List ℕ
before byte [] = []
before byte (b ∷ bytes) =
    elim (b == byte) as (λ _. List ℕ) [ true ↦ [] | false ↦ b ∷ before byte bytes ]

-- "skip quotes": up to the same quote, or all that is left
abbrev pub in_quotes : List ℕ → Item
in_quotes [] = only_item [] []
in_quotes (b ∷ bytes) =
    if is_quote b
    then only_item bytes (before b bytes)
    else only_item (b ∷ bytes) (b ∷ bytes)

-- what stands behind a byte, in any case
abbrev pub behind_byte : ℕ → List ℕ → Option (List ℕ)
behind_byte byte [] = None
behind_byte byte (b ∷ bytes) = if eq_ignore_ascii_case b byte then Some bytes else None

-- what stands behind `rl =`
abbrev pub behind_assignment : List ℕ → Option (List ℕ)
behind_assignment bytes =
    option_and_then (λ at. behind_byte 61 (behind White at))
    (option_and_then (behind_byte 108) (behind_byte 114 bytes))

-- `url =` is passed over where all of it stands there; of what begins as that does and isn't it,
-- all is the URL
abbrev pub assigned : List ℕ → Option (List ℕ) → Item
assigned whole None = only_item whole whole
assigned whole (Some at) = in_quotes (behind White at)

abbrev pub named : List ℕ → Option (List ℕ) → Item
named whole None = in_quotes whole
named whole (Some at) = assigned whole (behind_assignment at)

-- a URL, where anything is left
abbrev pub target : List ℕ → Option Item
target [] = None
target (b ∷ bytes) = Some (named (b ∷ bytes) (behind_byte 117 (b ∷ bytes)))

abbrev pub is_mark : ℕ → Bool
is_mark b = b == 59 || b == 44

-- one mark is passed over
abbrev pub behind_mark : List ℕ → List ℕ
behind_mark [] = []
behind_mark (b ∷ bytes) = if is_mark b then bytes else b ∷ bytes

-- a mark or white space stands between the time and the URL
abbrev pub separated : List ℕ → Option Item
separated [] = None
separated (b ∷ bytes) =
    if is_mark b || is_ascii_whitespace b
    then target (behind White (behind_mark (behind White (b ∷ bytes))))
    else None

abbrev pub begins_with_stop : List ℕ → Bool
begins_with_stop [] = false
begins_with_stop (b ∷ bytes) = b == 46

-- digits were passed over, or a full stop stands first
abbrev pub begins_with_time : List ℕ → List ℕ → Bool
begins_with_time bytes rest = begins_with_stop rest || not (length rest == length bytes)

-- a time stands first
abbrev pub next_refresh : List ℕ → Option Item
next_refresh value =
    let bytes = behind White value in
    let rest = behind Digit bytes in
    if begins_with_time bytes rest
    then separated (behind Decimal rest)
    else None
