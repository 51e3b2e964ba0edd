-- What a call that takes data of its own answers.
use Rattle.std.specs.Prelude.{◌≡◌, ℕ, List, length, Option, Vec, Result, Ok, Err, nat_lt, if◌then◌else◌}
use Rattle.std.specs.Option.{option_map}
use Rattle.std.specs.declared.alloc.Global.{Global}
use Rattle.tl_spec.specs.Lex.ByteClass.{largest_u32}
use Rattle.tl_bytes.specs.Held.{Kept, as_owned, owned_part}
use Rattle.tl_bytes.specs.declared.byte_string.into_owned.SetBytesError.{SetBytesError}
use Rattle.tl_bytes.specs.declared.byte_string.into_owned.SetBytesError.TheVariants.{LengthOverflow}

-- the bytes, owned, or the refusal of what is longer than 4294967295
abbrev pub set_or_refused : List ℕ → Result Kept SetBytesError
set_or_refused bytes =
    (if nat_lt largest_u32 (length bytes) then Err LengthOverflow else Ok (as_owned bytes))

-- the bytes of the value that was replaced come back exactly if they were owned
abbrev pub GivesBack : Kept → Option (Vec ℕ Global) → Type 0
GivesBack was back = option_map (λ vec. vec.items) back ≡ owned_part was.held was.list
