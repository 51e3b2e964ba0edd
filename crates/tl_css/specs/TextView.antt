-- What the values are that the reader holds.
use Rattle.std.specs.Prelude.{ℕ, List, [], ◌∷◌, encode_utf8, Option, Some, None, Result, Ok, Err, nat_eq, if◌then◌else◌}
use Rattle.std.specs.Char.{to_ascii_lowercase}
use Rattle.tl_css.specs.declared.error.Wrong.{Wrong}
use Rattle.tl_css.specs.declared.text.run.Part.{Part}
use Rattle.tl_css.specs.declared.text.run.Part.TheVariants.{Nothing, Byte, Char}
use Rattle.tl_css.specs.Read.{Read}
use denote.Ref.{Bor}

-- what a part stands for
abbrev pub part_bytes : Part → List ℕ
part_bytes Nothing = []
part_bytes (Byte b) = b ∷ []
part_bytes (Char c) = encode_utf8 c

-- what is left of a keyword after these bytes, in any case
abbrev pub without : List ℕ → List ℕ → Option (List ℕ)
without [] word = Some word
without (b ∷ bs) [] = None
without (b ∷ bs) (c ∷ word) = if nat_eq (to_ascii_lowercase b) c then without bs word else None

-- what a reader of the code answers
abbrev pub read_as : {A B : Type 0} → (A → B) → Result (A × Bor (List ℕ)) Wrong → Read B
read_as f (Ok p) = Ok (f p.0, p.1.now)
read_as f (Err e) = Err e

-- a value of the code, and what stands after it
abbrev pub rest_as : Result (Bor (List ℕ)) Wrong → Result (List ℕ) Wrong
rest_as (Ok s) = Ok s.now
rest_as (Err e) = Err e
