-- Runs of bytes of one class, which the standard collects or skips.
use Rattle.std.specs.Char.{is_ascii_digit, is_ascii_whitespace}
use Rattle.std.specs.Prelude.{Bool, List, [], false, nat_lt, not, true, zero, suc, ℕ, ◌==◌, ◌||◌, ◌∷◌, get_or}
use Rattle.tl_tree_extract.specs.declared.run.Run.{Run}
use Rattle.tl_tree_extract.specs.declared.run.Run.TheVariants as run

-- ASCII white space; white space and commas; what is no white space; digits; digits and full stops;
-- controls of C0 and spaces, which stand around a URL; commas
abbrev pub is_in : Run → ℕ → Bool
is_in run.White b = is_ascii_whitespace b
is_in run.Separator b = is_ascii_whitespace b || b == 44
is_in run.Word b = not (is_ascii_whitespace b)
is_in run.Digit b = is_ascii_digit b
is_in run.Decimal b = is_ascii_digit b || b == 46
is_in run.Edge b = nat_lt b 33
is_in run.Comma b = b == 44

-- what stands behind the bytes of the class at the beginning
abbrev pub behind : Run → List ℕ → List ℕ
behind run [] = []
behind run (b ∷ bytes) =
    elim (is_in run b) as (λ _. List ℕ) [ true ↦ behind run bytes | false ↦ b ∷ bytes ]

-- how many of the first n bytes are left without those of the class at their end
abbrev pub length_without : Run → List ℕ → ℕ → ℕ
length_without run bytes zero = 0
length_without run bytes (suc n) =
    elim (is_in run (get_or bytes n 0)) as (λ _. ℕ) [
      | true ↦ length_without run bytes n
      | false ↦ suc n
    ]
