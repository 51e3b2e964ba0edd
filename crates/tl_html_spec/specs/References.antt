-- What character references give (13.2.5.73, .80).
use Rattle.std.specs.Prelude.{◌≡◌, ◌≤◌, ℕ, zero, suc, Bool, true, false, ◌||◌, ◌&&◌, not, ◌==◌, nat_lt, List, [], ◌∷◌, ◌++◌, length, drop, take_while, Option, Some, None, codes, encode_utf8, if◌then◌else◌}
use Rattle.std.specs.Char.{is_ascii_alphanumeric}
use Rattle.std.specs.List.{AllByRecursion, prefix_len, starts_with}
use Rattle.tl_names.specs.References.{table_of}

-- a row of a table: a name, and its characters
abbrev pub Row : Type 0
Row = List ℕ × List ℕ

abbrev pub not_equals : ℕ → Bool
not_equals b = not (b == 61)

abbrev pub not_zero : ℕ → Bool
not_zero b = not (b == 0)

-- at most n rows: each is a name, `=`, its characters and a byte 0
abbrev pub rows_within : ℕ → List ℕ → List Row
rows_within zero table = []
rows_within (suc n) [] = []
rows_within (suc n) (b ∷ table) =
    let value = drop (suc (prefix_len not_equals (b ∷ table))) (b ∷ table) in
    (take_while not_equals (b ∷ table), take_while not_zero value)
    ∷ rows_within n (drop (suc (prefix_len not_zero value)) value)

abbrev pub rows : List ℕ → List Row
rows table = rows_within (length table) table

-- the first row whose name the letters begin with: a row stands before those of the names that its
-- own name begins with
abbrev pub first_row : List Row → List ℕ → Option Row
first_row [] letters = None
first_row (row ∷ rows) letters =
    if starts_with ◌==◌ letters row.0 then Some row else first_row rows letters

-- the longest name that the letters begin with
abbrev pub named : List ℕ → Option Row
named [] = None
named (b ∷ letters) = first_row (rows (table_of b)) (b ∷ letters)

-- no name of these rows that the letters begin with is longer than that of the row
abbrev pub IsLongest : List Row → List ℕ → Row → Type 0
IsLongest rows letters row = AllByRecursion
    (λ (other : Row). starts_with ◌==◌ letters other.0 ≡ true → length other.0 ≤ length row.0) rows

abbrev pub ends_with_semicolon : List ℕ → Bool
ends_with_semicolon [] = false
ends_with_semicolon (b ∷ []) = b == 59
ends_with_semicolon (b ∷ c ∷ name) = ends_with_semicolon (c ∷ name)

-- a reference: what it gives, and how many bytes it takes after its `&`
pub record Reference : Type 0 where
  pub gives : List ℕ
  pub takes : ℕ

abbrev pub begins_with : (ℕ → Bool) → List ℕ → Bool
begins_with test [] = false
begins_with test (b ∷ s) = test b

-- `=`, a letter or a digit
abbrev pub goes_on : ℕ → Bool
goes_on b = (b == 61) || is_ascii_alphanumeric b

-- whether a name is no reference in a value: no `;` ends it, and such a byte stands after it
abbrev pub is_left : List ℕ → List ℕ → Bool
is_left name after = not (ends_with_semicolon name) && begins_with goes_on after

-- the reference of the longest name that stands after a `&`, in a value or a text
abbrev pub named_reference : Bool → List ℕ → Option Reference
named_reference in_value s =
    elim (named s) as (λ _. Option Reference) [
      | None ↦ None
      | Some row ↦
          if in_value && is_left row.0 (drop (length row.0) s) then None
          else Some (record { gives = row.1; takes = length row.0 })
    ]

-- what `&` and these bytes give: themselves, or what the reference gives and what it leaves of them
abbrev pub resolved : Option Reference → List ℕ → List ℕ
resolved None bytes = codes "&" ++ bytes
resolved (Some r) bytes = r.gives ++ drop r.takes bytes

-- what `&` and these letters and digits, which may end with `;`, give in a value or a text, where
-- this stands after them
abbrev pub named_value : Bool → List ℕ → List ℕ → List ℕ
named_value in_value letters after = resolved (named_reference in_value (letters ++ after)) letters

-- the numbers from 0x80 to 0x9F that stand for other characters
abbrev pub windows_1252 : ℕ → ℕ
windows_1252 code =
    if code == 0x80 then 0x20AC
    else if code == 0x82 then 0x201A
    else if code == 0x83 then 0x0192
    else if code == 0x84 then 0x201E
    else if code == 0x85 then 0x2026
    else if code == 0x86 then 0x2020
    else if code == 0x87 then 0x2021
    else if code == 0x88 then 0x02C6
    else if code == 0x89 then 0x2030
    else if code == 0x8A then 0x0160
    else if code == 0x8B then 0x2039
    else if code == 0x8C then 0x0152
    else if code == 0x8E then 0x017D
    else if code == 0x91 then 0x2018
    else if code == 0x92 then 0x2019
    else if code == 0x93 then 0x201C
    else if code == 0x94 then 0x201D
    else if code == 0x95 then 0x2022
    else if code == 0x96 then 0x2013
    else if code == 0x97 then 0x2014
    else if code == 0x98 then 0x02DC
    else if code == 0x99 then 0x2122
    else if code == 0x9A then 0x0161
    else if code == 0x9B then 0x203A
    else if code == 0x9C then 0x0153
    else if code == 0x9E then 0x017E
    else if code == 0x9F then 0x0178
    else code

-- surrogates, numbers past the last character, and 0 stand for U+FFFD
abbrev pub is_no_character : ℕ → Bool
is_no_character code =
    (code == 0) || nat_lt 0x10FFFF code || (nat_lt 0xD7FF code && nat_lt code 0xE000)

-- what the reference of a number gives
abbrev pub number_value : ℕ → List ℕ
number_value code =
    if is_no_character code then encode_utf8 0xFFFD else encode_utf8 (windows_1252 code)
