-- The parts of a doctype (13.2.5.53 to .68), which the tokenizer reads as one state without parts.
use Rattle.std.specs.Char.{to_ascii_lowercase}
use Rattle.std.specs.List.{starts_with}
use Rattle.std.specs.Prelude.{Bool, List, None, Option, Some, [], codes, false, if◌then◌else◌, not, true, ℕ, ◌&&◌, ◌++◌, ◌==◌, ◌||◌, ◌∷◌}
use Rattle.std.specs.Str.{bytes_eq}
use Rattle.tl_html_spec.specs.HtmlTokenizer.{char_of, is_white_space}

pub record Doctype : Type 0 where
  pub name : List ℕ
  pub public_id : Option (List ℕ)
  pub system_id : Option (List ℕ)
  pub forces_quirks : Bool

-- the states, two of which are one where they do the same
pub data Part : Type 0 where
  -- 13.2.5.53, .54
  name_start : Part
  -- .55
  in_name : Part
  -- .56, with what was read of `public` or `system`
  name_end : List ℕ → Part
  -- .57, .58
  public_start : Part
  -- .59, .60, with the quote
  public_quoted : ℕ → Part
  -- .61, .62
  public_end : Part
  -- .63, .64
  system_start : Part
  -- .65, .66, with the quote
  system_quoted : ℕ → Part
  -- .67
  system_end : Part
  -- .68
  bogus_rest : Part

pub record Doctyping : Type 0 where
  pub part : Part
  pub own : Doctype

abbrev pub no_doctype : Doctyping
no_doctype = record {
  part = name_start;
  own = record { name = []; public_id = None; system_id = None; forces_quirks = false };
}

abbrev pub at_part : Part → Doctyping → Doctyping
at_part part d = record d { part = part }

abbrev pub quirks_forced : Doctyping → Doctyping
quirks_forced d = record d { own = record d.own { forces_quirks = true } }

abbrev pub gone_bogus : Doctyping → Doctyping
gone_bogus d = at_part bogus_rest (quirks_forced d)

abbrev pub with_name : ℕ → Doctyping → Doctyping
with_name c d = record d {
  part = in_name;
  own = record d.own { name = d.own.name ++ char_of (to_ascii_lowercase c) };
}

abbrev pub or_empty : Option (List ℕ) → List ℕ
or_empty None = []
or_empty (Some bytes) = bytes

abbrev pub with_public : List ℕ → Doctyping → Doctyping
with_public bytes d =
    record d { own = record d.own { public_id = Some (or_empty d.own.public_id ++ bytes) } }

abbrev pub with_system : List ℕ → Doctyping → Doctyping
with_system bytes d =
    record d { own = record d.own { system_id = Some (or_empty d.own.system_id ++ bytes) } }

abbrev pub is_quote : ℕ → Bool
is_quote c = (c == 34) || (c == 39)

abbrev pub public_opened : ℕ → Doctyping → Doctyping
public_opened c d = at_part (public_quoted c) (with_public [] d)

abbrev pub system_opened : ℕ → Doctyping → Doctyping
system_opened c d = at_part (system_quoted c) (with_system [] d)

-- a letter of `public` or `system`
abbrev pub keyword_read : List ℕ → Doctyping → Doctyping
keyword_read word d =
    if bytes_eq word (codes "public") then at_part public_start d
    else if bytes_eq word (codes "system") then at_part system_start d
    else if starts_with ◌==◌ (codes "public") word || starts_with ◌==◌ (codes "system") word
    then at_part (name_end word) d
    else gone_bogus d

abbrev pub is_empty : List ℕ → Bool
is_empty [] = true
is_empty (c ∷ bytes) = false

-- what a byte before the first `>` does
abbrev pub doctype_step : Part → Doctyping → ℕ → Doctyping
doctype_step name_start d c = if is_white_space c then d else with_name c d
doctype_step in_name d c =
    if is_white_space c then at_part (name_end []) d else with_name c d
doctype_step (name_end word) d c =
    if is_white_space c && is_empty word then d
    else keyword_read (word ++ to_ascii_lowercase c ∷ []) d
doctype_step public_start d c =
    if is_white_space c then d else if is_quote c then public_opened c d else gone_bogus d
doctype_step (public_quoted quote) d c =
    if c == quote then at_part public_end d else with_public (char_of c) d
doctype_step public_end d c =
    if is_white_space c then d else if is_quote c then system_opened c d else gone_bogus d
doctype_step system_start d c =
    if is_white_space c then d else if is_quote c then system_opened c d else gone_bogus d
doctype_step (system_quoted quote) d c =
    if c == quote then at_part system_end d else with_system (char_of c) d
doctype_step system_end d c = if is_white_space c then d else at_part bogus_rest d
doctype_step bogus_rest d c = d

-- whether a `>` asks for quirks mode there
abbrev pub is_cut : Part → Bool
is_cut name_start = true
is_cut (name_end word) = not (is_empty word)
is_cut public_start = true
is_cut (public_quoted quote) = true
is_cut system_start = true
is_cut (system_quoted quote) = true
is_cut _ = false

-- the doctype at its `>`
abbrev pub doctype_ended : Doctyping → Doctype
doctype_ended d = if is_cut d.part then (quirks_forced d).own else d.own

abbrev pub is_bogus : Part → Bool
is_bogus bogus_rest = true
is_bogus _ = false

-- the doctype that the end of the page cuts
abbrev pub doctype_cut : Doctyping → Doctype
doctype_cut d = if is_bogus d.part then d.own else (quirks_forced d).own
