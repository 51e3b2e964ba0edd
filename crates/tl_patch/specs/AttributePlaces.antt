-- Where the attributes of a tag stand: by the stages in which the bytes after the tag's name stand
-- (13.2.5.32 to .40), of which those between two attributes are one.
use Rattle.std.specs.Prelude.{◌≡◌, ℕ, suc, ◌-◌, Bool, true, false, ◌||◌, ◌==◌, List, [], ◌∷◌, ◌++◌, take, drop, Option, Some, None, if◌then◌else◌}
use Rattle.std.specs.Str.{bytes_eq}
use Rattle.std.specs.List.{list_any}
use Rattle.tl_html_parts.specs.Bytes.{is_space}
use Rattle.tl_html_parts.specs.Parts.{name_of}
use Rattle.tl_patch_spec.specs.Markup.{quoted_value}
use Rattle.tl_patch.specs.declared.stage.KeyPlace.{KeyPlace}
use Rattle.tl_patch.specs.declared.stage.Place.{Place}
use Rattle.tl_patch.specs.declared.stage.Stage.{Stage}
use Rattle.tl_patch.specs.declared.stage.Stage.TheVariants.{AfterKey, BeforeValue, Between, DoubleQuoted, Key, SingleQuoted, Unquoted}

abbrev pub key_place : ℕ → ℕ → KeyPlace
key_place start end = record { start = start; end = end }

-- a key without a value
abbrev pub alone : KeyPlace → Place
alone key = record { key = key; value = key.end; end = key.end; has_equals = false }

abbrev pub valued : KeyPlace → ℕ → ℕ → Place
valued key value end = record { key = key; value = value; end = end; has_equals = true }

-- the stage after a byte

abbrev pub between : ℕ → ℕ → Stage
between at b = if is_space b || ((b == 47) || (b == 62)) then Between else Key at

-- past a key, where a value may follow
abbrev pub past_key : KeyPlace → ℕ → ℕ → Stage
past_key key at b =
    if is_space b then AfterKey key
    else if b == 61 then BeforeValue key
    else between at b

abbrev pub ends_key : ℕ → Bool
ends_key b = is_space b || ((b == 47) || ((b == 62) || (b == 61)))

abbrev pub in_key : ℕ → ℕ → ℕ → Stage
in_key start at b = if ends_key b then past_key (key_place start at) at b else Key start

abbrev pub before_value : KeyPlace → ℕ → ℕ → Stage
before_value key at b =
    if is_space b then BeforeValue key
    else if b == 34 then DoubleQuoted key at
    else if b == 39 then SingleQuoted key at
    else if b == 62 then Between
    else Unquoted key at

abbrev pub next_stage : Stage → ℕ → ℕ → Stage
next_stage Between at b = between at b
next_stage (Key start) at b = in_key start at b
next_stage (AfterKey key) at b = past_key key at b
next_stage (BeforeValue key) at b = before_value key at b
next_stage (DoubleQuoted key value) at b = if b == 34 then Between else DoubleQuoted key value
next_stage (SingleQuoted key value) at b = if b == 39 then Between else SingleQuoted key value
next_stage (Unquoted key value) at b =
    if is_space b || (b == 62) then Between else Unquoted key value

abbrev pub listed : Option Place → List Place
listed None = []
listed (Some p) = p ∷ []

-- the attribute that a byte shows to be whole
abbrev pub attribute_found : Stage → ℕ → ℕ → List Place
attribute_found Between at b = []
attribute_found (Key start) at b =
    if (b == 47) || (b == 62) then alone (key_place start at) ∷ [] else []
attribute_found (AfterKey key) at b = if is_space b || (b == 61) then [] else alone key ∷ []
attribute_found (BeforeValue key) at b = if b == 62 then valued key at at ∷ [] else []
attribute_found (DoubleQuoted key value) at b =
    if b == 34 then valued key value (suc at) ∷ [] else []
attribute_found (SingleQuoted key value) at b =
    if b == 39 then valued key value (suc at) ∷ [] else []
attribute_found (Unquoted key value) at b =
    if is_space b || (b == 62) then valued key value at ∷ [] else []

abbrev pub places_from : Stage → ℕ → List ℕ → List Place
places_from stage at [] = []
places_from stage at (b ∷ text) =
    attribute_found stage at b ++ places_from (next_stage stage at b) (suc at) text

-- the attributes in what follows the name of a tag
abbrev pub places_of : List ℕ → List Place
places_of rest = places_from Between 0 rest

-- what stands between two places
abbrev pub part : ℕ → ℕ → List ℕ → List ℕ
part from until bytes = take (until - from) (drop from bytes)

abbrev pub key_bytes : List ℕ → Place → List ℕ
key_bytes rest p = part p.key.start p.key.end rest

abbrev pub key_at : List ℕ → Place → List ℕ
key_at rest p = name_of (key_bytes rest p)

-- whether an attribute has a key
abbrev pub is_named : List ℕ → List ℕ → Place → Bool
is_named rest key p = bytes_eq (key_at rest p) key

-- the first attribute with a key
pub record IsFirstNamed (rest key : List ℕ) (places : List Place) (place : Place) : Type 0 where
  pub before : List Place
  pub later : List Place
  pub parts : places ≡ before ++ place ∷ later
  pub none_before : list_any (is_named rest key) before ≡ false
  pub is : is_named rest key place ≡ true

-- what is put in the place of a value, or after a key that has none
abbrev pub value_put : Bool → List ℕ → List ℕ
value_put true value = quoted_value value
value_put false value = 61 ∷ quoted_value value
