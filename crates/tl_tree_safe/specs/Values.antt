-- What a value says at a key.
use Rattle.std.specs.Char.{is_ascii_alphabetic, is_ascii_alphanumeric, to_ascii_lowercase}
use Rattle.std.specs.Prelude.{Bool, List, [], false, filter, if◌then◌else◌, nat_lt, not, reverse, ℕ, ◌&&◌, ◌++◌, ◌==◌, ◌||◌, ◌∷◌}
use Rattle.std.specs.Str.{bytes_eq}
use Rattle.tl_safe_fit.specs.Words.{is_among}
use Rattle.tl_tree_safe.specs.Characters.{cleaned, is_space}
use Rattle.tl_tree_safe.specs.Classes.{kept_classes}
use Rattle.tl_tree_safe.specs.Lists.{ListedWords, class_key, has_front, naming_keys, referring_keys}

-- Links, as the URL standard reads them (its basic URL parser): without the control characters and
-- spaces at both ends, and without the tabs and line ends within; a scheme in any case says the
-- same

-- a control character of ASCII, or a space
abbrev pub is_blank : ℕ → Bool
is_blank b = nat_lt b 33

-- neither a tab nor a part of a line's end
abbrev pub is_in_line : ℕ → Bool
is_in_line b = not (b == 9) && not (b == 10) && not (b == 13)

abbrev pub trimmed_start : List ℕ → List ℕ
trimmed_start [] = []
trimmed_start (b ∷ link) = if is_blank b then trimmed_start link else b ∷ link

abbrev pub trimmed_end : List ℕ → List ℕ
trimmed_end link = reverse (trimmed_start (reverse link))

-- a byte of a scheme behind the first one
abbrev pub is_scheme_byte : ℕ → Bool
is_scheme_byte b = is_ascii_alphanumeric b || b == 43 || b == 45 || b == 46

-- such bytes up to a `:`
abbrev pub reaches_colon : List ℕ → Bool
reaches_colon [] = false
reaches_colon (b ∷ link) = b == 58 || (is_scheme_byte b && reaches_colon link)

abbrev pub begins_scheme : List ℕ → Bool
begins_scheme [] = false
begins_scheme (b ∷ link) = is_ascii_alphabetic b && reaches_colon link

-- a byte, in lower case where it stands in a scheme
abbrev pub lowered_where : Bool → ℕ → ℕ
lowered_where is_scheme b = if is_scheme then to_ascii_lowercase b else b

-- in lower case up to the first `:`, where this is a scheme
abbrev pub lowered_to_colon : Bool → List ℕ → List ℕ
lowered_to_colon is_scheme [] = []
lowered_to_colon is_scheme (b ∷ link) =
    let still = is_scheme && not (b == 58) in
    lowered_where still b ∷ lowered_to_colon still link

abbrev pub scheme_lowered : List ℕ → List ℕ
scheme_lowered link = lowered_to_colon (begins_scheme link) link

-- a link as it is read
abbrev pub link_read : List ℕ → List ℕ
link_read value = scheme_lowered (filter is_in_line (trimmed_end (trimmed_start value)))

-- Names with the policy's prefix

-- what is put in front of a text, where a word begins: a prefix that it hasn't
abbrev pub front_of : List ℕ → Bool → List ℕ → List ℕ
front_of prefix in_word text = if has_front prefix in_word text then [] else prefix

-- a prefix in front of each word of a text that hasn't it, but of the one that has begun before the
-- text, if one has
abbrev pub prefixed : List ℕ → Bool → List ℕ → List ℕ
prefixed prefix in_word [] = []
prefixed prefix in_word (b ∷ text) =
    front_of prefix in_word (b ∷ text) ++ b ∷ prefixed prefix (not (is_space b)) text

abbrev pub own_names : ListedWords → List ℕ → List ℕ
own_names p text = prefixed p.id_prefix false text

-- a link to another place in the page follows the name that this has
abbrev pub own_link : ListedWords → List ℕ → List ℕ
own_link p [] = []
own_link p (b ∷ link) = if b == 35 then b ∷ own_names p link else b ∷ link

-- a name, or the names of others
abbrev pub says_names : List ℕ → Bool
says_names key = is_among naming_keys key || is_among referring_keys key

-- Values

-- what a value says at a key; of classes those alone that the policy lists
abbrev pub own_value : ListedWords → List ℕ → List ℕ → List ℕ
own_value p key value =
    if is_among p.link_keys key then own_link p (link_read value)
    else if bytes_eq key class_key then kept_classes p.classes (cleaned value)
    else if says_names key then own_names p value
    else value
