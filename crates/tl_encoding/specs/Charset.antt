-- The encoding that a page says in a tag `meta`: the label that the HTML standard's prescan
-- ("prescan a byte stream to determine its encoding") finds in its first 1,024 bytes.
use Rattle.std.specs.Prelude.{ℕ, Bool, ◌||◌, ◌&&◌, List, [], ◌∷◌, Option, Some, None, codes, drop, false, length, not, suc, take, true, zero, if◌then◌else◌}
use Rattle.std.specs.Option.{option_and_then, option_or}
use Rattle.std.specs.Str.{str_eq_ignore_ascii_case}
use Rattle.tl_encoding.specs.Attributes.{tag_end, value_at}
use Rattle.tl_encoding.specs.Content.{content_label}
use Rattle.tl_encoding.specs.Labels.{is_label, trimmed}
use Rattle.tl_encoding.specs.Runs.{after, begins_of, begins_with, from_word}
use Rattle.tl_encoding.specs.declared.run.ByteClass.TheVariants.{Bare, Except, Gap, Letter}

-- a tag `meta`: white space or a slash stands after its name
abbrev pub is_meta : List ℕ → Bool
is_meta bytes = begins_with (codes "<meta") bytes && begins_of Gap (drop 5 bytes)

-- a start tag or an end tag
abbrev pub is_tag : List ℕ → Bool
is_tag bytes =
    (begins_with (codes "<") bytes && begins_of Letter (drop 1 bytes))
    || (begins_with (codes "</") bytes && begins_of Letter (drop 2 bytes))

-- what else is passed over up to its `>`
abbrev pub is_markup : List ℕ → Bool
is_markup bytes =
    begins_with (codes "<!") bytes || (begins_with (codes "</") bytes || begins_with (codes "<?") bytes)

-- the end of a comment, at the `>` of its first `-->`
abbrev pub comment_end : List ℕ → List ℕ
comment_end bytes = drop 2 (from_word (codes "-->") bytes)

-- the last byte of what stands here: a comment, whose dashes may be those of its beginning, a tag,
-- other markup, or one byte
abbrev pub item_end : List ℕ → List ℕ
item_end bytes =
    if begins_with (codes "<!--") bytes then comment_end (drop 2 bytes)
    else if is_meta bytes then tag_end (drop 5 bytes)
    else if is_tag bytes then tag_end (after Bare bytes)
    else if is_markup bytes then after (Except 62) bytes
    else bytes

-- `http-equiv` says that `content` is the type of the page
abbrev pub is_content_type : Option (List ℕ) → Bool
is_content_type None = false
is_content_type (Some value) = str_eq_ignore_ascii_case value (codes "content-type")

-- the label in `content` counts where `http-equiv` says so
abbrev pub label_in_content : List ℕ → Option (List ℕ)
label_in_content tag =
    if is_content_type (value_at (codes "http-equiv") tag)
    then option_and_then content_label (value_at (codes "content") tag)
    else None

-- the label that a tag `meta` says: that of `charset`, else that in `content`
abbrev pub label_said : List ℕ → Option (List ℕ)
label_said tag = option_or (value_at (codes "charset") tag) (label_in_content tag)

-- a label of the encoding standard, without white space around it; others are passed over
abbrev pub label_known : List ℕ → Option (List ℕ)
label_known label = if is_label (trimmed label) then Some (trimmed label) else None

abbrev pub is_empty : List ℕ → Bool
is_empty [] = true
is_empty (b ∷ s) = false

-- the label of the tag `meta` that stands here, if the bytes don't run out before its end
abbrev pub meta_label : List ℕ → Option (List ℕ)
meta_label bytes =
    if is_meta bytes && not (is_empty (tag_end (drop 5 bytes)))
    then option_and_then label_known (label_said (drop 5 bytes))
    else None

-- what is said in at most so many steps
abbrev pub said_within : ℕ → List ℕ → Option (List ℕ)
said_within zero bytes = None
said_within (suc n) bytes =
    option_or (meta_label bytes) (said_within n (drop 1 (item_end bytes)))

-- each step takes a byte at least
abbrev pub prescanned : List ℕ → Option (List ℕ)
prescanned bytes = said_within (length bytes) bytes

-- the bytes that are looked at
abbrev pub head : List ℕ → List ℕ
head page = take 1024 page

abbrev pub charset_of : List ℕ → Option (List ℕ)
charset_of page = prescanned (head page)
