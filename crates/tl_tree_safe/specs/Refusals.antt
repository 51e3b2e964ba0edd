-- Which words no policy may list, and why.
use Rattle.std.specs.Prelude.{Bool, List, None, Option, Some, [], codes, false, if◌then◌else◌, is_none, nat_lt, not, ℕ, ◌&&◌, ◌==◌, ◌||◌, ◌∷◌}
use Rattle.std.specs.List.{list_all, list_any, starts_with}
use Rattle.std.specs.Option.{option_map, option_or}
use Rattle.tl_safe_fit.specs.Words.{is_among}
use Rattle.tl_tree_safe.specs.Characters.{is_word}
use Rattle.tl_tree_safe.specs.Classes.{before_last}
use Rattle.tl_tree_safe.specs.Lists.{ListedWords, is_key_byte, is_link_byte, is_tag_byte, is_word_of, may_mark, opaque_names, rel_key, structural_names}
use Rattle.std.specs.Char.{is_ascii_lowercase}
use Rattle.tl_tree_safe.specs.declared.refusal.PolicyError.{PolicyError}
use Rattle.tl_tree_safe.specs.declared.refusal.Reason.{Reason}
use Rattle.tl_tree_safe.specs.declared.refusal.Reason.TheVariants.{ActiveKey, ActiveScheme, LinkKey, MalformedClass, MalformedKey, MalformedLink, MalformedPrefix, MalformedTag, NoCaption, NoCell, NoRow, NoScheme, NoTable, NoTableBody, OpaqueTag, ScriptKey, StructuralTag, UnlistedMark}

-- Names

-- why no policy may list a name of a tag, if none may
abbrev pub tag_reason : List ℕ → Option Reason
tag_reason name =
    if not (is_word_of is_tag_byte name) then Some MalformedTag
    else if is_among opaque_names name then Some OpaqueTag
    else if is_among structural_names name then Some StructuralTag
    else None

-- Keys

-- keys whose values are no names, texts or links: styles, documents, lists of links, what makes an
-- element another one, and where a link reports that it was followed
abbrev pub active_keys : List (List ℕ)
active_keys =
    codes "style" ∷ codes "srcdoc" ∷ codes "srcset" ∷ codes "imagesrcset" ∷ codes "ping" ∷
    codes "archive" ∷ codes "is" ∷ codes "attributionsrc" ∷ []

-- keys whose values are links, whatever a policy says
abbrev pub known_link_keys : List (List ℕ)
known_link_keys =
    codes "href" ∷ codes "src" ∷ codes "cite" ∷ codes "action" ∷ codes "formaction" ∷
    codes "poster" ∷ codes "background" ∷ codes "data" ∷ codes "longdesc" ∷ codes "manifest" ∷
    codes "codebase" ∷ codes "classid" ∷ codes "profile" ∷ codes "usemap" ∷ codes "lowsrc" ∷
    codes "dynsrc" ∷ codes "icon" ∷ []

-- why no policy with these link keys may list a key, if none may
abbrev pub key_reason : List (List ℕ) → List ℕ → Option Reason
key_reason link_keys key =
    if not (is_word_of is_key_byte key) then Some MalformedKey
    else if starts_with ◌==◌ key (codes "on") then Some ScriptKey
    else if is_among active_keys key then Some ActiveKey
    else if is_among known_link_keys key && not (is_among link_keys key) then Some LinkKey
    else None

-- What links begin with

-- printable ASCII but the space, `"`, `<` and `>`
abbrev pub is_beginning_byte : ℕ → Bool
is_beginning_byte b = is_link_byte b && nat_lt b 127 && not (b == 60) && not (b == 62)

-- what begins a link within a site
abbrev pub begins_path : List ℕ → Bool
begins_path [] = false
begins_path (b ∷ rest) = b == 47 || b == 35 || b == 63 || b == 46

-- schemes whose links are programs or documents
abbrev pub active_schemes : List (List ℕ)
active_schemes =
    codes "javascript:" ∷ codes "vbscript:" ∷ codes "livescript:" ∷ codes "data:" ∷ codes "blob:" ∷
    codes "filesystem:" ∷ codes "about:" ∷ []

-- word bytes up to a `:`
abbrev pub has_colon : List ℕ → Bool
has_colon [] = false
has_colon (b ∷ word) = b == 58 || (is_tag_byte b && has_colon word)

-- a whole scheme with its `:`
abbrev pub has_scheme : List ℕ → Bool
has_scheme [] = false
has_scheme (b ∷ word) = is_ascii_lowercase b && has_colon word

-- one of these stands at its front
abbrev pub begins_with_any : List (List ℕ) → List ℕ → Bool
begins_with_any fronts word = list_any (starts_with ◌==◌ word) fronts

-- why no policy may let links begin with a word, if none may
abbrev pub link_reason : List ℕ → Option Reason
link_reason word =
    if not (list_all is_beginning_byte word) then Some MalformedLink
    else if begins_path word then None
    else if not (has_scheme word) then Some NoScheme
    else if begins_with_any active_schemes word then Some ActiveScheme
    else None

-- Classes

-- what stands in a pattern: neither a control character of ASCII, nor white space, `"` or `*`
abbrev pub is_pattern_byte : ℕ → Bool
is_pattern_byte b = is_link_byte b && not (b == 42)

-- such bytes, of which the last may be a `*`
abbrev pub is_pattern : List ℕ → Bool
is_pattern pattern =
    is_word pattern && list_all is_link_byte pattern
    && list_all is_pattern_byte (before_last pattern)

-- why no policy may have a pattern of classes, if none may
abbrev pub class_reason : List ℕ → Option Reason
class_reason pattern = if is_pattern pattern then None else Some MalformedClass

-- The prefix

-- why no policy may have a prefix, if none may
abbrev pub prefix_reason : List ℕ → Option Reason
prefix_reason id_prefix =
    if is_word_of is_key_byte id_prefix then None else Some MalformedPrefix

-- Tables. A part of a table that may not stand where it is, is unwrapped, and its texts would
-- stand between the other parts, where none but white space stays (`specs/Fitted`)

abbrev pub table_name : List ℕ
table_name = codes "table"

-- the parts of a table
abbrev pub part_names : List (List ℕ)
part_names =
    codes "caption" ∷ codes "colgroup" ∷ codes "col" ∷ codes "tbody" ∷ codes "thead" ∷
    codes "tfoot" ∷ codes "tr" ∷ codes "td" ∷ codes "th" ∷ []

-- these names are all listed
abbrev pub lists_all : List (List ℕ) → List (List ℕ) → Bool
lists_all tags names = list_all (is_among tags) names

-- what these names lack to be those of a table in which each text may stand, if anything
abbrev pub lacking : List (List ℕ) → Option Reason
lacking tags =
    if not (lists_all tags (codes "tbody" ∷ codes "thead" ∷ codes "tfoot" ∷ []))
    then Some NoTableBody
    else if not (is_among tags (codes "tr")) then Some NoRow
    else if not (lists_all tags (codes "td" ∷ codes "th" ∷ [])) then Some NoCell
    else if not (is_among tags (codes "caption")) then Some NoCaption
    else None

-- why no policy without `table` may list a name, if none may
abbrev pub part_reason : List ℕ → Option Reason
part_reason name = if is_among part_names name then Some NoTable else None

-- Refusals

-- a word, and why no policy may list it
abbrev pub Refusal : Type 0
Refusal = List ℕ × Reason

-- what an error shows
abbrev pub refusal_of : PolicyError → Refusal
refusal_of error = (error.word.now, error.reason)

-- the first of these words that is refused
abbrev pub first_refused : (List ℕ → Option Reason) → List (List ℕ) → Option Refusal
first_refused reason [] = None
first_refused reason (word ∷ words) =
    option_or (option_map (λ r. (word, r)) (reason word)) (first_refused reason words)

-- the key of the mark, where a policy marks links and may not
abbrev pub refused_mark : ListedWords → Option Refusal
refused_mark p =
    if p.nofollow_links && not (may_mark p) then Some (rel_key, UnlistedMark) else None

-- `table`, where parts of it are missing, or the first part without it
abbrev pub refused_table : List (List ℕ) → Option Refusal
refused_table tags =
    if is_among tags table_name then option_map (λ r. (table_name, r)) (lacking tags)
    else first_refused part_reason tags

-- the first word that is refused by itself, in the order of the lists and of the words in each; any
-- word may be a link key
abbrev pub refused_word : ListedWords → Option Refusal
refused_word p =
    option_or (option_or (option_or (option_or
    (first_refused tag_reason p.tags)
    (first_refused (key_reason p.link_keys) p.keys))
    (first_refused link_reason p.link_prefixes))
    (first_refused class_reason p.classes))
    (first_refused prefix_reason (p.id_prefix ∷ []))

-- the first word that is refused, then the key of the mark, then what is wrong with tables
abbrev pub first_refusal : ListedWords → Option Refusal
first_refusal p = option_or (option_or (refused_word p) (refused_mark p)) (refused_table p.tags)

-- a policy of these lists is one
abbrev pub are_lawful : ListedWords → Bool
are_lawful p = is_none (first_refusal p)
