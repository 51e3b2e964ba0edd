-- What a policy lists, and what its words say of names and of links. A value is judged as its
-- characters: no reference is left in it.
use Rattle.std.specs.Char.{is_ascii_alphanumeric, is_ascii_digit, is_ascii_lowercase}
use Rattle.std.specs.List.{list_all, list_any, starts_with}
use Rattle.std.specs.Prelude.{Bool, List, [], codes, false, nat_lt, not, true, ℕ, ◌&&◌, ◌==◌, ◌||◌, ◌∷◌}
use Rattle.std.specs.Str.{bytes_eq}
use Rattle.tl_safe_fit.specs.Words.{is_among}
use Rattle.tl_tree_safe.specs.Characters.{is_space}
use Rattle.tl_tree_safe.specs.Classes.{are_classes}

-- the names of tags and the keys that may stand, the keys that hold links, what links begin with,
-- whether relative links may stand beside these, whether links are marked as what nobody vouches
-- for, the patterns of the classes that may stand, and what names begin with that others can refer
-- to
pub record ListedWords : Type 0 where
  pub tags : List (List ℕ)
  pub keys : List (List ℕ)
  pub link_keys : List (List ℕ)
  pub link_prefixes : List (List ℕ)
  pub relative_links : Bool
  pub nofollow_links : Bool
  pub classes : List (List ℕ)
  pub id_prefix : List ℕ

-- Words

abbrev pub is_tag_byte : ℕ → Bool
is_tag_byte b = is_ascii_lowercase b || is_ascii_digit b

abbrev pub is_key_byte : ℕ → Bool
is_key_byte b = is_ascii_lowercase b || b == 45

-- a letter, and then such bytes
abbrev pub is_word_of : (ℕ → Bool) → List ℕ → Bool
is_word_of test [] = false
is_word_of test (b ∷ word) = is_ascii_lowercase b && list_all test word

-- The mark of a link: who shows the page doesn't vouch for where it leads, and what it leads to
-- gets no hold of the page

abbrev pub rel_key : List ℕ
rel_key = codes "rel"

abbrev pub rel_value : List ℕ
rel_value = codes "nofollow noopener"

-- the elements whose links a reader follows
abbrev pub linking_names : List (List ℕ)
linking_names = codes "a" ∷ codes "area" ∷ []

-- the mark stays at its key: the key is listed, and holds no links
abbrev pub may_mark : ListedWords → Bool
may_mark p = is_among p.keys rel_key && not (is_among p.link_keys rel_key)

-- names and keys are words, and links are marked where they may be. No more is asked of a policy
-- for what is kept by it to be read again; which words it may list to be harmless is another test
abbrev pub lists_words : ListedWords → Bool
lists_words p =
    list_all (is_word_of is_tag_byte) p.tags && list_all (is_word_of is_key_byte) p.keys
    && (not p.nofollow_links || may_mark p)

-- What holds no markup, or is read by the rules of another language: of an element of these names
-- nothing is kept. The contents of a `template` are no part of the page, and `noscript` is read
-- otherwise where scripts run
abbrev pub opaque_names : List (List ℕ)
opaque_names =
    codes "script" ∷ codes "style" ∷ codes "textarea" ∷ codes "title" ∷ codes "xmp" ∷
    codes "iframe" ∷ codes "noembed" ∷ codes "noframes" ∷ codes "noscript" ∷ codes "plaintext" ∷
    codes "template" ∷ codes "svg" ∷ codes "math" ∷ []

-- Tree construction has rules of their own for these that change what is around them (13.2.6.4):
-- the parts of a document, what stands in its head, frames, templates, lists to select from, forms
-- and their controls, what it renames, and what marks the formatting that is open; or they load a
-- document or a program (4.8). No policy may list one
abbrev pub structural_names : List (List ℕ)
structural_names =
    codes "html" ∷ codes "head" ∷ codes "body" ∷ codes "base" ∷ codes "basefont" ∷ codes "bgsound" ∷
    codes "link" ∷ codes "meta" ∷ codes "frameset" ∷ codes "frame" ∷ codes "template" ∷
    codes "select" ∷ codes "option" ∷ codes "optgroup" ∷ codes "selectedcontent" ∷ codes "form" ∷
    codes "input" ∷ codes "button" ∷ codes "keygen" ∷ codes "isindex" ∷ codes "image" ∷
    codes "applet" ∷ codes "marquee" ∷ codes "object" ∷ codes "embed" ∷ codes "param" ∷
    codes "portal" ∷ codes "fencedframe" ∷ codes "command" ∷ []

abbrev pub is_plain_name : List ℕ → Bool
is_plain_name name = not (is_among opaque_names name) && not (is_among structural_names name)

-- no listed name is one of these
abbrev pub lists_plain_names : ListedWords → Bool
lists_plain_names p = list_all is_plain_name p.tags

-- Links

-- no control character of ASCII, no space and no `"`
abbrev pub is_link_byte : ℕ → Bool
is_link_byte b = nat_lt 32 b && not (b == 34) && not (b == 127)

-- a byte that makes another host of a `/` before it, as in `//host` and `/\host`
abbrev pub leads_out : ℕ → Bool
leads_out b = b == 47 || b == 92

-- a path that is none, since it names another host
abbrev pub leaves_site : List ℕ → Bool
leaves_site [] = false
leaves_site (a ∷ []) = false
leaves_site (a ∷ b ∷ rest) = a == 47 && leads_out b

-- this stands at the front of a link: `/` begins none that leaves the site
abbrev pub begins_link : List ℕ → List ℕ → Bool
begins_link link front =
    starts_with ◌==◌ link front && (leaves_site front || not (leaves_site link))

-- a byte that may stand in a link before its first `/`, `?` or `#` without making a scheme of it:
-- no `:`, and no `\`, which browsers read as `/`
abbrev pub is_unschemed : ℕ → Bool
is_unschemed b = not (b == 58) && not (b == 92)

-- no scheme stands at the front
abbrev pub has_no_scheme : List ℕ → Bool
has_no_scheme [] = true
has_no_scheme (b ∷ link) =
    (b == 47 || b == 63 || b == 35) || (is_unschemed b && has_no_scheme link)

-- a link that is looked for beside the page that it stands in, as `x.png`: it has no scheme, and
-- names no other host
abbrev pub is_relative : List ℕ → Bool
is_relative [] = false
is_relative (b ∷ link) = has_no_scheme (b ∷ link) && not (leaves_site (b ∷ link))

-- Names that others refer to

abbrev pub naming_keys : List (List ℕ)
naming_keys = codes "id" ∷ codes "name" ∷ []

abbrev pub class_key : List ℕ
class_key = codes "class"

-- the keys at which such names stand, one or more with white space between them
abbrev pub referring_keys : List (List ℕ)
referring_keys =
    codes "for" ∷ codes "form" ∷ codes "headers" ∷ codes "itemref" ∷ codes "list" ∷
    codes "popovertarget" ∷ codes "commandfor" ∷ codes "aria-activedescendant" ∷
    codes "aria-controls" ∷ codes "aria-describedby" ∷ codes "aria-details" ∷
    codes "aria-errormessage" ∷ codes "aria-flowto" ∷ codes "aria-labelledby" ∷
    codes "aria-owns" ∷ []

-- ASCII letters and digits, `-`, `.`, `:`, `_`, and all beyond ASCII
abbrev pub is_own_byte : ℕ → Bool
is_own_byte b =
    is_ascii_alphanumeric b || b == 45 || b == 46 || b == 58 || b == 95 || nat_lt 127 b

-- one word with the policy's prefix
abbrev pub is_own_name : ListedWords → List ℕ → Bool
is_own_name p value = starts_with ◌==◌ value p.id_prefix && list_all is_own_byte value

-- a text begins within a word, or with white space, or with a prefix
abbrev pub has_front : List ℕ → Bool → List ℕ → Bool
has_front prefix in_word [] = true
has_front prefix in_word (b ∷ text) =
    in_word || is_space b || starts_with ◌==◌ (b ∷ text) prefix

-- each word of a text begins with a prefix, but for the one that has begun before it, if one has
abbrev pub all_begin : List ℕ → Bool → List ℕ → Bool
all_begin prefix in_word [] = true
all_begin prefix in_word (b ∷ text) =
    has_front prefix in_word (b ∷ text) && all_begin prefix (not (is_space b)) text

-- all names in a text have the policy's prefix
abbrev pub are_own_names : ListedWords → List ℕ → Bool
are_own_names p text = all_begin p.id_prefix false text

-- a link to another place in the page leads to a name with the policy's prefix
abbrev pub leads_to_own : ListedWords → List ℕ → Bool
leads_to_own p [] = true
leads_to_own p (b ∷ name) = not (b == 35) || are_own_names p name

-- a value that begins as the policy lets links begin, or is a relative link where it lets these
-- stand, without control characters, spaces and `"`
abbrev pub is_listed_link : ListedWords → List ℕ → Bool
is_listed_link p value =
    (list_any (begins_link value) p.link_prefixes || (p.relative_links && is_relative value))
    && list_all is_link_byte value && leads_to_own p value

-- Attributes

-- a value that may stand at a key
abbrev pub is_listed_value : ListedWords → List ℕ → List ℕ → Bool
is_listed_value p key value =
    (not (is_among p.link_keys key) || is_listed_link p value)
    && (not (is_among naming_keys key) || is_own_name p value)
    && (not (bytes_eq key class_key) || are_classes p.classes value)
    && (not (is_among referring_keys key) || are_own_names p value)
