-- What a policy lists of the tokens that are read of a print. Nothing here says what is kept of
-- which trees.
use Rattle.std.specs.List.{list_all, list_any}
use Rattle.std.specs.Prelude.{Bool, List, [], codes, false, not, true, ℕ, ◌&&◌, ◌||◌, ◌∷◌}
use Rattle.std.specs.Str.{bytes_eq}
use Rattle.tl_html_spec.specs.HtmlTokenizer.{Character, CommentToken, DoctypeToken, EndTag, HtmlAttribute, HtmlToken, StartTag}
use Rattle.tl_safe_fit.specs.Words.{is_among}
use Rattle.tl_tree_safe.specs.Lists.{ListedWords, is_listed_value, linking_names, rel_key, rel_value}

-- a listed key, with a value that may stand there
abbrev pub is_listed_pair : ListedWords → HtmlAttribute → Bool
is_listed_pair p (key, value) = is_among p.keys key && is_listed_value p key value

abbrev pub is_target : HtmlAttribute → Bool
is_target (key, value) = bytes_eq key (codes "href")

-- the mark of links stands first, so it is the one that counts
abbrev pub begins_marked : List HtmlAttribute → Bool
begins_marked [] = false
begins_marked ((key, value) ∷ pairs) = bytes_eq key rel_key && bytes_eq value rel_value

-- a link has the mark where the policy wants it
abbrev pub is_marked : ListedWords → List ℕ → List HtmlAttribute → Bool
is_marked p name pairs =
    not (p.nofollow_links && is_among linking_names name && list_any is_target pairs)
    || begins_marked pairs

-- a character, or a tag of a listed name with such attributes; no comment, and no doctype
abbrev pub is_listed : ListedWords → HtmlToken → Bool
is_listed p (Character b) = true
is_listed p (StartTag name pairs closes) =
    is_among p.tags name && (list_all (is_listed_pair p) pairs && is_marked p name pairs)
is_listed p (EndTag name) = is_among p.tags name
is_listed p (CommentToken bytes) = false
is_listed p DoctypeToken = false

abbrev pub are_listed : ListedWords → List HtmlToken → Bool
are_listed p tokens = list_all (is_listed p) tokens
