-- What a policy keeps of trees.
use Rattle.std.specs.List.{list_any}
use Rattle.std.specs.Prelude.{Bool, List, codes, false, filter, if◌then◌else◌, map, not, true, ℕ, ◌&&◌, ◌∷◌}
use Rattle.std.specs.Str.{bytes_eq}
use Rattle.tl_dom_spec.specs.HtmlForest.{HtmlForest, comment, doctype, element, no_trees, text}
use Rattle.tl_dom_spec.specs.Marks.{Marked}
use Rattle.tl_dom_spec.specs.Tags.{Attribute, AttributeSpace, Tag, is_html, no_space}
use Rattle.tl_safe_fit.specs.Words.{is_among}
use Rattle.tl_spec.specs.Lex.ByteClass.{is_void}
use Rattle.tl_tree_safe.specs.Characters.{cleaned}
use Rattle.tl_tree_safe.specs.Lists.{ListedWords, is_listed_value, linking_names, opaque_names, rel_key, rel_value}
use Rattle.tl_tree_safe.specs.Values.{own_value}

-- Texts

abbrev pub cleaned_text : Marked (List ℕ) → Marked (List ℕ)
cleaned_text own = record own { said = cleaned own.said }

-- Attributes

abbrev pub has_no_space : AttributeSpace → Bool
has_no_space no_space = true
has_no_space _ = false

-- what stays of a value at a key
abbrev pub kept_value : ListedWords → List ℕ → List ℕ → List ℕ
kept_value p key value = cleaned (own_value p key value)

abbrev pub kept_attribute : ListedWords → Attribute → Attribute
kept_attribute p a = record a { value = kept_value p a.key a.value }

-- a listed key, with a value that may stand there
abbrev pub is_listed_attribute : ListedWords → Attribute → Bool
is_listed_attribute p a =
    has_no_space a.space && is_among p.keys a.key && is_listed_value p a.key a.value

-- those that are listed, in their order. A value is judged as it is written
abbrev pub kept_attributes : ListedWords → List Attribute → List Attribute
kept_attributes p attributes =
    filter (is_listed_attribute p) (map (kept_attribute p) attributes)

abbrev pub has_key : List ℕ → Attribute → Bool
has_key key a = bytes_eq a.key key

abbrev pub mark : Attribute
mark = record { space = no_space; key = rel_key; value = rel_value }

-- what stands beside the mark: no other `rel`
abbrev pub is_beside_mark : Attribute → Bool
is_beside_mark a = not (has_key rel_key a)

-- whether an element with these attributes is a link that a policy marks
abbrev pub is_marked_link : ListedWords → List ℕ → List Attribute → Bool
is_marked_link p name attributes =
    p.nofollow_links && is_among linking_names name && list_any (has_key (codes "href")) attributes

-- the mark stands first
abbrev pub marked_where : Bool → List Attribute → List Attribute
marked_where true attributes = mark ∷ filter is_beside_mark attributes
marked_where false attributes = attributes

-- Elements

-- a link whose target stays has the mark, where the policy wants it
abbrev pub kept_tag : ListedWords → Tag → Tag
kept_tag p tag =
    let stay = kept_attributes p tag.attributes in
    record tag { attributes = marked_where (is_marked_link p tag.name stay) stay }

-- these trees and those
abbrev pub joined : HtmlForest → HtmlForest → HtmlForest
joined no_trees later = later
joined (text own more) later = text own (joined more later)
joined (comment own more) later = comment own (joined more later)
joined (doctype own more) later = doctype own (joined more later)
joined (element tag below more) later = element tag below (joined more later)

-- what becomes of an element
pub data Part : Type 0 where
  -- it stays, with what is kept of what is in it
  stays : Part
  -- what is kept of what is in it stands in its place
  unwrapped : Part
  -- nothing is kept of it
  goes : Part

-- an element of HTML with a listed name stays; of `svg` and `math` and of what holds no markup
-- nothing is kept
abbrev pub part_of : ListedWords → Tag → Part
part_of p tag =
    if not (is_html tag) then goes
    else if is_among p.tags tag.name then stays
    else if is_among opaque_names tag.name then goes
    else unwrapped

-- what is kept of an element, where that is kept of what is in it
abbrev pub kept_element : ListedWords → Tag → HtmlForest → HtmlForest → Part → HtmlForest
kept_element p tag below more stays =
    element (kept_tag p tag) (if is_void tag.name then no_trees else below) more
kept_element p tag below more unwrapped = joined below more
kept_element p tag below more goes = more

-- comments and doctypes go
abbrev pub kept : ListedWords → HtmlForest → HtmlForest
kept p no_trees = no_trees
kept p (text own more) = text (cleaned_text own) (kept p more)
kept p (comment own more) = kept p more
kept p (doctype own more) = kept p more
kept p (element tag below more) =
    kept_element p tag (kept p below) (kept p more) (part_of p tag)
