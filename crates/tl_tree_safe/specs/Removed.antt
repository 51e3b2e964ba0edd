-- What goes of trees by a policy, in the order of the page, and why.
use Rattle.std.specs.Prelude.{List, None, Option, Some, [], flat_map, if◌then◌else◌, not, option_copied, option_to_list, ℕ, ◌+◌, ◌&&◌, ◌++◌, ◌∷◌}
use Rattle.std.specs.Option.{option_map}
use Rattle.tl_dom_spec.specs.HtmlForest.{HtmlForest, comment, doctype, element, has_contents, no_trees, text}
use Rattle.tl_dom_spec.specs.Tags.{Attribute, Tag, is_html}
use Rattle.tl_safe_fit.specs.Words.{is_among}
use Rattle.tl_spec.specs.Lex.ByteClass.{is_void}
use Rattle.tl_tree.specs.Rows.{contents_count, row_count}
use Rattle.tl_tree_safe.specs.Fitted.{Names, at_top, is_read}
use Rattle.tl_tree_safe.specs.Kept.{Part, goes, has_no_space, kept_value, part_of, stays, unwrapped}
use Rattle.tl_tree_safe.specs.Lists.{ListedWords, is_listed_value, opaque_names}
use Rattle.tl_tree_safe.specs.declared.removal.Cause.{Cause}
use Rattle.tl_tree_safe.specs.declared.removal.Cause.TheVariants.{ForeignTag, MisplacedTag, OpaqueTag, UnlistedKey, UnlistedTag, UnlistedValue}
use Rattle.tl_tree_safe.specs.declared.removal.Removal.{Removal}

-- an element that goes, by the number of its row, or an attribute of one that stays, by its key
pub record Gone : Type 0 where
  pub node : ℕ
  pub key : Option (List ℕ)
  pub cause : Cause

-- what a removal says
abbrev pub gone_of : Removal → Gone
gone_of r = record { node = r.node; key = option_copied r.key; cause = r.cause }

-- Attributes

-- why an attribute of an element that stays goes, if it does
abbrev pub attribute_cause : ListedWords → Attribute → Option Cause
attribute_cause p a =
    if not (has_no_space a.space && is_among p.keys a.key) then Some UnlistedKey
    else if not (is_listed_value p a.key (kept_value p a.key a.value)) then Some UnlistedValue
    else None

abbrev pub attribute_gone : ListedWords → ℕ → Attribute → List Gone
attribute_gone p number a =
    option_to_list
    (option_map
    (λ cause. record { node = number; key = Some a.key; cause = cause })
    (attribute_cause p a))

abbrev pub attributes_gone : ListedWords → ℕ → List Attribute → List Gone
attributes_gone p number attributes = flat_map (attribute_gone p number) attributes

-- Elements

-- why an element goes that doesn't stay: one that is listed may not stand where it is
abbrev pub element_cause : ListedWords → Tag → Cause
element_cause p tag =
    if not (is_html tag) then ForeignTag
    else if is_among p.tags tag.name then MisplacedTag
    else if is_among opaque_names tag.name then OpaqueTag
    else UnlistedTag

abbrev pub lone_gone : ℕ → Cause → List Gone
lone_gone number cause = record { node = number; key = None; cause = cause } ∷ []

abbrev pub element_gone : ListedWords → ℕ → Tag → List Gone
element_gone p number tag = lone_gone number (element_cause p tag)

-- what goes with an element, where this goes of what is in it: inside of it, and in its place.
-- Nothing is told of what is in an element that goes whole
abbrev pub gone_with :
    ListedWords → Names → ℕ → Tag → List Gone → List Gone → Part → List Gone
gone_with p names number tag within below stays =
    if is_read names tag.name
    then attributes_gone p number tag.attributes ++ (if is_void tag.name then [] else within)
    else element_gone p number tag ++ (if is_void tag.name then [] else below)
gone_with p names number tag within below unwrapped = element_gone p number tag ++ below
gone_with p names number tag within below goes = element_gone p number tag

-- Trees, of which the first row has a number

abbrev pub gone_from : ListedWords → Names → ℕ → HtmlForest → List Gone
gone_from p names number no_trees = []
gone_from p names number (text own more) = gone_from p names (number + 1) more
gone_from p names number (comment own more) = gone_from p names (number + 1) more
gone_from p names number (doctype own more) = gone_from p names (number + 1) more
gone_from p names number (element tag below more) =
    let first = number + contents_count (has_contents tag) + 1 in
    gone_with p names number tag
    (gone_from p (tag.name ∷ names) first below)
    (gone_from p names first below)
    (part_of p tag)
    ++ gone_from p names (first + row_count below) more

-- of the trees of a page or a fragment
abbrev pub removed : ListedWords → HtmlForest → List Gone
removed p trees = gone_from p at_top 0 trees
