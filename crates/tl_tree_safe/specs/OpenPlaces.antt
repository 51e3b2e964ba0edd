-- Where a print may be put: what is open around it counts for none of its tags.
use Rattle.std.specs.List.{list_all}
use Rattle.std.specs.Prelude.{Bool, List, None, [], false, map, not, true, ℕ, ⊤, ◌&&◌, ◌++◌, ◌||◌, ◌∷◌, ◌≡◌}
use Rattle.tl_dom_spec.specs.HtmlForest.{HtmlForest, comment, doctype, element, no_trees, text}
use Rattle.tl_dom_spec.specs.Partial.{unnumbered}
use Rattle.tl_dom_spec.specs.Tags.{Tag, html_tag}
use Rattle.tl_html_print.specs.ReadAgain.{IsReadable, attribute_read, is_kept, lowered}
use Rattle.tl_html_print.specs.Serialized.{end_tag, serialized, start_tag}
use Rattle.tl_html_spec.specs.Balanced.{is_scope}
use Rattle.tl_spec.specs.Lex.ByteClass.{is_void}
use Rattle.tl_tree_safe.specs.Fitted.{Names, at_top, is_read}
use Rattle.tl_tree_safe.specs.Kept.{joined}
use Rattle.tl_tree_safe.specs.Settled.{begins_line, settled}
use Rattle.tl_tree_spec.specs.Builder.{is_flow, mode_of, within}
use Rattle.tl_tree_spec.specs.Groups.{Group, a_button, a_nobr, an_anchor, group, is_description, is_heading, is_item}
use Rattle.tl_tree_spec.specs.Stays.{directly_in, in_p, in_ruby, is_mark, is_preformatted, surely_ends}

abbrev pub is_anchor_group : Group → Bool
is_anchor_group an_anchor = true
is_anchor_group _ = false

abbrev pub is_button_group : Group → Bool
is_button_group a_button = true
is_button_group _ = false

abbrev pub is_nobr_group : Group → Bool
is_nobr_group a_nobr = true
is_nobr_group _ = false

abbrev pub is_anchor : List ℕ → Bool
is_anchor n = is_anchor_group (group n)

abbrev pub is_button : List ℕ → Bool
is_button n = is_button_group (group n)

abbrev pub is_nobr : List ℕ → Bool
is_nobr n = is_nobr_group (group n)

-- no element is open that a start tag would end: a `p` that a block ends, an item or a description,
-- an `a`, a `button`, a `nobr`
abbrev pub ends_none : Names → Bool
ends_none names =
    (not (in_p names) && not (within is_item surely_ends names))
    && (not (within is_description surely_ends names) && not (within is_anchor is_mark names))
    && (not (within is_button is_scope names) && not (within is_nobr is_scope names))

-- the insertion mode is "in body", "in cell" or "in caption", no start tag ends an element that is
-- open, none is a ruby, and the innermost one is neither a heading nor a `pre` or `listing`
abbrev pub is_open_place : Names → Bool
is_open_place names =
    (is_flow (mode_of names) && ends_none names)
    && (not (in_ruby names)
    && not (directly_in (λ n. is_heading n || is_preformatted (group n)) names))

-- A place in trees

-- an element around a place, with what stands in it before that and after it
pub record Around : Type 0 where
  pub tag : Tag
  pub before : HtmlForest
  pub after : HtmlForest

-- trees put there, the innermost element first
abbrev pub put : List Around → HtmlForest → HtmlForest
put [] trees = trees
put (a ∷ around) trees =
    put around (element a.tag (joined a.before (joined trees a.after)) no_trees)

-- what is written before the place, and after it
abbrev pub front : List Around → List ℕ
front [] = []
front (a ∷ around) = front around ++ (start_tag a.tag ++ serialized false None a.before)

abbrev pub back : List Around → List ℕ
back [] = []
back (a ∷ around) = serialized false None a.after ++ (end_tag a.tag ++ back around)

-- the names that are open there, in a context element of flow content
abbrev pub names_in : List Around → Names
names_in around = map (λ (a : Around). a.tag.name) around ++ at_top

-- a start tag of HTML that is read as it is written
pub record IsReadBack (tag : Tag) : Type 0 where
  pub readable : IsReadable tag
  pub low : lowered tag.name ≡ tag.name
  pub same : html_tag tag.name (map attribute_read tag.attributes) ≡ unnumbered tag

-- so are all tags of trees, and their texts
abbrev pub AreReadBack : HtmlForest → Type 0
AreReadBack no_trees = ⊤
AreReadBack (text own more) = (list_all is_kept own.said ≡ true) × AreReadBack more
AreReadBack (comment own more) = AreReadBack more
AreReadBack (doctype own more) = AreReadBack more
AreReadBack (element tag below more) = IsReadBack tag × AreReadBack below × AreReadBack more

-- what is around a place is settled inside elements of these names, and is read as it is written
pub record StandsIn (names : Names) (a : Around) : Type 0 where
  pub tag : IsReadBack a.tag
  pub stands : is_read names a.tag.name ≡ true
  pub ends : is_void a.tag.name ≡ false
  pub before : AreReadBack a.before
  pub before_stays : settled (a.tag.name ∷ names) a.before ≡ true
  pub line : not (is_preformatted (group a.tag.name) && begins_line a.before) ≡ true
  pub after : AreReadBack a.after
  pub after_stays : settled (a.tag.name ∷ names) a.after ≡ true

abbrev pub AreAround : List Around → Type 0
AreAround [] = ⊤
AreAround (a ∷ around) = StandsIn (names_in around) a × AreAround around
