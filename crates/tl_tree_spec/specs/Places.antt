-- Places in a page that is being read.
use Rattle.std.specs.Prelude.{◌≡◌, List, [], ◌∷◌, Some}
use Rattle.tl_spec.specs.Tree.Forest.{none}
use Rattle.tl_html_spec.specs.HtmlTokenizer.{HtmlToken}
use Rattle.tl_tree_spec.specs.HtmlForest.{HtmlForest, HtmlTag}
use Rattle.tl_tree_spec.specs.Groups.{Group, a_caption, a_cell, a_format, a_mark, a_nobr, an_anchor, group}
use Rattle.tl_tree_spec.specs.Builder.{Builder, Element, Entry, Reading, formatting, inserted, marker, mode_by, new_element, with_room}
use Rattle.tl_tree_spec.specs.HtmlTreeBuilder.{before, fragment, run}

-- the entries after an element of a group was opened
abbrev pub entries_after : Group → Element → List Entry → List Entry
entries_after a_mark e entries = marker ∷ entries
entries_after a_caption e entries = marker ∷ entries
entries_after a_cell e entries = marker ∷ entries
entries_after an_anchor e entries = formatting e ∷ with_room e.own entries
entries_after a_format e entries = formatting e ∷ with_room e.own entries
entries_after a_nobr e entries = formatting e ∷ with_room e.own entries
entries_after _ e entries = entries

-- where elements of these tags are open, the innermost first, with nothing in them yet
abbrev pub placed : Reading → List HtmlTag → Builder
placed reading [] = fragment reading
placed reading (own ∷ tags) =
    let around = placed reading tags in
    record (inserted around own) {
      active = entries_after (group own.name) (new_element around own) around.active;
      mode = mode_by (group own.name) around.mode;
    }

-- from this builder the tokens put these trees into the current node, and leave all around it as it
-- is
pub record Puts (b : Builder) (tokens : List HtmlToken) (trees : HtmlForest) : Type 0 where
  pub after : Builder
  pub outcome : run (Some b) tokens ≡ Some after
  pub here : after.stack.current.element ≡ b.stack.current.element
  pub around : after.stack.others ≡ b.stack.others
  pub added : before after.stack.current.children none ≡ trees
