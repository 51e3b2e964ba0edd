-- What open elements say of the tags that may stand inside of them, one element at a time.
use Rattle.std.specs.Prelude.{ℕ, ◌-◌, Bool, true, false, not, ◌||◌, ◌&&◌, nat_lt, List, [], ◌∷◌, codes, if◌then◌else◌}
use Rattle.tl_safe_fit.specs.Kinds.{bounds_scope, ends_items, is_anchor, is_closable, is_column_group, is_description, is_flow_inside, is_heading, is_implied, is_implied_in_container, is_item, is_mark, is_nobr, is_paragraph, is_row, is_ruby, is_table, is_table_body}
use Rattle.tl_safe_fit.specs.declared.kinds.Kind.{Kind}
use Rattle.tl_safe_fit.specs.declared.kinds.Kind.TheVariants.{Paragraph, Block, LooseBlock, Heading, Preformatted, Item, Description, Anchor, Nobr, Rule, RubyBase, RubyTextContainer, RubyText, Table, Caption, ColumnGroup, Column, TableBody, Row, Cell, Other}
use Rattle.tl_safe_fit.specs.declared.levels.Parts.{Parts}
use Rattle.tl_safe_fit.specs.declared.levels.Path.{Path}
use Rattle.tl_safe_fit.specs.declared.levels.Rooms.{Rooms}
use Rattle.tl_safe_fit.specs.declared.levels.Level.{Level}

-- the most elements that are open at once: browsers put none deeper than 512
abbrev pub most_open : ℕ
most_open = 400

-- the path inside an element of a kind
abbrev pub path_inside : Path → Kind → Path
path_inside path k = record {
  inner = k;
  flow = is_flow_inside k path.flow;
  paragraph = is_paragraph k || (not (bounds_scope k) && path.paragraph);
  item = is_item k || (not (ends_items k) && path.item);
  description = is_description k || (not (ends_items k) && path.description);
  anchor = is_anchor k || (not (is_mark k) && path.anchor);
  nobr = is_nobr k || (not (bounds_scope k) && path.nobr);
  ruby = is_ruby k || (not (bounds_scope k) && path.ruby);
}

-- what there is room for inside of a path, where so many more elements may be open
abbrev pub level_rooms : Parts → Path → ℕ → Rooms
level_rooms parts path left =
    let one = nat_lt 0 left in
    let two = nat_lt 1 left in
    let three = nat_lt 2 left in
    let flow = path.flow && one in
    let block = flow && not path.paragraph in
    record {
      flow = flow;
      block = block;
      heading = block && not (is_heading path.inner);
      item = block && not path.item;
      description = block && not path.description;
      anchor = flow && not path.anchor;
      nobr = flow && not path.nobr;
      ruby_base = flow && (not path.ruby || not (is_implied path.inner));
      ruby_text = flow && (not path.ruby || not (is_implied_in_container path.inner));
      part = is_table path.inner && one;
      column =
          (is_column_group path.inner && one)
          || (is_table path.inner && parts.column_group && two);
      row = (is_table_body path.inner && one) || (is_table path.inner && parts.table_body && two);
      cell =
          (is_row path.inner && one)
          || (is_table_body path.inner && parts.row && two)
          || (is_table path.inner && parts.table_body && parts.row && three);
    }

-- room in one of two places
abbrev pub in_either : Rooms → Rooms → Rooms
in_either here there = record {
  flow = here.flow || there.flow;
  block = here.block || there.block;
  heading = here.heading || there.heading;
  item = here.item || there.item;
  description = here.description || there.description;
  anchor = here.anchor || there.anchor;
  nobr = here.nobr || there.nobr;
  ruby_base = here.ruby_base || there.ruby_base;
  ruby_text = here.ruby_text || there.ruby_text;
  part = here.part || there.part;
  column = here.column || there.column;
  row = here.row || there.row;
  cell = here.cell || there.cell;
}

-- whether there is room for a tag of a kind
abbrev pub has_room : Rooms → Kind → Bool
has_room r Paragraph = r.block
has_room r Block = r.block
has_room r LooseBlock = r.block
has_room r Heading = r.heading
has_room r Preformatted = r.block
has_room r Item = r.item
has_room r Description = r.description
has_room r Anchor = r.anchor
has_room r Nobr = r.nobr
has_room r Rule = r.block
has_room r RubyBase = r.ruby_base
has_room r RubyTextContainer = r.ruby_base
has_room r RubyText = r.ruby_text
has_room r Table = r.block
has_room r Caption = r.part
has_room r ColumnGroup = r.part
has_room r Column = r.column
has_room r TableBody = r.part
has_room r Row = r.row
has_room r Cell = r.cell
has_room r _ = r.flow

-- the parts of tables that are missing around an element of a kind, inside an innermost one of
-- another
abbrev pub missing_parts : Kind → Kind → List (List ℕ)
missing_parts Row Table = codes "tbody" ∷ []
missing_parts Cell Table = codes "tbody" ∷ codes "tr" ∷ []
missing_parts Cell TableBody = codes "tr" ∷ []
missing_parts Column Table = codes "colgroup" ∷ []
missing_parts _ inner = []

abbrev pub outermost_path : Path
outermost_path = record {
  inner = Other;
  flow = true;
  paragraph = false;
  item = false;
  description = false;
  anchor = false;
  nobr = false;
  ruby = false;
}

abbrev pub outermost_level : Parts → Level
outermost_level parts = record {
  path = outermost_path;
  left = most_open;
  here = level_rooms parts outermost_path most_open;
  outside = level_rooms parts outermost_path most_open;
}

abbrev pub level_inside : Parts → Level → Kind → Level
level_inside parts level k =
    let path = path_inside level.path k in
    let left = level.left - 1 in
    let here = level_rooms parts path left in
    record {
      path = path;
      left = left;
      here = here;
      outside = if is_closable k then in_either here level.outside else here;
    }
