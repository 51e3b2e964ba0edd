-- What is written of texts and boxes, one after the other: the rendered text collection steps of
-- the HTML standard (3.2.7) as they go, with white space as it is collapsed where lines are made
-- (CSS Text, 4.1).
use Rattle.std.specs.Prelude.{Bool, List, [], false, if◌then◌else◌, map, true, ℕ, ◌++◌, ◌==◌, ◌||◌, ◌∷◌}
use Rattle.tl_tree_extract.specs.declared.text.display.Display.{Display}
use Rattle.tl_tree_extract.specs.declared.text.display.Display.TheVariants.{Block, Hidden, Inline, LineBreak, Paragraph, Preformatted, TableBox, TableCell, TableRow}
use Rattle.tl_tree_extract.specs.declared.text.flow.Flow.{Flow}
use Rattle.tl_tree_extract.specs.declared.text.flow.Gap.{Gap}
use Rattle.tl_tree_extract.specs.declared.text.flow.Gap.TheVariants.{Apart, Behind, LineStart}
use Rattle.tl_tree_extract.specs.declared.text.flow.Lines.{Lines}
use Rattle.tl_tree_extract.specs.declared.text.flow.Lines.TheVariants.{NoLine, OneLine, TwoLines, Unbegun}
use Rattle.tl_tree_extract.specs.declared.text.flow.Seam.{Seam}
use Rattle.tl_tree_extract.specs.declared.text.flow.Seam.TheVariants.{CellEnded, NoSeam, RowEnded}

pub data Item : Type 0 where
  -- white space that may be collapsed
  a_space : Item
  -- a byte that is written as it is
  a_byte : ℕ → Item
  -- where an element begins and ends
  a_begin : Display → Item
  an_end : Display → Item

-- a line feed, a tab, a carriage return
abbrev pub is_break : ℕ → Bool
is_break b = b == 10 || b == 9 || b == 13

-- these and the space
abbrev pub is_white : ℕ → Bool
is_white b = b == 32 || is_break b

abbrev pub item_of : Bool → ℕ → Item
item_of true b = a_byte b
item_of false b = if is_white b then a_space else a_byte b

-- a text, whose white space stands as it is or is collapsed
abbrev pub text_items : Bool → List ℕ → List Item
text_items is_kept bytes = map (item_of is_kept) bytes

-- Required line breaks: of a run of them the most count, and those before the first string don't

abbrev pub with_line : Lines → Lines
with_line Unbegun = Unbegun
with_line NoLine = OneLine
with_line OneLine = OneLine
with_line TwoLines = TwoLines

abbrev pub with_blank : Lines → Lines
with_blank Unbegun = Unbegun
with_blank _ = TwoLines

abbrev pub lines_written : Lines → List ℕ
lines_written Unbegun = []
lines_written NoLine = []
lines_written OneLine = 10 ∷ []
lines_written TwoLines = 10 ∷ 10 ∷ []

-- White space: one space, and none where a line begins or ends

abbrev pub with_space : Gap → Gap
with_space LineStart = LineStart
with_space Behind = Apart
with_space Apart = Apart

abbrev pub gap_written : Gap → List ℕ
gap_written LineStart = []
gap_written Behind = []
gap_written Apart = 32 ∷ []

-- before a byte that is written in a line
abbrev pub ahead : Flow → List ℕ
ahead flow = lines_written flow.lines ++ gap_written flow.gap

abbrev pub in_line : Flow → Flow
in_line flow = record { lines = NoLine; gap = Behind; seam = flow.seam }

-- a byte that ends a line, or a cell
abbrev pub stop : Flow → ℕ → List ℕ
stop flow b = lines_written flow.lines ++ b ∷ []

abbrev pub stopped : Flow → Seam → Flow
stopped flow seam = record { lines = NoLine; gap = LineStart; seam = seam }

-- a box on lines of its own begins or ends
abbrev pub at_edge : Lines → Seam → Flow
at_edge lines seam = record { lines = lines; gap = LineStart; seam = seam }

-- Between two cells of a row stands a tab, and between two rows of a table a line feed

abbrev pub row_begun : Flow → Seam → List ℕ
row_begun flow RowEnded = stop flow 10
row_begun flow _ = []

abbrev pub after_row_begun : Flow → Seam → Flow
after_row_begun flow RowEnded = stopped flow NoSeam
after_row_begun flow _ = at_edge flow.lines NoSeam

abbrev pub cell_begun : Flow → Seam → List ℕ
cell_begun flow CellEnded = stop flow 9
cell_begun flow _ = []

abbrev pub after_cell_begun : Flow → Seam → Flow
after_cell_begun flow CellEnded = stopped flow NoSeam
after_cell_begun flow _ = at_edge flow.lines NoSeam

-- Elements

abbrev pub begun : Flow → Display → List ℕ
begun flow LineBreak = stop flow 10
begun flow TableRow = row_begun flow flow.seam
begun flow TableCell = cell_begun flow flow.seam
begun flow _ = []

abbrev pub after_begin : Flow → Display → Flow
after_begin flow Hidden = flow
after_begin flow Inline = flow
after_begin flow LineBreak = stopped flow flow.seam
after_begin flow Paragraph = at_edge (with_blank flow.lines) flow.seam
after_begin flow Block = at_edge (with_line flow.lines) flow.seam
after_begin flow Preformatted = at_edge (with_line flow.lines) flow.seam
after_begin flow TableBox = at_edge (with_line flow.lines) NoSeam
after_begin flow TableRow = after_row_begun flow flow.seam
after_begin flow TableCell = after_cell_begun flow flow.seam

abbrev pub after_end : Flow → Display → Flow
after_end flow Hidden = flow
after_end flow Inline = flow
after_end flow LineBreak = flow
after_end flow Paragraph = at_edge (with_blank flow.lines) flow.seam
after_end flow Block = at_edge (with_line flow.lines) flow.seam
after_end flow Preformatted = at_edge (with_line flow.lines) flow.seam
after_end flow TableBox = at_edge (with_line flow.lines) NoSeam
after_end flow TableRow = at_edge flow.lines RowEnded
after_end flow TableCell = at_edge flow.lines CellEnded

-- a line feed that stands as it is ends a line
abbrev pub byte_written : Flow → ℕ → List ℕ
byte_written flow b = if b == 10 then stop flow b else ahead flow ++ b ∷ []

abbrev pub after_byte : Flow → ℕ → Flow
after_byte flow b = if b == 10 then stopped flow flow.seam else in_line flow

-- One after the other

abbrev pub item_written : Flow → Item → List ℕ
item_written flow a_space = []
item_written flow (a_byte b) = byte_written flow b
item_written flow (a_begin display) = begun flow display
item_written flow (an_end display) = []

abbrev pub after_item : Flow → Item → Flow
after_item flow a_space =
    record { lines = flow.lines; gap = with_space flow.gap; seam = flow.seam }
after_item flow (a_byte b) = after_byte flow b
after_item flow (a_begin display) = after_begin flow display
after_item flow (an_end display) = after_end flow display

abbrev pub written : Flow → List Item → List ℕ
written flow [] = []
written flow (item ∷ items) = item_written flow item ++ written (after_item flow item) items

abbrev pub after_items : Flow → List Item → Flow
after_items flow [] = flow
after_items flow (item ∷ items) = after_items (after_item flow item) items

-- before anything is written
abbrev pub at_begin : Flow
at_begin = record { lines = Unbegun; gap = LineStart; seam = NoSeam }
