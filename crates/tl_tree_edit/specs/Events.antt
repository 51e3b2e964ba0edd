-- What a tree says in the order of its page: where an element begins and where it ends, each byte
-- of a text, comments and doctypes. Texts side by side say what one text says. So of trees without
-- empty texts, in which no two texts stand side by side, those are the same that say the same.
use Rattle.std.specs.Prelude.{Bool, List, None, Option, Some, [], false, if◌then◌else◌, map, nat_le, nat_lt, suc, true, ℕ, ◌++◌, ◌∷◌}
use Rattle.tl_tree.specs.Rows.{Node, Row, a_text, an_element, contents}
use Rattle.tl_tree_edit.specs.Bare.{bare}

pub data Event : Type 0 where
  -- an element, the contents of a template, a comment or a doctype
  begins : Node → Event
  -- a byte of a text
  says : ℕ → Event
  -- the end of an element, or of the contents of a template
  ends : Event

-- what a node says where it begins
abbrev pub begun : Node → List Event
begun (a_text own) = map says own.said
begun node = begins (bare node) ∷ []

-- whether a node has an end, and something may stand in it
abbrev pub has_end : Node → Bool
has_end (an_element tag) = true
has_end contents = true
has_end _ = false

-- What is said of a row
pub record Step : Type 0 where
  -- where it begins
  pub first : List Event
  -- where it ends, if it has an end
  pub last : Option (List Event)
  -- whether nothing is said of the rows below it
  pub is_over : Bool
  -- the number behind the last row below it
  pub end : ℕ

abbrev pub own_end : Node → Option (List Event)
own_end node = if has_end node then Some (ends ∷ []) else None

-- a row as it is
abbrev pub kept : Row → Step
kept row = record {
  first = begun row.node;
  last = own_end row.node;
  is_over = false;
  end = row.end;
}

-- What is said of rows, one after the other

-- what is still to be said at the end of a row
pub record Open : Type 0 where
  pub end : ℕ
  pub last : List Event

-- whether what ends there ends before a row, or before the end of all
abbrev pub is_past : Option ℕ → ℕ → Bool
is_past None end = true
is_past (Some n) end = nat_le end n

-- what is said of the innermost ones that end there, and the others
abbrev pub ended : Option ℕ → List Open → List Event
ended at [] = []
ended at (o ∷ outer) = if is_past at o.end then o.last ++ ended at outer else []

abbrev pub left_open : Option ℕ → List Open → List Open
left_open at [] = []
left_open at (o ∷ outer) = if is_past at o.end then left_open at outer else o ∷ outer

abbrev pub opened_to : ℕ → Option (List Event) → List Open → List Open
opened_to end None outer = outer
opened_to end (Some last) outer = record { end = end; last = last } ∷ outer

abbrev pub opened : Step → List Open → List Open
opened step outer = opened_to step.end step.last outer

-- from which row on something is said, behind one
abbrev pub until_behind : Step → ℕ → ℕ
until_behind step until = if step.is_over then step.end else until

-- rows from a number on; nothing is said of those before `until`
abbrev pub said : List Open → ℕ → ℕ → List Step → List Event
said outer until n [] = ended None outer
said outer until n (step ∷ steps) =
    if nat_lt n until then said outer until (suc n) steps
    else ended (Some n) outer
    ++ (step.first
    ++ said (opened step (left_open (Some n) outer)) (until_behind step until) (suc n) steps)

-- what a tree says
abbrev pub events : List Row → List Event
events rows = said [] 0 0 (map kept rows)
