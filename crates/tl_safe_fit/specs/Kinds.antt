-- The kinds of names, and what the rules of the tree builder ask of them.
use Rattle.std.specs.Prelude.{ℕ, Bool, true, false, ◌==◌, List, [], ◌∷◌, length, map, if◌then◌else◌}
use Rattle.std.specs.Borrow.{Bor}
use Rattle.std.specs.Str.{bytes_eq}
use Rattle.tl_safe_fit.specs.declared.kinds.Kind.{Kind}
use Rattle.tl_safe_fit.specs.declared.kinds.Kind.TheVariants.{Paragraph, Block, Heading, Preformatted, Item, Description, Anchor, Nobr, Void, Rule, RubyBase, RubyTextContainer, RubyText, Ruby, Table, Caption, ColumnGroup, Column, TableBody, Row, Cell, Other}
use Rattle.tl_safe_fit.specs.declared.kinds.TheConstants.{NAMES_OF_1, NAMES_OF_2, NAMES_OF_3, NAMES_OF_4, NAMES_OF_5, NAMES_OF_6, NAMES_OF_7, NAMES_OF_8, NAMES_OF_10}

-- a name, and its kind
abbrev pub Named : Type 0
Named = List ℕ × Kind

-- lent names as lists of bytes
abbrev pub named : List (Bor (List ℕ) × Kind) → List Named
named rows = map (λ row. (row.0.now, row.1)) rows

-- the names of a length: the tables are those of the code
abbrev pub names_of_1 : List Named
names_of_1 = map (λ row. (row.0.now, row.1)) NAMES_OF_1

abbrev pub names_of_2 : List Named
names_of_2 = map (λ row. (row.0.now, row.1)) NAMES_OF_2

abbrev pub names_of_3 : List Named
names_of_3 = map (λ row. (row.0.now, row.1)) NAMES_OF_3

abbrev pub names_of_4 : List Named
names_of_4 = map (λ row. (row.0.now, row.1)) NAMES_OF_4

abbrev pub names_of_5 : List Named
names_of_5 = map (λ row. (row.0.now, row.1)) NAMES_OF_5

abbrev pub names_of_6 : List Named
names_of_6 = map (λ row. (row.0.now, row.1)) NAMES_OF_6

abbrev pub names_of_7 : List Named
names_of_7 = map (λ row. (row.0.now, row.1)) NAMES_OF_7

abbrev pub names_of_8 : List Named
names_of_8 = map (λ row. (row.0.now, row.1)) NAMES_OF_8

abbrev pub names_of_10 : List Named
names_of_10 = map (λ row. (row.0.now, row.1)) NAMES_OF_10

abbrev pub rows_of : ℕ → List Named
rows_of n =
    if n == 1 then names_of_1
    else if n == 2 then names_of_2
    else if n == 3 then names_of_3
    else if n == 4 then names_of_4
    else if n == 5 then names_of_5
    else if n == 6 then names_of_6
    else if n == 7 then names_of_7
    else if n == 8 then names_of_8
    else if n == 10 then names_of_10
    else []

abbrev pub kind_among : List Named → List ℕ → Kind
kind_among [] name = Other
kind_among (row ∷ rows) name = if bytes_eq name row.0 then row.1 else kind_among rows name

abbrev pub kind_of : List ℕ → Kind
kind_of name = kind_among (rows_of (length name)) name

-- it bounds the scopes in which open elements are looked for
abbrev pub bounds_scope : Kind → Bool
bounds_scope Table = true
bounds_scope Caption = true
bounds_scope Cell = true
bounds_scope _ = false

-- it marks the formatting that is open
abbrev pub is_mark : Kind → Bool
is_mark Caption = true
is_mark Cell = true
is_mark _ = false

-- it ends the search for an open `li`, `dd` or `dt`
abbrev pub ends_items : Kind → Bool
ends_items Block = true
ends_items Heading = true
ends_items Preformatted = true
ends_items Item = true
ends_items Description = true
ends_items Void = true
ends_items Rule = true
ends_items Table = true
ends_items Caption = true
ends_items ColumnGroup = true
ends_items Column = true
ends_items TableBody = true
ends_items Row = true
ends_items Cell = true
ends_items _ = false

abbrev pub is_paragraph : Kind → Bool
is_paragraph Paragraph = true
is_paragraph _ = false

abbrev pub is_heading : Kind → Bool
is_heading Heading = true
is_heading _ = false

abbrev pub is_preformatted : Kind → Bool
is_preformatted Preformatted = true
is_preformatted _ = false

abbrev pub is_item : Kind → Bool
is_item Item = true
is_item _ = false

abbrev pub is_description : Kind → Bool
is_description Description = true
is_description _ = false

abbrev pub is_anchor : Kind → Bool
is_anchor Anchor = true
is_anchor _ = false

abbrev pub is_nobr : Kind → Bool
is_nobr Nobr = true
is_nobr _ = false

abbrev pub is_ruby : Kind → Bool
is_ruby Ruby = true
is_ruby _ = false

abbrev pub is_container : Kind → Bool
is_container RubyTextContainer = true
is_container _ = false

abbrev pub is_table : Kind → Bool
is_table Table = true
is_table _ = false

abbrev pub is_column_group : Kind → Bool
is_column_group ColumnGroup = true
is_column_group _ = false

abbrev pub is_table_body : Kind → Bool
is_table_body TableBody = true
is_table_body _ = false

abbrev pub is_row : Kind → Bool
is_row Row = true
is_row _ = false

-- its end tag is implied, and it is no `rtc`
abbrev pub is_implied_in_container : Kind → Bool
is_implied_in_container Paragraph = true
is_implied_in_container Item = true
is_implied_in_container Description = true
is_implied_in_container RubyBase = true
is_implied_in_container RubyText = true
is_implied_in_container _ = false

abbrev pub is_implied : Kind → Bool
is_implied RubyTextContainer = true
is_implied k = is_implied_in_container k

-- its end tag may be left out
abbrev pub is_closable : Kind → Bool
is_closable Paragraph = true
is_closable Item = true
is_closable Description = true
is_closable RubyBase = true
is_closable RubyTextContainer = true
is_closable RubyText = true
is_closable Caption = true
is_closable ColumnGroup = true
is_closable TableBody = true
is_closable Row = true
is_closable Cell = true
is_closable _ = false

-- it has no end tag
abbrev pub is_void_kind : Kind → Bool
is_void_kind Void = true
is_void_kind Rule = true
is_void_kind Column = true
is_void_kind _ = false

-- whether the rules are those of "in body" inside of it, where they are so around it
abbrev pub is_flow_inside : Kind → Bool → Bool
is_flow_inside Table flow = false
is_flow_inside ColumnGroup flow = false
is_flow_inside TableBody flow = false
is_flow_inside Row flow = false
is_flow_inside Caption flow = true
is_flow_inside Cell flow = true
is_flow_inside _ flow = flow
