-- The tests of the definitions, as classes.
use Rattle.std.proofs.Common.{◌≡◌, ℕ, Bool, true, not, ◌&&◌, ◌||◌, List, codes, refl}
use Rattle.std.specs.List.{list_all}
use Rattle.tl_spec.specs.Lex.ByteClass.{is_void, void_names}
use Rattle.tl_names.specs.Elements.{closed_at_once, feed_droppers, head_parts, headings, implied_ends, is_among, list_scope_bounds, paragraph_ends, rawtext_names, rcdata_names, scope_bounds, scoped_ends, special_names, table_parts, table_scope_bounds, table_sections}
use Rattle.tl_html_spec.specs.Balanced.{is_button_scope, is_head, is_heading, is_implied, is_item_bound, is_list_scope, is_one_of, is_raw, is_scope, is_section, is_special, is_table_bound, never, words}
use Rattle.tl_html_balance.specs.Classes.{is}
use Rattle.tl_html_balance.specs.declared.class.TheConstants as class
use Rattle.tl_html_balance.proofs.Agreed.{IsKnown, agree, agreed, but, either, is_row, listed, rows}

among : (wanted : ℕ) (names : List (List ℕ)) → list_all (is_row rows) names ≡ true → agree wanted (is_among names) rows ≡ true → is wanted ≡ is_among names
among wanted names h k = agreed wanted (is_among names) (listed names h) k

one_of : (wanted : ℕ) (text : List ℕ) → list_all (is_row rows) (words text) ≡ true → agree wanted (is_one_of text) rows ≡ true → is wanted ≡ is_one_of text
one_of wanted text h k = agreed wanted (is_one_of text) (listed (words text) h) k

one : (text : List ℕ) → list_all (is_row rows) (words text) ≡ true → IsKnown (is_one_of text)
one text h = listed (words text) h

pub never_is : is 0 ≡ never
never_is = agreed 0 never (record { none = λ name e. refl }) refl

pub li : is class.LI ≡ is_one_of (codes "li")
li = one_of class.LI (codes "li") refl refl

pub description : is class.DESCRIPTION ≡ is_one_of (codes "dd dt")
description = one_of class.DESCRIPTION (codes "dd dt") refl refl

pub p : is class.P ≡ is_one_of (codes "p")
p = one_of class.P (codes "p") refl refl

pub option : is class.OPTION ≡ is_one_of (codes "option")
option = one_of class.OPTION (codes "option") refl refl

pub optgroup : is class.OPTGROUP ≡ is_one_of (codes "optgroup")
optgroup = one_of class.OPTGROUP (codes "optgroup") refl refl

pub button : is class.BUTTON ≡ is_one_of (codes "button")
button = one_of class.BUTTON (codes "button") refl refl

pub a : is class.A ≡ is_one_of (codes "a nobr")
a = one_of class.A (codes "a nobr") refl refl

pub tr : is class.TR ≡ is_one_of (codes "tr")
tr = one_of class.TR (codes "tr") refl refl

pub cell : is class.CELL ≡ is_one_of (codes "td th")
cell = one_of class.CELL (codes "td th") refl refl

pub col : is class.COL ≡ is_one_of (codes "col")
col = one_of class.COL (codes "col") refl refl

pub table : is class.TABLE ≡ is_one_of (codes "table")
table = one_of class.TABLE (codes "table") refl refl

pub ruby : is class.RUBY ≡ is_one_of (codes "ruby")
ruby = one_of class.RUBY (codes "ruby") refl refl

pub head : is class.HEAD ≡ is_one_of (codes "head")
head = one_of class.HEAD (codes "head") refl refl

pub html : is class.HTML ≡ is_one_of (codes "html")
html = one_of class.HTML (codes "html") refl refl

pub body : is class.BODY ≡ is_one_of (codes "body")
body = one_of class.BODY (codes "body") refl refl

pub form : is class.FORM ≡ is_one_of (codes "form")
form = one_of class.FORM (codes "form") refl refl

pub br : is class.BR ≡ is_one_of (codes "br")
br = one_of class.BR (codes "br") refl refl

pub foreign : is class.FOREIGN ≡ is_one_of (codes "svg math")
foreign = one_of class.FOREIGN (codes "svg math") refl refl

pub foreign_object : is class.FOREIGN_OBJECT ≡ is_one_of (codes "foreignobject")
foreign_object = one_of class.FOREIGN_OBJECT (codes "foreignobject") refl refl

pub rt : is class.RT ≡ is_one_of (codes "rt rp")
rt = one_of class.RT (codes "rt rp") refl refl

pub template : is class.TEMPLATE ≡ is_one_of (codes "template")
template = one_of class.TEMPLATE (codes "template") refl refl

pub colgroup : is class.COLGROUP ≡ is_one_of (codes "colgroup")
colgroup = one_of class.COLGROUP (codes "colgroup") refl refl

pub option_like : is class.OPTION_LIKE ≡ is_one_of (codes "option optgroup hr")
option_like = one_of class.OPTION_LIKE (codes "option optgroup hr") refl refl

pub group_like : is class.GROUP_LIKE ≡ is_one_of (codes "optgroup hr")
group_like = one_of class.GROUP_LIKE (codes "optgroup hr") refl refl

pub rb : is class.RUBY_BASE ≡ is_one_of (codes "rb rtc")
rb = one_of class.RUBY_BASE (codes "rb rtc") refl refl

pub column_group : is class.TABLE_CHILD ≡ is_one_of (codes "tbody thead tfoot caption colgroup")
column_group = one_of class.TABLE_CHILD (codes "tbody thead tfoot caption colgroup") refl refl

pub table_cell_bound : is class.CELL_BOUND ≡ is_one_of (codes "td th caption template")
table_cell_bound = one_of class.CELL_BOUND (codes "td th caption template") refl refl

pub html_or_head : is class.HTML_OR_HEAD ≡ is_one_of (codes "html head")
html_or_head = one_of class.HTML_OR_HEAD (codes "html head") refl refl

pub any_foreign : is class.FOREIGN_BOUND ≡ is_one_of (codes "svg math foreignobject")
any_foreign = one_of class.FOREIGN_BOUND (codes "svg math foreignobject") refl refl

pub any_depth : is class.FOUND_ANYWHERE ≡ is_one_of (codes "template select head")
any_depth = one_of class.FOUND_ANYWHERE (codes "template select head") refl refl

pub void : is class.VOID ≡ is_void
void = among class.VOID void_names refl refl

pub at_once : is class.CLOSED_AT_ONCE ≡ is_among closed_at_once
at_once = among class.CLOSED_AT_ONCE closed_at_once refl refl

pub feed_dropper : is class.FEED_DROPPER ≡ is_among feed_droppers
feed_dropper = among class.FEED_DROPPER feed_droppers refl refl

pub special : is class.SPECIAL ≡ is_special
special = among class.SPECIAL special_names refl refl

pub scope : is class.SCOPE ≡ is_scope
scope = among class.SCOPE scope_bounds refl refl

pub paragraph_end : is class.PARAGRAPH_END ≡ is_among paragraph_ends
paragraph_end = among class.PARAGRAPH_END paragraph_ends refl refl

pub scoped_end : is class.SCOPED_END ≡ is_among scoped_ends
scoped_end = among class.SCOPED_END scoped_ends refl refl

pub heading : is class.HEADING ≡ is_heading
heading = among class.HEADING headings refl refl

pub implied : is class.IMPLIED_END ≡ is_implied
implied = among class.IMPLIED_END implied_ends refl refl

pub table_part : is class.TABLE_PART ≡ is_among table_parts
table_part = among class.TABLE_PART table_parts refl refl

pub table_scope : is class.TABLE_SCOPE ≡ is_among table_scope_bounds
table_scope = among class.TABLE_SCOPE table_scope_bounds refl refl

pub head_part : is class.HEAD_PART ≡ is_among head_parts
head_part = among class.HEAD_PART head_parts refl refl

pub table_bound : is class.TABLE_BOUND ≡ is_table_bound
table_bound = one_of class.TABLE_BOUND (codes "table template") refl refl

pub button_scope : is class.BUTTON_SCOPE ≡ is_button_scope
button_scope = agreed class.BUTTON_SCOPE is_button_scope (either is_scope (is_one_of (codes "button")) (listed scope_bounds refl) (one (codes "button") refl)) refl

pub list_scope : is class.LIST_SCOPE ≡ is_list_scope
list_scope = agreed class.LIST_SCOPE is_list_scope (either is_scope (is_among list_scope_bounds) (listed scope_bounds refl) (listed list_scope_bounds refl)) refl

pub item_bound : is class.ITEM_BOUND ≡ is_item_bound
item_bound = agreed class.ITEM_BOUND is_item_bound (but is_special (is_one_of (codes "address div p")) (listed special_names refl)) refl

pub text_end : is class.TEXT_END ≡ (λ name. is_implied name && not (is_one_of (codes "rtc") name))
text_end = agreed class.TEXT_END (λ name. is_implied name && not (is_one_of (codes "rtc") name)) (but is_implied (is_one_of (codes "rtc")) (listed implied_ends refl)) refl

pub row_bound : is class.ROW_BOUND ≡ (λ name. is_section name || is_table_bound name)
row_bound = agreed class.ROW_BOUND (λ name. is_section name || is_table_bound name) (either is_section is_table_bound (listed table_sections refl) (one (codes "table template") refl)) refl

abbrev is_cell_row_bound : List ℕ → Bool
is_cell_row_bound name = is_section name || is_table_bound name || is_one_of (codes "tr") name

pub in_row_bound : is class.IN_ROW_BOUND ≡ is_cell_row_bound
in_row_bound =
    agreed class.IN_ROW_BOUND is_cell_row_bound
    (either (λ name. is_section name || is_table_bound name) (is_one_of (codes "tr")) (either is_section is_table_bound (listed table_sections refl) (one (codes "table template") refl)) (one (codes "tr") refl)) refl

pub column_bound : is class.COLUMN_BOUND ≡ (λ name. is_table_bound name || is_one_of (codes "colgroup") name)
column_bound =
    agreed class.COLUMN_BOUND (λ name. is_table_bound name || is_one_of (codes "colgroup") name) (either is_table_bound (is_one_of (codes "colgroup")) (one (codes "table template") refl) (one (codes "colgroup") refl)) refl

pub raw : is class.RAW ≡ is_raw
raw =
    agreed class.RAW is_raw
    (either (λ name. is_among rcdata_names name || is_among rawtext_names name) (is_one_of (codes "script plaintext"))
    (either (is_among rcdata_names) (is_among rawtext_names) (listed rcdata_names refl) (listed rawtext_names refl)) (one (codes "script plaintext") refl)) refl

pub head_or_part : is class.IN_HEAD ≡ (λ name. is_among head_parts name || is_head name)
head_or_part = agreed class.IN_HEAD (λ name. is_among head_parts name || is_head name) (either (is_among head_parts) is_head (listed head_parts refl) (one (codes "head") refl)) refl

pub table_or_part : is class.TABLE_NAME ≡ (λ name. is_among table_parts name || is_one_of (codes "table") name)
table_or_part =
    agreed class.TABLE_NAME (λ name. is_among table_parts name || is_one_of (codes "table") name) (either (is_among table_parts) (is_one_of (codes "table")) (listed table_parts refl) (one (codes "table") refl)) refl

pub unended : is class.NO_END ≡ (λ name. is_void name || is_one_of (codes "html body") name)
unended = agreed class.NO_END (λ name. is_void name || is_one_of (codes "html body") name) (either is_void (is_one_of (codes "html body")) (listed void_names refl) (one (codes "html body") refl)) refl
