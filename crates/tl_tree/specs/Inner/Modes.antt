-- Which insertion mode a mode stands for, in words of `tl_dom_spec`.
use Rattle.tl_dom_spec.specs.Builder as dom
use Rattle.tl_tree.specs.declared.mode.Mode.{Mode}
use Rattle.tl_tree.specs.declared.mode.Mode.TheVariants as own

abbrev pub mode_of : Mode → dom.Mode
mode_of own.Initial = dom.initial
mode_of own.BeforeHtml = dom.before_html
mode_of own.BeforeHead = dom.before_head
mode_of own.InHead = dom.in_head
mode_of own.InHeadNoscript = dom.in_head_noscript
mode_of own.AfterHead = dom.after_head
mode_of own.InBody = dom.in_body
mode_of own.Text = dom.text_mode
mode_of own.InTable = dom.in_table
mode_of own.InTableText = dom.in_table_text
mode_of own.InCaption = dom.in_caption
mode_of own.InColumnGroup = dom.in_column_group
mode_of own.InTableBody = dom.in_table_body
mode_of own.InRow = dom.in_row
mode_of own.InCell = dom.in_cell
mode_of own.InTemplate = dom.in_template
mode_of own.AfterBody = dom.after_body
mode_of own.InFrameset = dom.in_frameset
mode_of own.AfterFrameset = dom.after_frameset
mode_of own.AfterAfterBody = dom.after_after_body
mode_of own.AfterAfterFrameset = dom.after_after_frameset
