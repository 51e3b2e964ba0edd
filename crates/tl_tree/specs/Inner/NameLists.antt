-- Lists of names that rules ask for, as texts with a space between two names.
use Rattle.std.specs.Prelude.{List, codes, ℕ}
use Rattle.tl_tree.specs.declared.names.Names.{Names}
use Rattle.tl_tree.specs.declared.names.Names.TheVariants as N

abbrev pub list_of : Names → List ℕ
list_of N.Body = codes "body"
list_of N.Button = codes "button"
list_of N.Caption = codes "caption"
list_of N.Colgroup = codes "colgroup"
list_of N.Dd = codes "dd"
list_of N.Dt = codes "dt"
list_of N.Form = codes "form"
list_of N.Frameset = codes "frameset"
list_of N.Head = codes "head"
list_of N.Li = codes "li"
list_of N.Optgroup = codes "optgroup"
list_of N.Option = codes "option"
list_of N.Paragraph = codes "p"
list_of N.Rtc = codes "rtc"
list_of N.Ruby = codes "ruby"
list_of N.Select = codes "select"
list_of N.Table = codes "table"
list_of N.Template = codes "template"
list_of N.Row = codes "tr"
list_of N.Cells = codes "td th"
list_of N.Headings = codes "h1 h2 h3 h4 h5 h6"
list_of N.Lists = codes "ol ul"
list_of N.FosterTargets = codes "table tbody tfoot thead tr"
list_of N.Sections = codes "tbody tfoot thead"
list_of N.TableScope = codes "html table template"
list_of N.TableContext = codes "table template html"
list_of N.BodyContext = codes "tbody tfoot thead template html"
list_of N.RowContext = codes "tr template html"
