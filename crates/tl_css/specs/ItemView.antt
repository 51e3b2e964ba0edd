-- What the items and the open lists are that the reader holds.
use Rattle.tl_css.specs.declared.text.item.Item.{Item}
use Rattle.tl_css.specs.declared.text.item.Item.TheVariants as i
use Rattle.tl_css.specs.Item as s
use Rattle.tl_css.specs.SimpleView.{simple}

abbrev pub item : Item → s.Item
item i.End = s.End
item i.Comma = s.Comma
item (i.Part before left own) = s.Part before left (simple own)
