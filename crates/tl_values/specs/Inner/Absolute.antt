-- Where the links of an attribute stand.
use Rattle.tl_tree_extract.specs.Links.{Link}
use Rattle.tl_tree_extract.specs.Spans.{Part}

abbrev pub part_of : Link → Part
part_of l = l.part
