-- Which kind of a character a kind stands for, in words of `tl_dom_spec`.
use Rattle.tl_dom_spec.specs.Runs as dom
use Rattle.tl_tree.specs.declared.run_kind.RunKind.{RunKind}
use Rattle.tl_tree.specs.declared.run_kind.RunKind.TheVariants.{Null, Plain, White}

abbrev pub kind_view : RunKind → dom.Kind
kind_view Null = dom.null
kind_view White = dom.white
kind_view Plain = dom.plain
