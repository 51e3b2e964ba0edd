use Rattle.std.proofs.Common.{◌≡◌, false, take}
use Rattle.std.specs.List.{list_any}
use Rattle.tl_tree.specs.Inner.Framed.{is_numbered}
use Rattle.tl_tree.proofs.path.FramePath.find.Given as goal

abbrev pub invariant-loop-index : goal.invariant-loop-index
invariant-loop-index l =
    list_any (is_numbered l.number) (take l.index l.self.frames.items) ≡ false
