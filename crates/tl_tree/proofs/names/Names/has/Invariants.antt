use Rattle.std.proofs.Common.{false, nat_eq, take, ◌≡◌}
use Rattle.std.specs.List.{list_any}
use Rattle.tl_names.specs.declared.element_name.ElementName.{ElementName}
use Rattle.tl_tree.proofs.names.Names.has.Given as goal

abbrev pub invariant-loop-own : goal.invariant-loop-own
invariant-loop-own l =
    list_any (λ (own : ElementName). nat_eq l.name.number own.number) (take l.own-index l.own-items) ≡ false
