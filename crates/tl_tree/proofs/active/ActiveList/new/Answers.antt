use Rattle.std.proofs.Common.{List, ap, subst, sym, ◌∙◌}
use Rattle.tl_tree.proofs.Tallies.{tallied-nil}
use Rattle.tl_tree.specs.Inner.Tallied.{AreTallied}
use Rattle.tl_tree.specs.declared.active_entry.Entry.{Entry}
use Rattle.tl_tree.specs.declared.look.Key.TheVariants.{Look, Name}
use Rattle.tl_tree.proofs.Actives.{seen-none}
use Rattle.tl_tree.specs.Inner.Active.{seen}
use Rattle.tl_tree.proofs.active.ActiveList.new.Goals as goal

pub returns-clause-active : goal.returns-clause-active
returns-clause-active c = λ s. ap (seen s) c.new.ensures.items ∙ seen-none s

pub returns-clause-tallied : goal.returns-clause-tallied
returns-clause-tallied c = λ s. record {
  looks = subst (λ (xs : List Entry). AreTallied s Look c.new-2.result.counts.items xs) (sym c.new.ensures.items) (tallied-nil s Look c.new-2.result.counts.items);
  names = subst (λ (xs : List Entry). AreTallied s Name c.new-3.result.counts.items xs) (sym c.new.ensures.items) (tallied-nil s Name c.new-3.result.counts.items);
}
