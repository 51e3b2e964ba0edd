use Rattle.tl_patch_select.proofs.Sources.{all_in_order, each_in_order}
use Rattle.tl_patch_select.proofs.whole.in_order.Goals as goal

pub returns-clause-each : goal.returns-clause-each
returns-clause-each c = λ one h. each_in_order c.args.elements.now c.in_ok-all.all.items c.sort.new.all.items c.in_ok-all.ensures c.sort.ensures.same one h

pub returns-clause-all : goal.returns-clause-all
returns-clause-all c = λ stretch h. all_in_order c.args.elements.now c.in_ok-all.all.items c.sort.new.all.items c.in_ok-all.ensures c.sort.ensures.same stretch h
