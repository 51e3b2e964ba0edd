use Rattle.std.proofs.Common.{ap, is_ok, refl, ◌∙◌}
use Rattle.tl_tree.proofs.ActiveNumbers.{marked-pushed}
use Rattle.tl_tree.proofs.Actives.{seen-push}
use Rattle.tl_tree.proofs.Listed.{all-pushed}
use Rattle.tl_tree.specs.Inner.Active.{seen}
use Rattle.tl_tree.specs.Inner.ActiveWithin.{entry_is_within}
use Rattle.tl_tree.proofs.Tallies.{tallied-marked}
use Rattle.tl_tree.specs.declared.active_entry.Entry.TheVariants.{Marker}
use Rattle.tl_tree.specs.declared.look.Key.TheVariants.{Look, Name}
use Rattle.tl_tree.proofs.active.ActiveList.push_marker.Goals as goal

pub invariant_of-self : goal.invariant_of-self
invariant_of-self c =
    let a = c.args.self.now in
    let r = is_ok c.push.result in
    record {
      within = all-pushed (entry_is_within a.greatest_number a.greatest_tag) r a.entries.items c.push.new.self.items Marker c.push.ensures.items a.within refl;
      distinct = marked-pushed r a.entries.items c.push.new.self.items c.push.ensures.items a.distinct;
    }

pub returns-clause-active : goal.returns-clause-active
returns-clause-active c = λ s.
    ap (seen s) c.in_ok-push.ensures.items ∙ seen-push s c.args.self.now.entries.items Marker

pub returns-clause-tallied : goal.returns-clause-tallied
returns-clause-tallied c = λ s old.
    let xs = c.args.self.now.entries.items in
    let r = is_ok c.push.result in
    record {
      looks = tallied-marked s Look c.args.self.now.looks.counts.items r xs c.push.new.self.items c.push.ensures.items old.looks;
      names = tallied-marked s Name c.args.self.now.names.counts.items r xs c.push.new.self.items c.push.ensures.items old.names;
    }
