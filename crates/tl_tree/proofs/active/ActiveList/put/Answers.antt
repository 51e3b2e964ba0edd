use Rattle.std.proofs.Common.{IsTrue, List, arith, length, subst, sym, ◌∙◌}
use Rattle.std.proofs.lemmas.Bool.{lt-ltb}
use Rattle.std.specs.List.{list_all}
use Rattle.tl_tree.proofs.ActiveNumbers.{inserted-distinct, inserted-within}
use Rattle.tl_tree.proofs.Tallies.{known-inserted, tallied-inserted}
use Rattle.tl_tree.specs.Inner.ActiveWithin.{are_distinct, entry_is_within}
use Rattle.tl_tree.specs.Inner.Tallied.{AreTallied, is_known}
use Rattle.tl_tree.specs.declared.active_entry.Entry.{Entry}
use Rattle.tl_tree.specs.declared.active_entry.Entry.TheVariants.{Formatting}
use Rattle.tl_tree.specs.declared.look.Key.TheVariants.{Look, Name}
use Rattle.tl_tree.proofs.active.ActiveList.put.Goals as goal

pub invariant_of-self-2 : goal.invariant_of-self-2
invariant_of-self-2 c =
    let a = c.args.self.now in
    let xs = a.entries.items in
    let test = entry_is_within c.args.number c.max-self.result in
    let new = c.requires.number in
    let greatest = c.max-self.ensures in
    record {
      within = subst (λ (ys : List Entry). IsTrue (list_all test ys)) (sym c.in_ok-insert.ensures.items) (inserted-within a.greatest_number a.greatest_tag c.args.number c.args.tag c.args.place xs c.args.number c.max-self.result (omega arith) (omega arith) (omega arith) (omega arith) a.within);
      distinct = subst (λ (ys : List Entry). IsTrue (are_distinct ys)) (sym c.in_ok-insert.ensures.items) (inserted-distinct a.greatest_number a.greatest_tag c.args.number c.args.tag c.args.place xs new a.within a.distinct);
    }

pub add-requires : goal.add-requires
add-requires c = lt-ltb c.args.tag (length c.args.path.now.store.tags.items) c.requires.own

pub add-requires-2 : goal.add-requires-2
add-requires-2 c = lt-ltb c.args.tag (length c.args.path.now.store.tags.items) c.requires.own

pub recount-requires : goal.recount-requires
recount-requires c =
    let a = c.args.self.now in
    let s = c.args.path.now.store in
    subst (λ (ys : List Entry). IsTrue (list_all (is_known s) ys)) (sym (c.deref.ensures.value ∙ c.in_ok-insert.ensures.items))
    (known-inserted s a.greatest_number a.greatest_tag c.requires.listed a.entries.items a.within c.args.place c.args.number c.args.tag c.requires.own)

pub recount-requires-2 : goal.recount-requires-2
recount-requires-2 c =
    let a = c.args.self.now in
    let s = c.args.path.now.store in
    subst (λ (ys : List Entry). IsTrue (list_all (is_known s) ys)) (sym (c.deref-2.ensures.value ∙ c.in_ok-insert.ensures.items))
    (known-inserted s a.greatest_number a.greatest_tag c.requires.listed a.entries.items a.within c.args.place c.args.number c.args.tag c.requires.own)

pub returns-clause-tallied : goal.returns-clause-tallied
returns-clause-tallied c = λ old.
    let a = c.args.self.now in
    let s = c.args.path.now.store in
    let xs = a.entries.items in
    let e = Formatting c.args.number c.args.tag in
    record {
      looks =
          subst (λ (ys : List Entry). AreTallied s Look c.recount.new.self.counts.items ys) c.deref.ensures.value
          (c.recount.ensures (subst (λ (ys : List Entry). AreTallied s Look c.add.new.self.counts.items ys) (sym (c.deref.ensures.value ∙ c.in_ok-insert.ensures.items)) (tallied-inserted s Look c.add.new.self.counts.items xs c.args.place e (c.add.ensures xs c.args.number old.looks))));
      names =
          subst (λ (ys : List Entry). AreTallied s Name c.recount-2.new.self.counts.items ys) c.deref-2.ensures.value
          (c.recount-2.ensures (subst (λ (ys : List Entry). AreTallied s Name c.add-2.new.self.counts.items ys) (sym (c.deref-2.ensures.value ∙ c.in_ok-insert.ensures.items)) (tallied-inserted s Name c.add-2.new.self.counts.items xs c.args.place e (c.add-2.ensures xs c.args.number old.names))));
    }
