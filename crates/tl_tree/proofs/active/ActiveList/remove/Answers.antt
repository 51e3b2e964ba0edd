use Rattle.std.proofs.Common.{IsTrue, List, arith, length, subst, sym, ◌∙◌, ◌∷◌}
use Rattle.std.proofs.lemmas.Bool.{lt-ltb}
use Rattle.std.specs.List.{list_all, remove}
use Rattle.tl_tree.proofs.ActiveNumbers.{removed-distinct, removed-within, tag-within}
use Rattle.tl_tree.proofs.Actives.{marker-of}
use Rattle.tl_tree.proofs.Tallies.{taken-at, tallied-taken, tallied-unmarked}
use Rattle.tl_tree.specs.Inner.ActiveWithin.{are_distinct, entry_is_within}
use Rattle.tl_tree.specs.Inner.Tallied.{AreTallied}
use Rattle.tl_tree.specs.declared.active_entry.Entry.{Entry}
use Rattle.tl_tree.specs.declared.active_entry.Entry.TheVariants.{Marker}
use Rattle.tl_tree.specs.declared.look.Key.TheVariants.{Look, Name}
use Rattle.tl_tree.proofs.active.ActiveList.remove.Goals as goal

pub invariant_of-self : goal.invariant_of-self
invariant_of-self c =
    let a = c.args.self.now in
    let test = entry_is_within a.greatest_number a.greatest_tag in
    record {
      within = subst (λ (xs : List Entry). IsTrue (list_all test xs)) (sym c.remove-entry.ensures.items) (removed-within test c.args.place a.entries.items a.within);
      distinct = subst (λ (xs : List Entry). IsTrue (are_distinct xs)) (sym c.remove-entry.ensures.items) (removed-distinct c.args.place a.entries.items c.requires.place a.distinct);
    }

pub invariant_of-self-2 : goal.invariant_of-self-2
invariant_of-self-2 c =
    let a = c.args.self.now in
    let test = entry_is_within a.greatest_number a.greatest_tag in
    record {
      within = subst (λ (xs : List Entry). IsTrue (list_all test xs)) (sym c.remove-entry.ensures.items) (removed-within test c.args.place a.entries.items a.within);
      distinct = subst (λ (xs : List Entry). IsTrue (are_distinct xs)) (sym c.remove-entry.ensures.items) (removed-distinct c.args.place a.entries.items c.requires.place a.distinct);
    }

pub take-requires : goal.take-requires
take-requires c =
    let a = c.args.self.now in
    let e = c.remove-entry.result in
    let here = sym (taken-at a.entries.items c.args.place _ e e c.requires.place c.remove-entry.ensures.value) in
    let low = tag-within a.greatest_number a.greatest_tag c.in-Formatting.number c.in-Formatting.tag a.entries.items c.args.place e c.requires.place here c.in-Formatting.is a.within in
    lt-ltb c.in-Formatting.tag (length c.args.path.now.store.tags.items) (omega (arith, c.requires.listed))

pub take-requires-2 : goal.take-requires-2
take-requires-2 c =
    let a = c.args.self.now in
    let e = c.remove-entry.result in
    let here = sym (taken-at a.entries.items c.args.place _ e e c.requires.place c.remove-entry.ensures.value) in
    let low = tag-within a.greatest_number a.greatest_tag c.in-Formatting.number c.in-Formatting.tag a.entries.items c.args.place e c.requires.place here c.in-Formatting.is a.within in
    lt-ltb c.in-Formatting.tag (length c.args.path.now.store.tags.items) (omega (arith, c.requires.listed))

pub returns-in_default-clause-tallied : goal.returns-in_default-clause-tallied
returns-in_default-clause-tallied c = λ old.
    let a = c.args.self.now in
    let s = c.args.path.now.store in
    let xs = a.entries.items in
    let place = c.args.place in
    let looks = a.looks.counts.items in
    let names = a.names.counts.items in
    let is = taken-at xs place _ c.remove-entry.result Marker c.requires.place c.remove-entry.ensures.value ∙ marker-of c.remove-entry.result c.in_default.not-Formatting in
    record {
      looks =
          subst (λ (ys : List Entry). AreTallied s Look looks ys) (sym c.remove-entry.ensures.items)
          (tallied-unmarked s Look looks (remove xs place)
          (subst (λ (e : Entry). AreTallied s Look looks (e ∷ remove xs place)) is (tallied-taken s Look looks xs place Marker c.requires.place old.looks)));
      names =
          subst (λ (ys : List Entry). AreTallied s Name names ys) (sym c.remove-entry.ensures.items)
          (tallied-unmarked s Name names (remove xs place)
          (subst (λ (e : Entry). AreTallied s Name names (e ∷ remove xs place)) is (tallied-taken s Name names xs place Marker c.requires.place old.names)));
    }

pub returns-clause-tallied : goal.returns-clause-tallied
returns-clause-tallied c = λ old.
    let a = c.args.self.now in
    let s = c.args.path.now.store in
    let xs = a.entries.items in
    let place = c.args.place in
    let is = taken-at xs place _ c.remove-entry.result Marker c.requires.place c.remove-entry.ensures.value ∙ c.in-Formatting.is in
    record {
      looks =
          subst (λ (ys : List Entry). AreTallied s Look c.take.new.self.counts.items ys) (sym c.remove-entry.ensures.items)
          (c.take.ensures (remove xs place) c.in-Formatting.number
          (subst (λ (e : Entry). AreTallied s Look a.looks.counts.items (e ∷ remove xs place)) is (tallied-taken s Look a.looks.counts.items xs place Marker c.requires.place old.looks)));
      names =
          subst (λ (ys : List Entry). AreTallied s Name c.take-2.new.self.counts.items ys) (sym c.remove-entry.ensures.items)
          (c.take-2.ensures (remove xs place) c.in-Formatting.number
          (subst (λ (e : Entry). AreTallied s Name a.names.counts.items (e ∷ remove xs place)) is (tallied-taken s Name a.names.counts.items xs place Marker c.requires.place old.names)));
    }
