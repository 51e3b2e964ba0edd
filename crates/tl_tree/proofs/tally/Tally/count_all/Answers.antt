use Rattle.std.proofs.Common.{subst, sym, take, ◌+◌, ◌∷◌}
use Rattle.tl_tree.proofs.Tallies.{tallied-next, tallied-to_marked}
use Rattle.tl_tree.specs.Inner.Tallied.{AreTallied}
use Rattle.tl_tree.specs.declared.active_entry.Entry.{Entry}
use Rattle.tl_tree.specs.declared.active_entry.Entry.TheVariants.{Marker}
use Rattle.tl_tree.specs.declared.tally.Tally.{Tally}
use Rattle.tl_tree.proofs.tally.Tally.count_all.Goals.{in-Formatting, in-Marker}
use Rattle.tl_tree.proofs.tally.Tally.count_all.Goals as goal

pub loop-entry-preserved : goal.loop-entry-preserved
loop-entry-preserved c =
    let s = c.args.store.now in
    let key = c.args.key in
    let xs = c.args.entries.now in
    let i = c.loop-entry.entry-index in
    let next : Tally → Type 0 = λ t. AreTallied s key t.counts.items (take (i + 1) xs) in
    elim c.match-entry.branch [
      | in-Formatting w ↦ subst next (sym w.self-is)
          (tallied-next s key w.add.new.self.counts.items xs i Marker c.loop-entry-test.true
          (subst (λ (e : Entry). AreTallied s key w.add.new.self.counts.items (e ∷ take i xs)) (sym w.in-Formatting.is)
          (w.add.ensures (take i xs) w.in-Formatting.number c.loop-entry.invariant)))
      | in-Marker w ↦ subst next (sym w.self-is)
          (tallied-next s key c.loop-entry.self.counts.items xs i Marker c.loop-entry-test.true
          (subst (λ (e : Entry). AreTallied s key c.loop-entry.self.counts.items (e ∷ take i xs)) (sym w.in-Marker.is)
          (tallied-to_marked s key c.loop-entry.self.counts.items (take i xs) c.loop-entry.invariant)))
    ]
