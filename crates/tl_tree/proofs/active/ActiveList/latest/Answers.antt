use Rattle.std.proofs.Common.{ap, arith, suc, sym, take, ◌-◌, ◌∙◌, ◌∷◌}
use Rattle.std.proofs.lemmas.List.{take_all}
use Rattle.tl_tree.proofs.Actives.{seen-latest, seen-none}
use Rattle.tl_tree.specs.Inner.Active.{entry_of, seen}
use Rattle.tl_tree.specs.Inner.AtRest.{latest_of}
use Rattle.tl_tree.specs.declared.active_entry.Entry.{Entry}
use Rattle.tl_tree.proofs.active.ActiveList.latest.Goals as goal

pub returns-then-count-eq0 : goal.returns-then-count-eq0
returns-then-count-eq0 c s =
    let xs = c.args.self.now.entries.items in
    let own = c.args.self.now.entries.ok.0 in
    let none = c.if-count-eq0.true in
    sym (ap (λ rest. latest_of (seen s rest)) (sym (take_all 0 xs (omega arith))) ∙ ap latest_of (seen-none s))

pub returns-in-Marker : goal.returns-in-Marker
returns-in-Marker c s =
    let xs = c.args.self.now.entries.items in
    let own = c.args.self.now.entries.ok.0 in
    let some = c.if-count-eq0.false in
    let n = c.len-count.result - 1 in
    sym (ap (λ rest. latest_of (seen s rest)) (sym (take_all (suc n) xs (omega arith)))
    ∙ ap latest_of (seen-latest s xs n c.index.result.now (omega arith) c.index.ensures)
    ∙ ap (λ (e : Entry). latest_of (entry_of s e ∷ seen s (take n xs))) c.in-Marker.is)

pub returns-in-Formatting : goal.returns-in-Formatting
returns-in-Formatting c s =
    let xs = c.args.self.now.entries.items in
    let own = c.args.self.now.entries.ok.0 in
    let some = c.if-count-eq0.false in
    let n = c.len-count.result - 1 in
    sym (ap (λ rest. latest_of (seen s rest)) (sym (take_all (suc n) xs (omega arith)))
    ∙ ap latest_of (seen-latest s xs n c.index.result.now (omega arith) c.index.ensures)
    ∙ ap (λ (e : Entry). latest_of (entry_of s e ∷ seen s (take n xs))) c.in-Formatting.is)
