use Rattle.std.proofs.Common.{List, ap, ap₂, append-nil, sym, ◌++◌, ◌∙◌, ℕ}
use Rattle.std.proofs.lemmas.Result.{IfOk-equal, on_ok_weaker}
use Rattle.tl_tree.specs.TreeView.{rows_in}
use Rattle.tl_tree_safe.proofs.WalkRows.{others_behind, others_write_nothing}
use Rattle.tl_tree_safe.specs.Inner.Walk.{Spot, behind_element, end_or_none, fate_written, spot_of, start_at}
use Rattle.tl_tree_safe.specs.Policies.{listed_words}
use Rattle.tl_tree_safe.specs.declared.fate.Fate.{Fate}
use Rattle.tl_tree_safe.proofs.writer.Writer.put_element.Goals as goal

pub returns-in_default-clause-text : goal.returns-in_default-clause-text
returns-in_default-clause-text c =
    let o : List ℕ = c.args.out.now.items in
    let start : List ℕ = start_at (listed_words c.args.known.now.lists) (rows_in c.args.tree.now) c.args.number in
    sym (append-nil o) ∙ ap (λ x. o ++ x) (sym (others_write_nothing c.args.fate c.in_default.not-Stays start))

pub returns-in_default-clause-spot : goal.returns-in_default-clause-spot
returns-in_default-clause-spot c =
    sym (others_behind c.args.fate c.in_default.not-Stays c.args.number (end_or_none (rows_in c.args.tree.now) c.args.number) (spot_of c.args.self.now))

pub returns-clause-text : goal.returns-clause-text
returns-clause-text c =
    let o : List ℕ = c.args.out.now.items in
    let start : List ℕ = start_at (listed_words c.args.known.now.lists) (rows_in c.args.tree.now) c.args.number in
    on_ok_weaker c.stand_behind.result
    (λ _. c.in_ok-write_start.ensures ∙ ap (λ (f : Fate). o ++ fate_written start f) (sym c.in-Stays.is))
    c.stand_behind.ensures

pub returns-clause-spot : goal.returns-clause-spot
returns-clause-spot c =
    let s : Spot = spot_of c.args.self.now in
    IfOk-equal c.stand_behind.result _ _ _ c.stand_behind.ensures
    (ap₂ (λ (end : ℕ) (f : Fate). behind_element c.args.number end f s) c.end_of.ensures (sym c.in-Stays.is))
