use Rattle.std.proofs.Common.{List, ap, append-nil, arith, sym, ◌++◌, ◌∙◌, ◌≡◌, []}
use Rattle.std.proofs.lemmas.List.{nil_from_length}
use Rattle.std.proofs.lemmas.Result.{IfOk-equal, on_ok_weaker}
use Rattle.std.specs.Prelude.{reverse}
use Rattle.tl_tree.specs.TreeView.{rows_in}
use Rattle.tl_tree_safe.proofs.OpenElements.{one_more}
use Rattle.tl_tree_safe.specs.Inner.Walk.{innermost_end, outside_one}
use Rattle.tl_tree_safe.specs.declared.writer.Open.{Open}
use Rattle.tl_tree_safe.proofs.writer.Writer.end_innermost.Goals as goal

pub returns-in_default-clause-text : goal.returns-in_default-clause-text
returns-in_default-clause-text c =
    let old : List Open = c.args.self.now.opens.items in
    let none : old ≡ [] = nil_from_length old (omega (arith, c.in_default.ensures.cases.0, c.args.self.now.opens.ok.0)) in
    sym (append-nil c.args.out.now.items) ∙ ap (λ (os : List Open). c.args.out.now.items ++ innermost_end (rows_in c.args.tree.now) (reverse os)) (sym none)

pub returns-clause-text : goal.returns-clause-text
returns-clause-text c =
    let all : List Open = c.args.self.now.opens.items in
    let o : Open = c.in-Some.open in
    IfOk-equal c.write_end.result _ _ _ c.write_end.ensures
    (ap (λ (os : List Open). c.args.out.now.items ++ innermost_end (rows_in c.args.tree.now) os) (sym (ap reverse c.in-Some.ensures.items ∙ one_more c.pop.new.self.items o)))

pub returns-clause-spot : goal.returns-clause-spot
returns-clause-spot c =
    let o : Open = c.in-Some.open in
    on_ok_weaker c.write_end.result
    (λ wrote. ap (outside_one c.args.self.now.level) (sym (ap reverse c.in-Some.ensures.items ∙ one_more c.pop.new.self.items o)))
    c.write_end.ensures
