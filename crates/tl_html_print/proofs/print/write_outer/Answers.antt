use Rattle.std.proofs.Common.{List, ap, append-nil, sym, ◌++◌, ◌∙◌, ℕ}
use Rattle.std.proofs.lemmas.Result.{IfOk-equal}
use Rattle.tl_html_print.proofs.Located.{outer_found, outer_none}
use Rattle.tl_html_print.specs.Inner.Printed.{printed}
use Rattle.tl_tree.specs.Asked.{end_at}
use Rattle.tl_html_print.proofs.print.write_outer.Goals as goal

pub returns-in_default : goal.returns-in_default
returns-in_default c = λ trees same.
    let n : ℕ = c.args.number in
    let o : List ℕ = c.args.out.now.items in
    sym (append-nil o)
    ∙ ap (λ x. o ++ x) (sym (outer_none c.args.is_scripting trees n (ap (λ R. end_at R n) (sym same) ∙ sym c.end.ensures ∙ c.in_default.is)))

pub returns : goal.returns
returns c = λ trees same.
    let n : ℕ = c.args.number in
    let o : List ℕ = c.args.out.now.items in
    let end : ℕ = c.in-Some.end in
    let s = c.args.is_scripting in
    IfOk-equal c.write_rows.result _ _ _ c.write_rows.ensures
    (ap (λ R. o ++ printed s R n end) same
    ∙ ap (λ x. o ++ x) (outer_found s trees n end (ap (λ R. end_at R n) (sym same) ∙ sym c.end.ensures ∙ c.in-Some.is)))
