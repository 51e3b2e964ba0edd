use Rattle.std.proofs.Common.{List, ap, append-nil, sym, ◌++◌, ◌∙◌, ℕ}
use Rattle.std.proofs.lemmas.Result.{IfOk-equal}
use Rattle.tl_html_print.proofs.Located.{inner_found, inner_none, inner_void}
use Rattle.tl_html_print.specs.Inner.Printed.{is_void_at, printed}
use Rattle.tl_tree.specs.Asked.{end_at, first_child_at}
use Rattle.tl_html_print.proofs.print.write_inner.Goals as goal

pub returns-then-is_void : goal.returns-then-is_void
returns-then-is_void c = λ trees same.
    let n : ℕ = c.args.number in
    let o : List ℕ = c.args.out.now.items in
    let void = ap (λ R. is_void_at R n) (sym same) ∙ sym c.is_void.ensures ∙ c.if-is_void.true in
    sym (append-nil o) ∙ ap (λ x. o ++ x) (sym (inner_void c.args.is_scripting trees n void))

pub returns-in_default : goal.returns-in_default
returns-in_default c = λ trees same.
    let n : ℕ = c.args.number in
    let o : List ℕ = c.args.out.now.items in
    let other = ap (λ R. is_void_at R n) (sym same) ∙ sym c.is_void.ensures ∙ c.if-is_void.false in
    sym (append-nil o)
    ∙ ap (λ x. o ++ x) (sym (inner_none c.args.is_scripting trees n other (ap (λ R. first_child_at R n) (sym same) ∙ sym c.first_child.ensures ∙ c.in_default.is)))

pub returns : goal.returns
returns c = λ trees same.
    let n : ℕ = c.args.number in
    let o : List ℕ = c.args.out.now.items in
    let first : ℕ = c.in-Some.first in
    let end : ℕ = c.in-Some-end.end in
    let s = c.args.is_scripting in
    let other = ap (λ R. is_void_at R n) (sym same) ∙ sym c.is_void.ensures ∙ c.if-is_void.false in
    let child = ap (λ R. first_child_at R n) (sym same) ∙ sym c.first_child.ensures ∙ c.in-Some.is in
    let ends = ap (λ R. end_at R n) (sym same) ∙ sym c.end.ensures ∙ c.in-Some-end.is in
    IfOk-equal c.write_rows.result _ _ _ c.write_rows.ensures
    (ap (λ R. o ++ printed s R first end) same ∙ ap (λ x. o ++ x) (inner_found s trees n first end other child ends))
