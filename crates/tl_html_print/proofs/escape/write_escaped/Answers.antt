use Rattle.std.proofs.Common.{List, ap, ap₂, append_assoc, false, sym, ◌++◌, ◌∙◌, ℕ}
use Rattle.std.specs.Prelude.{flat_map}
use Rattle.std.proofs.lemmas.Result.{IfOk-equal}
use Rattle.tl_html_print.proofs.Escapes.{mark_found, mark_none}
use Rattle.tl_html_print.specs.Serialized.{escape, escaped}
use Rattle.tl_html_print.proofs.escape.write_escaped.Goals as goal

pub loop-at-preserved : goal.loop-at-preserved
loop-at-preserved c =
    let o : List ℕ = c.loop-at.out.items in
    let own = escaped c.args.in_attribute in
    let plain : List ℕ = c.write_markup.new.out.items in
    c.loop-at.invariant
    ∙ mark_found c.args.in_attribute o c.loop-at.rest.now c.in-Some.at c.in-Some.ensures
    ∙ ap₂ (λ x y. x ++ own y) (sym (c.in_ok-write_markup.ensures ∙ ap (λ x. o ++ flat_map (escape false) x) c.split_at.ensures.front)) (sym c.split_at.ensures.back)
    ∙ ap (λ x. plain ++ x) c.split_mark.ensures.written
    ∙ sym (append_assoc plain c.split_mark.result.0.now (own c.split_mark.result.1.now))
    ∙ ap (λ x. x ++ own c.split_mark.result.1.now) (sym c.in_ok-extend_from_slice.ensures.items)

pub returns : goal.returns
returns c =
    let o : List ℕ = c.loop-at.out.items in
    let last = mark_none c.args.in_attribute c.loop-at.rest.now c.in_default.ensures in
    IfOk-equal c.write_markup-2.result _ _ _ c.write_markup-2.ensures (ap (λ x. o ++ x) (sym last) ∙ sym c.loop-at.invariant)
