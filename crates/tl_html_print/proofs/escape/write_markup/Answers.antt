use Rattle.std.proofs.Common.{rules, List, ap, ap₂, append_assoc, false, sym, ◌++◌, ◌∙◌, ◌≡◌, ℕ}
use Rattle.std.specs.Prelude.{flat_map}
use Rattle.std.proofs.lemmas.Result.{IfOk-equal}
use Rattle.tl_html_print.proofs.Escapes.{markup_found, markup_none}
use Rattle.tl_html_print.specs.Serialized.{escape}
use Rattle.tl_html_print.proofs.escape.write_markup.Goals as goal

pub loop-at-preserved : goal.loop-at-preserved
loop-at-preserved c =
    let o : List ℕ = c.loop-at.out.items in
    let own = flat_map (escape false) in
    let plain : List ℕ = c.extend_from_slice.new.self.items in
    c.loop-at.invariant
    ∙ markup_found o c.loop-at.rest.now c.in-Some.at c.in-Some.ensures
    ∙ ap₂ (λ x y. x ++ own y) (sym (c.in_ok-extend_from_slice.ensures.items ∙ ap (λ x. o ++ x) c.split_at.ensures.front)) (sym c.split_at.ensures.back)
    ∙ ap (λ x. plain ++ x) c.split_byte.ensures.written
    ∙ sym (append_assoc plain c.split_byte.result.0.now (own c.split_byte.result.1.now))
    ∙ ap (λ x. x ++ own c.split_byte.result.1.now) (sym c.in_ok-extend_from_slice-2.ensures.items)

pub returns : goal.returns
returns c =
    let o : List ℕ = c.loop-at.out.items in
    let last : flat_map (escape false) c.loop-at.rest.now ≡ c.loop-at.rest.now = markup_none c.loop-at.rest.now c.in_default.ensures in
    IfOk-equal c.extend_from_slice-2.result _ _ _ (search rules) (ap (λ x. o ++ x) (sym last) ∙ sym c.loop-at.invariant)
