use Rattle.std.proofs.Common.{◌≡◌, ◌++◌, ℕ, ◌+◌, Bool, List, drop, take, ap, ap₂, sym, ◌∙◌}
use Rattle.tl_html_spec.specs.Unescaped.{or_itself, reference, unescaped}
use Rattle.tl_text.proofs.Plain.{reference_found, reference_none}
use Rattle.tl_text.proofs.unescape.unescape.Goals as goal

pub loop-at-preserved : goal.loop-at-preserved
loop-at-preserved c =
    let v : Bool = c.args.in_value in
    let o : List ℕ = c.loop-at.out.items in
    let s : List ℕ = c.loop-at.rest.now in
    let k : ℕ = c.in-Some.at in
    let a : List ℕ = c.bytes_after-after.result.now in
    let b : c.write_bytes.new.out.items ≡ o ++ take k s = c.in_ok-write_bytes.ensures ∙ ap (λ x. o ++ x) c.bytes_before.ensures in
    c.loop-at.invariant
    ∙ reference_found v o s k c.in-Some.ensures
    ∙ ap (λ t. ((o ++ take k s) ++ (or_itself (reference v t)).gives) ++ unescaped v (drop (or_itself (reference v t)).takes t)) (sym c.bytes_after-after.ensures)
    ∙ ap₂ (λ x y. x ++ unescaped v y)
    (sym (c.in_ok-takes.ensures.gives ∙ ap (λ x. x ++ (or_itself (reference v a)).gives) b))
    (sym (c.bytes_after-rest.ensures ∙ ap (λ n. drop n a) c.in_ok-takes.ensures.takes))

pub returns : goal.returns
returns c =
    let o : List ℕ = c.loop-at.out.items in
    c.in_ok-write_bytes-2.ensures ∙ ap (λ x. o ++ x) (sym (reference_none c.args.in_value c.loop-at.rest.now c.in_default.ensures)) ∙ sym c.loop-at.invariant
