use Rattle.std.proofs.Common.{◌≡◌, ◌/◌, ℕ, suc, List, true, length, length-drop, drop, le_refl, arith, sym, ap, subst, ◌∙◌}
use Rattle.std.specs.List.{prefix_len}
use Rattle.tl_html_spec.specs.References.{first_row, not_zero, rows}
use Rattle.tl_text.specs.Inner.Order.{are_in_order, is_past}
use Rattle.tl_text.proofs.Order.{Passed, behind, passed}
use Rattle.tl_text.proofs.Rows.{row_in}
use Rattle.tl_text.proofs.names.rows_near.Goals as goal

pub loop-width-preserved-then-begins_past : goal.loop-width-preserved-then-begins_past
loop-width-preserved-then-begins_past c =
    let t : List ℕ = c.loop-width.left.now in
    let s : List ℕ = c.args.bytes.now in
    let k : ℕ = c.loop-width.width / 2 in
    let l : List ℕ = c.split_at_byte.result.1.now in
    let is : l ≡ behind k t = c.split_at_byte.ensures.after ∙ ap (λ (x : List ℕ). drop (suc (prefix_len not_zero x)) x) c.bytes_after.ensures in
    let front : is_past (row_in (behind k t)).0 s ≡ true = subst (λ x. is_past (row_in x).0 s ≡ true) is (sym c.begins_past.ensures ∙ c.if-begins_past.true) in
    let p : Passed t (behind k t) s = passed (length t) t s k (le_refl (length t)) c.loop-width.invariant.order front in
    let len : length l ≡ length (behind k t) = ap length is in
    let one = length-drop (suc (prefix_len not_zero (drop k t))) (drop k t) in
    let two = length-drop k t in
    record {
      row = ap (λ x. first_row (rows x) s) is ∙ sym p.row ∙ c.loop-width.invariant.row;
      order = ap (λ x. are_in_order (rows x)) is ∙ p.order;
      width = omega arith;
      within = omega arith;
    }
