use Rattle.std.proofs.Common.{List, ap, append-nil, append_assoc, arith, false, length, sym, ℕ, ◌++◌, ◌<◌, ◌∙◌, ◌≡◌, ◌≤◌}
use Rattle.std.proofs.lemmas.List.Sums.{prefix_len-le-length}
use Rattle.tl_tree_extract.proofs.Singles.{empty-words, front-begins, past-text, two-parts, word-begins}
use Rattle.tl_tree_extract.specs.Flowing.{after_items, is_white, text_items, written}
use Rattle.tl_tree_extract.specs.declared.text.flow.Flow.{Flow}
use Rattle.tl_tree_extract.proofs.text.flow.Flow.put_collapsed.Goals as goal

pub split_at-requires : goal.split_at-requires
split_at-requires c =
    let most = prefix_len-le-length is_white c.loop-words.rest.now in
    let is = c.white_len.ensures in
    omega (arith, most, is)

pub returns-then-is_empty-clause-text : goal.returns-then-is_empty-clause-text
returns-then-is_empty-clause-text c =
    let o : List ℕ = c.loop-words.out.items in
    let g : Flow = c.past-flow.result in
    let past = past-text c.loop-words.flow g c.loop-words.rest.now c.split_at.result.0.now c.split_at.result.1.now c.white_len.result c.white_len.ensures c.split_at.ensures.front c.split_at.ensures.back c.past-flow.ensures in
    sym (c.loop-words.invariant.text ∙ ap (λ x. o ++ x) (past.0 ∙ ap (λ x. written g (text_items false x)) (empty-words c.split_at.result.1.now c.is_empty.result c.is_empty.ensures c.if-is_empty.true)) ∙ append-nil o)

pub returns-then-is_empty-clause-flow : goal.returns-then-is_empty-clause-flow
returns-then-is_empty-clause-flow c =
    let g : Flow = c.past-flow.result in
    let past = past-text c.loop-words.flow g c.loop-words.rest.now c.split_at.result.0.now c.split_at.result.1.now c.white_len.result c.white_len.ensures c.split_at.ensures.front c.split_at.ensures.back c.past-flow.ensures in
    sym (c.loop-words.invariant.flow ∙ past.1 ∙ ap (λ x. after_items g (text_items false x)) (empty-words c.split_at.result.1.now c.is_empty.result c.is_empty.ensures c.if-is_empty.true))

pub part_len-requires : goal.part_len-requires
part_len-requires c =
    word-begins c.loop-words.rest.now c.split_at.result.1.now c.white_len.result c.white_len.ensures c.split_at.ensures.back c.is_empty.result c.is_empty.ensures c.if-is_empty.false

pub put_part-requires-clause-begins : goal.put_part-requires-clause-begins
put_part-requires-clause-begins c =
    front-begins c.split_at.result.1.now c.split_at-in-loop-words.result.0.now c.part_len.result c.split_at-in-loop-words.ensures.front c.part_len.ensures.some
    (word-begins c.loop-words.rest.now c.split_at.result.1.now c.white_len.result c.white_len.ensures c.split_at.ensures.back c.is_empty.result c.is_empty.ensures c.if-is_empty.false)

pub loop-words-preserved : goal.loop-words-preserved
loop-words-preserved c =
    let o : List ℕ = c.loop-words.out.items in
    let g : Flow = c.past-flow.result in
    let h : Flow = c.in_ok-flow.flow in
    let words : List ℕ = c.split_at.result.1.now in
    let part : List ℕ = c.split_at-in-loop-words.result.0.now in
    let behind : List ℕ = c.split_at-in-loop-words.result.1.now in
    let past = past-text c.loop-words.flow g c.loop-words.rest.now c.split_at.result.0.now words c.white_len.result c.white_len.ensures c.split_at.ensures.front c.split_at.ensures.back c.past-flow.ensures in
    let parts = two-parts g words part behind c.part_len.result c.split_at-in-loop-words.ensures.front c.split_at-in-loop-words.ensures.back in
    record {
      text = c.loop-words.invariant.text
          ∙ ap (λ x. o ++ x) (past.0 ∙ parts.0 ∙ ap (λ (f : Flow). written g (text_items false part) ++ written f (text_items false behind)) (sym c.in_ok-flow.ensures.flow))
          ∙ sym (append_assoc o (written g (text_items false part)) (written h (text_items false behind)))
          ∙ ap (λ x. x ++ written h (text_items false behind)) (sym c.in_ok-flow.ensures.text);
      flow = c.loop-words.invariant.flow ∙ past.1 ∙ parts.1 ∙ ap (λ (f : Flow). after_items f (text_items false behind)) (sym c.in_ok-flow.ensures.flow);
    }
