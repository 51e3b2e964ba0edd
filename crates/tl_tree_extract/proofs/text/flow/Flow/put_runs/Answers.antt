use Rattle.std.proofs.Common.{Bool, List, ap, append_assoc, arith, sym, ℕ, get_or, take, drop, length, ◌+◌, ◌-◌, ◌++◌, ◌∙◌, ◌≡◌, ◌≤◌}
use Rattle.std.proofs.lemmas.List.Sums.{prefix_len-le-length}
use Rattle.tl_tree_extract.proofs.Flows.{mark-ends, text-done, text-more}
use Rattle.tl_tree_extract.specs.Flowing.{item_of, item_written, text_items, written}
use Rattle.tl_tree_extract.specs.Inner.Runs.{is_plain, run_written}
use Rattle.tl_tree_extract.specs.declared.text.flow.Flow.{Flow}
use Rattle.tl_tree_extract.proofs.text.flow.Flow.put_runs.Goals as goal

pub split_at-requires : goal.split_at-requires
split_at-requires c =
    let most = prefix_len-le-length (is_plain c.args.is_kept) c.loop-flow.rest.now in
    let is = c.plain_len.ensures in
    omega (arith, most, is)

pub returns-in_default-clause-text : goal.returns-in_default-clause-text
returns-in_default-clause-text c =
    let o : List ℕ = c.loop-flow.out.items in
    let done = text-done c.args.is_kept c.loop-flow.flow c.loop-flow.rest.now c.plain_len.result c.split_at.result.0.now c.split_at.result.1.now c.plain_len.ensures c.split_at.ensures.front c.split_at.ensures.back c.in_default.len_below in
    c.in_ok-flow.ensures.text ∙ ap (λ x. o ++ x) (sym done.0) ∙ sym c.loop-flow.invariant.text

pub returns-in_default-clause-flow : goal.returns-in_default-clause-flow
returns-in_default-clause-flow c =
    let done = text-done c.args.is_kept c.loop-flow.flow c.loop-flow.rest.now c.plain_len.result c.split_at.result.0.now c.split_at.result.1.now c.plain_len.ensures c.split_at.ensures.front c.split_at.ensures.back c.in_default.len_below in
    c.in_ok-flow.ensures.flow ∙ sym done.1 ∙ sym c.loop-flow.invariant.flow

pub put_mark-requires : goal.put_mark-requires
put_mark-requires c =
    mark-ends c.args.is_kept c.loop-flow.rest.now c.plain_len.result c.split_at.result.1.now c.plain_len.ensures c.split_at.ensures.back c.in-len1-up.len_at_least

regroup : (o a b c : List ℕ) → o ++ (a ++ (b ++ c)) ≡ ((o ++ a) ++ b) ++ c
regroup o a b c = sym (append_assoc (o ++ a) b c ∙ append_assoc o a (b ++ c))

pub loop-flow-preserved : goal.loop-flow-preserved
loop-flow-preserved c =
    let k : Bool = c.args.is_kept in
    let o : List ℕ = c.loop-flow.out.items in
    let f : Flow = c.loop-flow.flow in
    let g : Flow = c.in_ok-flow.flow in
    let h : Flow = c.in_ok-flow-2.flow in
    let run : List ℕ = c.split_at.result.0.now in
    let marked : List ℕ = c.split_at.result.1.now in
    let behind : List ℕ = take (length marked - 1) (drop 1 marked) in
    let more = text-more k f g h c.loop-flow.rest.now c.plain_len.result run marked c.plain_len.ensures c.split_at.ensures.front c.split_at.ensures.back c.in-len1-up.len_at_least c.in_ok-flow.ensures.flow c.in_ok-flow-2.ensures.flow in
    record {
      text = c.loop-flow.invariant.text
          ∙ ap (λ x. o ++ x) more.0
          ∙ regroup o (run_written f run) (item_written g (item_of k (get_or marked 0 0))) (written h (text_items k behind))
          ∙ ap (λ x. (x ++ item_written g (item_of k (get_or marked 0 0))) ++ written h (text_items k behind)) (sym c.in_ok-flow.ensures.text)
          ∙ ap (λ x. x ++ written h (text_items k behind)) (sym c.in_ok-flow-2.ensures.text);
      flow = c.loop-flow.invariant.flow ∙ more.1;
    }
