use Rattle.std.proofs.Common.{List, ap, append-nil, arith, false, sym, ℕ, ◌++◌, ◌∙◌}
use Rattle.std.proofs.lemmas.List.Sums.{prefix_len-le-length}
use Rattle.std.specs.List.{list_all}
use Rattle.std.proofs.lemmas.Result.{IfOk-equal, IfOk-weaker}
use Rattle.tl_tree_extract.proofs.Singles.{empty-words, past-text}
use Rattle.tl_tree_extract.proofs.Spaced.{spaced_text}
use Rattle.tl_tree_extract.specs.Flowing.{after_items, is_white, text_items, written}
use Rattle.tl_tree_extract.specs.declared.text.flow.Flow.{Flow}
use Rattle.tl_tree_extract.proofs.text.flow.Flow.put_spaced.Goals as goal

pub split_at-requires : goal.split_at-requires
split_at-requires c =
    let most = prefix_len-le-length is_white c.args.text.now in
    let is = c.white_len.ensures in
    omega (arith, most, is)

pub returns-then-is_empty-clause-text : goal.returns-then-is_empty-clause-text
returns-then-is_empty-clause-text c =
    let o : List ℕ = c.args.out.now.items in
    let g : Flow = c.past-flow.result in
    let past = past-text c.args.self g c.args.text.now c.split_at.result.0.now c.split_at.result.1.now c.white_len.result c.white_len.ensures c.split_at.ensures.front c.split_at.ensures.back c.past-flow.ensures in
    sym (ap (λ x. o ++ x) (past.0 ∙ ap (λ x. written g (text_items false x)) (empty-words c.split_at.result.1.now c.is_empty.result c.is_empty.ensures c.if-is_empty.true)) ∙ append-nil o)

pub returns-then-is_empty-clause-flow : goal.returns-then-is_empty-clause-flow
returns-then-is_empty-clause-flow c =
    let g : Flow = c.past-flow.result in
    let past = past-text c.args.self g c.args.text.now c.split_at.result.0.now c.split_at.result.1.now c.white_len.result c.white_len.ensures c.split_at.ensures.front c.split_at.ensures.back c.past-flow.ensures in
    sym (past.1 ∙ ap (λ x. after_items g (text_items false x)) (empty-words c.split_at.result.1.now c.is_empty.result c.is_empty.ensures c.if-is_empty.true))

pub returns-then-is_smooth-clause-text : goal.returns-then-is_smooth-clause-text
returns-then-is_smooth-clause-text c =
    let o : List ℕ = c.args.out.now.items in
    let is = c.if-is_smooth.true in
    let all = ap (list_all is_white) c.split_at-2.ensures.back ∙ c.spaceless_len.ensures.space in
    let both = spaced_text c.args.self c.past-flow.result c.in_ok-behind.behind c.args.text.now c.split_at.result.0.now c.split_at.result.1.now c.split_at-2.result.0.now c.split_at-2.result.1.now c.white_len.result c.spaceless_len.result c.white_len.ensures c.split_at.ensures.front c.split_at.ensures.back c.past-flow.ensures c.split_at-2.ensures.front c.split_at-2.ensures.back all (c.is_smooth.ensures.begins is) (c.is_smooth.ensures.ends is) (c.is_smooth.ensures.smooth is) c.in_ok-behind.ensures.flow in
    c.in_ok-behind.ensures.text ∙ ap (λ x. o ++ x) (sym both.0)

pub returns-then-is_smooth-clause-flow : goal.returns-then-is_smooth-clause-flow
returns-then-is_smooth-clause-flow c =
    let is = c.if-is_smooth.true in
    let all = ap (list_all is_white) c.split_at-2.ensures.back ∙ c.spaceless_len.ensures.space in
    let both = spaced_text c.args.self c.past-flow.result c.in_ok-behind.behind c.args.text.now c.split_at.result.0.now c.split_at.result.1.now c.split_at-2.result.0.now c.split_at-2.result.1.now c.white_len.result c.spaceless_len.result c.white_len.ensures c.split_at.ensures.front c.split_at.ensures.back c.past-flow.ensures c.split_at-2.ensures.front c.split_at-2.ensures.back all (c.is_smooth.ensures.begins is) (c.is_smooth.ensures.ends is) (c.is_smooth.ensures.smooth is) c.in_ok-behind.ensures.flow in
    c.past.ensures ∙ sym both.1

pub returns-clause-text : goal.returns-clause-text
returns-clause-text c =
    let o : List ℕ = c.args.out.now.items in
    let past = past-text c.args.self c.past-flow.result c.args.text.now c.split_at.result.0.now c.split_at.result.1.now c.white_len.result c.white_len.ensures c.split_at.ensures.front c.split_at.ensures.back c.past-flow.ensures in
    IfOk-equal c.put_collapsed.result _ _ _ c.put_collapsed.ensures.text (ap (λ x. o ++ x) (sym past.0))

pub returns-clause-flow : goal.returns-clause-flow
returns-clause-flow c =
    let past = past-text c.args.self c.past-flow.result c.args.text.now c.split_at.result.0.now c.split_at.result.1.now c.white_len.result c.white_len.ensures c.split_at.ensures.front c.split_at.ensures.back c.past-flow.ensures in
    IfOk-weaker c.put_collapsed.result _ _ (λ (flow : Flow) h. h ∙ sym past.1) c.put_collapsed.ensures.flow
