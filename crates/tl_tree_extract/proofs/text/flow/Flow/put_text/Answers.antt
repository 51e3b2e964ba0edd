use Rattle.std.proofs.Common.{Bool, List, ap, sym, ℕ, ◌++◌, ◌∙◌}
use Rattle.std.proofs.lemmas.Result.{IfOk-equal, IfOk-weaker}
use Rattle.tl_tree_extract.proofs.Smooth.{smooth_text}
use Rattle.tl_tree_extract.specs.Flowing.{after_items, text_items, written}
use Rattle.tl_tree_extract.specs.declared.text.flow.Flow.{Flow}
use Rattle.tl_tree_extract.proofs.text.flow.Flow.put_text.Goals as goal

pub returns-then-is_smooth-clause-text : goal.returns-then-is_smooth-clause-text
returns-then-is_smooth-clause-text c =
    let o : List ℕ = c.args.out.now.items in
    let s : List ℕ = c.args.text.now in
    let is = c.if-is_smooth.true in
    let same = smooth_text c.args.self s (c.is_smooth.ensures.begins is) (c.is_smooth.ensures.ends is) (c.is_smooth.ensures.smooth is) in
    let collapsed = ap (λ (k : Bool). written c.args.self (text_items k s)) c.if-is_kept.false in
    IfOk-equal c.put_run.result _ _ _ c.put_run.ensures.text (ap (λ x. o ++ x) (sym (collapsed ∙ same.0)))

pub returns-then-is_smooth-clause-flow : goal.returns-then-is_smooth-clause-flow
returns-then-is_smooth-clause-flow c =
    let s : List ℕ = c.args.text.now in
    let is = c.if-is_smooth.true in
    let same = smooth_text c.args.self s (c.is_smooth.ensures.begins is) (c.is_smooth.ensures.ends is) (c.is_smooth.ensures.smooth is) in
    let collapsed = ap (λ (k : Bool). after_items c.args.self (text_items k s)) c.if-is_kept.false in
    IfOk-weaker c.put_run.result _ _ (λ (flow : Flow) h. h ∙ sym (collapsed ∙ same.1)) c.put_run.ensures.flow
