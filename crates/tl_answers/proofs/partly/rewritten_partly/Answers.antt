use Rattle.std.proofs.Common.{rules, Err, List, subst, ℕ, ◌≡◌}
use Rattle.tl_answers.proofs.Rest.{tag_rest}
use Rattle.tl_answers.specs.Partly.{IsChangesRefusal, rewritten_each}
use Rattle.tl_patch_select.specs.Nodes.{AreNodesPatched}
use Rattle.tl_answers.proofs.partly.rewritten_partly.Goals as goal

pub returns-clause-done : goal.returns-clause-done
returns-clause-done c =
    let patched = c.in_ok-patched.patched in
    subst (λ (ns : List ℕ). AreNodesPatched (rewritten_each c.args.rewrite.now c.args.key.now c.args.tree.now ns) c.args.tree.now c.args.page.now patched.bytes.items patched.places.items)
    c.as_slice.ensures.value c.in_ok-patched.ensures.done

pub returns-clause-left : goal.returns-clause-left
returns-clause-left c = record { put_in = c.in_ok-left.ensures.untagged; tagged = c.in_ok-left.ensures.tagged }

pub returns-in_err-patched-clause-told : goal.returns-in_err-patched-clause-told
returns-in_err-patched-clause-told c =
    let tree = c.args.tree.now in
    let page : List ℕ = c.args.page.now in
    let why = c.in_err-patched.field-0.0 in
    let left = c.in_ok-left.left in
    let is : c.from_residual-in_err-patched.result ≡ Err why = search rules in
    rw is (tag_rest (rewritten_each c.args.rewrite.now c.args.key.now tree) tree page c.args.numbers.now why (record {
      left = left.numbers.items;
      out = left.left_out;
      tagged = c.in_ok-left.ensures.tagged;
      reason = subst (λ (ns : List ℕ). IsChangesRefusal (rewritten_each c.args.rewrite.now c.args.key.now tree ns) tree page why) c.as_slice.ensures.value c.in_err-patched.ensures.told;
    }))
