use Rattle.std.proofs.Common.{List, None, ap, false, ◌++◌, ◌∙◌, ℕ}
use Rattle.tl_html_print.specs.Serialized.{serialized}
use Rattle.tl_tree_safe.specs.KeptFitted.{kept_fitted}
use Rattle.tl_tree_safe.specs.OfPolicy.{lists_of}
use Rattle.tl_tree_safe.proofs.fragment.print_kept.Goals as goal

pub returns : goal.returns
returns c = λ trees same.
    c.in_ok-sanitize.ensures trees same
    ∙ ap (λ (x : List ℕ). x ++ serialized false None (kept_fitted (lists_of c.args.policy.now) trees)) c.new-page.ensures.items
