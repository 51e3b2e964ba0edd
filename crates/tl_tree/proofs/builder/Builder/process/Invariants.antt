use Rattle.std.proofs.Common.{◌≡◌}
use Rattle.tl_dom_spec.specs.Builder.{Again, repeated}
use Rattle.tl_dom_spec.specs.Dispatcher.{bound, calm, dispatch}
use Rattle.tl_tree.specs.Inner.Builders.{builder_of, token_of, token_view}
use Rattle.tl_tree.proofs.builder.Builder.process.Given as goal

abbrev pub invariant-loop-left : goal.invariant-loop-left
invariant-loop-left l =
    let b = builder_of l.fn.self in
    let token = token_view l.token (token_of l.fn.self) in
    record {
      same : repeated (bound b) (dispatch token) (Again (calm b)) ≡ repeated l.left (dispatch token) (Again (builder_of l.self));
      said : token_of l.self ≡ token_of l.fn.self;
    }

abbrev pub decreases-loop-left : goal.decreases-loop-left
decreases-loop-left l = l.left
