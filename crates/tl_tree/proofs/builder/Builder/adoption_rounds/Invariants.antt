use Rattle.std.proofs.Common.{◌≡◌}
use Rattle.tl_tree.specs.Inner.Builders.{builder_of, token_of}
use Rattle.tl_tree.specs.Inner.Rounds.{rounds}
use Rattle.tl_tree.proofs.builder.Builder.adoption_rounds.Given as goal

abbrev pub invariant-loop-left : goal.invariant-loop-left
invariant-loop-left l =
    record {
      ok : rounds l.left l.name (builder_of l.self) ≡ rounds 8 l.name (builder_of l.fn.self);
      token : token_of l.self ≡ token_of l.fn.self;
    }

abbrev pub decreases-loop-left : goal.decreases-loop-left
decreases-loop-left l = l.left
