use Rattle.std.proofs.Common.{length, ◌≡◌}
use Rattle.tl_dom_spec.specs.Formatting.{reconstruct_formatting}
use Rattle.tl_tree.specs.Inner.Builders.{builder_of, token_of}
use Rattle.tl_tree.specs.Inner.Reopening.{rest_reopened}
use Rattle.tl_tree.proofs.builder.Builder.reconstruct_formatting.Given as goal

abbrev pub invariant-loop-place : goal.invariant-loop-place
invariant-loop-place l =
    record {
      rest : rest_reopened l.self l.place ≡ reconstruct_formatting (builder_of l.fn.self);
      len : length l.self.active.entries.items ≡ length l.fn.self.active.entries.items;
      token : token_of l.self ≡ token_of l.fn.self;
    }
