use Rattle.std.proofs.Common.{drop, length, ◌-◌, ◌≡◌, ◌≤◌}
use Rattle.tl_dom_spec.specs.Tables.{body_characters}
use Rattle.tl_tree.specs.Inner.Builders.{builder_of, token_of}
use Rattle.tl_tree.proofs.builder.Builder.pending_characters.Given as goal

abbrev pub invariant-loop-index : goal.invariant-loop-index
invariant-loop-index l =
    let bytes = l.fn.self.pending.items in
    record {
      within : l.index ≤ length bytes;
      pending : l.self.pending.items ≡ bytes;
      rest : body_characters (drop l.index bytes) (builder_of l.self) ≡ body_characters bytes (builder_of l.fn.self);
      token : token_of l.self ≡ token_of l.fn.self;
    }

abbrev pub decreases-loop-index : goal.decreases-loop-index
decreases-loop-index l = length l.fn.self.pending.items - l.index
