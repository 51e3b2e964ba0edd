use Rattle.std.proofs.Common.{arith, ap, length, ◌∙◌}
use Rattle.tl_tree.proofs.PendingBytes.{characters-done, characters-step, pending-same}
use Rattle.tl_tree.specs.Inner.Builders.{builder_of}
use Rattle.tl_tree.proofs.builder.Builder.pending_characters.Goals as goal

pub loop-index-smaller : goal.loop-index-smaller
loop-index-smaller c =
    let same = ap length c.loop-index.invariant.pending in
    let test = c.loop-index-test.true in
    let many = c.len.ensures in
    omega arith

pub loop-index-preserved : goal.loop-index-preserved
loop-index-preserved c =
    let bytes = c.args.self.now.pending.items in
    let same = ap length c.loop-index.invariant.pending in
    let test = c.loop-index-test.true in
    let many = c.len.ensures in
    record {
      within = omega arith;
      pending = pending-same c.loop-index.self c.body_character.new.self c.index-byte.result.now c.in_ok-body_character.ensures.ok ∙ c.loop-index.invariant.pending;
      rest = characters-step c.loop-index.self.pending.items bytes c.loop-index.index c.index-byte.result.now (builder_of c.loop-index.self) (builder_of c.body_character.new.self) c.loop-index.invariant.pending (omega arith) c.index-byte.ensures c.in_ok-body_character.ensures.ok ∙ c.loop-index.invariant.rest;
      token = c.body_character.ensures.token ∙ c.loop-index.invariant.token;
    }

pub returns-clause-ok : goal.returns-clause-ok
unfolding builder_of
returns-clause-ok c =
    let test = c.loop-index-test.false in
    let many = c.len.ensures in
    let same = ap length c.loop-index.invariant.pending in
    characters-done c.args.self.now.pending.items c.loop-index.index (builder_of c.loop-index.self) (builder_of c.args.self.now) (omega arith) c.loop-index.invariant.rest
