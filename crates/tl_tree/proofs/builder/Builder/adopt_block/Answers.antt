use Rattle.tl_tree.proofs.Built.{known-more, token-kept}
use Rattle.tl_tree.proofs.Rounds.{blocks-adopted, known-adopted}
use Rattle.tl_tree.specs.Inner.Active.{listed_of}
use Rattle.tl_tree.specs.Inner.Builders.{builder_of, token_of}
use Rattle.tl_tree.proofs.builder.Builder.adopt_block.Goals as goal

pub returns-clause-ok : goal.returns-clause-ok
unfolding builder_of
returns-clause-ok c =
    let b = c.args.self.now in
    let q = c.adopt.new.path in
    let list = c.adopt.new.active in
    let own = listed_of b.path.store c.args.own in
    let known = known-adopted b q list c.adopt.ensures.grows c.adopt.ensures.more c.adopt.ensures.numbered c.adopt.ensures.listed c.adopt.ensures.tallied in
    blocks-adopted c.adopt.result b q list known own c.args.block c.adopt.ensures.grows c.adopt.ensures.ok

pub returns-clause-token : goal.returns-clause-token
unfolding token_of
returns-clause-token c =
    let b = c.args.self.now in
    token-kept b c.adopt.new.path (known-more b c.adopt.new.path c.adopt.ensures.grows c.adopt.ensures.more) c.adopt.ensures.grows
