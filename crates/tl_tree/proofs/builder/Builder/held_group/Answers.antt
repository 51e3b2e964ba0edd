use Rattle.std.proofs.Common.{length}
use Rattle.std.proofs.lemmas.Bool.{lt-ltb}
use Rattle.tl_tree.specs.Inner.Builders.{token_of}
use Rattle.tl_tree.proofs.builder.Builder.held_group.Goals as goal

pub tag_group-requires : goal.tag_group-requires
tag_group-requires c =
    let b = c.args.self.now in
    lt-ltb b.tag (length b.path.store.tags.items) b.known.own

pub returns : goal.returns
unfolding token_of
returns c = c.tag_group.ensures
