use Rattle.tl_tree.specs.Inner.Builders.{token_of}
use Rattle.tl_tree.proofs.builder.Builder.insert_element_at.Goals as goal

pub insert_tag_at-requires : goal.insert_tag_at-requires
insert_tag_at-requires c = c.args.self.now.known.own

pub returns-clause-ok : goal.returns-clause-ok
unfolding token_of
returns-clause-ok c = c.insert_tag_at.ensures.ok
