use Rattle.tl_tree.proofs.Contexts.{fragment-begins}
use Rattle.tl_tree.specs.Contexts.{context_of}
use Rattle.tl_tree.specs.Inner.Builders.{builder_of, flags_of}
use Rattle.tl_tree.proofs.builder.Builder.for_fragment.Goals as goal

pub returns-clause-start : goal.returns-clause-start
returns-clause-start c =
    fragment-begins (flags_of c.args.flags) (context_of c.args.context) (builder_of c.in_ok-builder.builder) (builder_of c.stand_in.new.self)
    c.in_ok-builder.ensures.start c.in_ok-stand_in.ensures.ok
