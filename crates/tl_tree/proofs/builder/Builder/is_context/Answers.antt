use Rattle.std.proofs.Common.{Option, ap, sym, ◌∙◌, ℕ}
use Rattle.std.specs.Option.{option_map}
use Rattle.tl_dom_spec.specs.Builder.{is_context}
use Rattle.tl_tree.specs.Inner.Builders.{builder_of}
use Rattle.tl_tree.specs.Inner.Store.{tag_at}
use Rattle.tl_tree.specs.Inner.Tests.{tag_test_of}
use Rattle.tl_tree.proofs.builder.Builder.is_context.Goals as goal

pub returns-in-Some : goal.returns-in-Some
unfolding builder_of
returns-in-Some c =
    c.passes.ensures
    ∙ sym (ap (λ (own : Option ℕ). is_context (tag_test_of c.args.test) (option_map (tag_at c.args.self.now.path.store) own)) c.in-Some.is)

pub returns-in-None : goal.returns-in-None
unfolding builder_of
returns-in-None c =
    sym (ap (λ (own : Option ℕ). is_context (tag_test_of c.args.test) (option_map (tag_at c.args.self.now.path.store) own)) c.in-None.is)
