use Rattle.std.proofs.Common.{None, Option, Some, is_some, refl, true, ◌∙◌, ◌≡◌}
use Rattle.std.specs.Option.{option_map}
use Rattle.tl_dom_spec.specs.Builder.{is_context}
use Rattle.tl_dom_spec.specs.Tags.{Tag}
use Rattle.tl_tree.specs.Inner.Builders.{builder_of}
use Rattle.tl_tree.specs.Inner.Store.{tag_at}
use Rattle.tl_tree.proofs.builder.Builder.is_fragment.Goals as goal

is-some : {A : Type 0} (f : A → Tag) (context : Option A) → is_some context ≡ is_context (λ (t : Tag). true) (option_map f context)
is-some f None = refl
is-some f (Some own) = refl

pub returns : goal.returns
unfolding builder_of
returns c =
    let b = c.args.self.now in
    c.is_some.ensures ∙ is-some (tag_at b.path.store) b.context
