-- The adjusted current node.
use Rattle.std.proofs.Common.{ap, cond, ◌≡◌, ◌∙◌, None, Option, Some, true, false, ℕ}
use Rattle.std.specs.Option.{option_map}
use Rattle.tl_dom_spec.specs.Builder as dom
use Rattle.tl_dom_spec.specs.Path.{elements, top}
use Rattle.tl_tree.specs.Inner.Builders.{builder_of}
use Rattle.tl_tree.specs.Inner.Frames.{path_of}
use Rattle.tl_tree.specs.Inner.Store.{tag_at}
use Rattle.tl_tree.specs.declared.builder.Builder.{Builder}

adjusted-in : (b : Builder) (context : Option ℕ) → b.context ≡ context → dom.adjusted_current_node (builder_of b) ≡ dom.adjusted_tag (option_map (tag_at b.path.store) context) (path_of b.path)
unfolding builder_of
adjusted-in b context e =
    ap (λ own. dom.adjusted_tag (option_map (tag_at b.path.store) own) (path_of b.path)) e

pub adjusted-none : (b : Builder) → b.context ≡ None → dom.adjusted_current_node (builder_of b) ≡ (top (path_of b.path)).tag
adjusted-none b e = adjusted-in b None e

pub adjusted-only : (b : Builder) (tag : ℕ) → b.context ≡ Some tag → dom.is_only (elements (path_of b.path)) ≡ true → dom.adjusted_current_node (builder_of b) ≡ tag_at b.path.store tag
adjusted-only b tag e only =
    adjusted-in b (Some tag) e
    ∙ ap (λ is. cond is (tag_at b.path.store tag) (top (path_of b.path)).tag) only

pub adjusted-top : (b : Builder) (tag : ℕ) → b.context ≡ Some tag → dom.is_only (elements (path_of b.path)) ≡ false → dom.adjusted_current_node (builder_of b) ≡ (top (path_of b.path)).tag
adjusted-top b tag e more =
    adjusted-in b (Some tag) e
    ∙ ap (λ is. cond is (tag_at b.path.store tag) (top (path_of b.path)).tag) more
