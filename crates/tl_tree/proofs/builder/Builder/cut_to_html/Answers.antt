use Rattle.std.proofs.Common.{subst, sym, ◌≡◌}
use Rattle.tl_dom_spec.specs.Body.{from_html}
use Rattle.tl_tree.proofs.Built.{known-kept, path-changed, token-kept}
use Rattle.tl_tree.proofs.Grown.{grows_refl}
use Rattle.tl_tree.specs.Inner.Builders.{builder_of}
use Rattle.tl_tree.specs.Inner.Frames.{path_of}
use Rattle.tl_tree.specs.Inner.Store.{Grows}
use Rattle.tl_tree.specs.declared.path.FramePath.{FramePath}
use Rattle.tl_tree.specs.declared.store.Store.{Store}
use Rattle.tl_tree.proofs.builder.Builder.cut_to_html.Goals as goal

same-store : (p q : FramePath) → q.store ≡ p.store → Grows p.store q.store
same-store p q e = subst (λ (s : Store). Grows p.store s) (sym e) (grows_refl p.store)

pub invariant_of-self : goal.invariant_of-self
invariant_of-self c =
    let b = c.args.self.now in
    let q = c.cut_to_html.new.self in
    record { known = known-kept b q (same-store b.path q c.cut_to_html.ensures.store) c.cut_to_html.ensures.next }

pub returns-clause-ok : goal.returns-clause-ok
unfolding builder_of
returns-clause-ok c =
    let b = c.args.self.now in
    let q = c.cut_to_html.new.self in
    let grows = same-store b.path q c.cut_to_html.ensures.store in
    path-changed b q (known-kept b q grows c.cut_to_html.ensures.next)
    (from_html (path_of b.path)) b.path.next grows c.cut_to_html.ensures.next c.cut_to_html.ensures.path

pub returns-clause-token : goal.returns-clause-token
returns-clause-token c =
    let b = c.args.self.now in
    let q = c.cut_to_html.new.self in
    token-kept b q _ (same-store b.path q c.cut_to_html.ensures.store)
