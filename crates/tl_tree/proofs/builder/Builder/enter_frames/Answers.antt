use Rattle.std.proofs.Common.{subst, sym}
use Rattle.tl_tree.proofs.Built.{known-kept, path-changed, token-kept}
use Rattle.tl_tree.proofs.Entering.{same-path}
use Rattle.tl_tree.proofs.Grown.{grows_refl}
use Rattle.tl_tree.specs.Inner.Builders.{builder_of}
use Rattle.tl_tree.specs.Inner.Frames.{path_of}
use Rattle.tl_tree.specs.Inner.Store.{Grows}
use Rattle.tl_tree.specs.declared.store.Store.{Store}
use Rattle.tl_tree.proofs.builder.Builder.enter_frames.Goals as goal

pub invariant_of-self : goal.invariant_of-self
invariant_of-self c =
    let b = c.args.self.now in
    let q = c.enter_frames.new.self in
    let grows = subst (λ (s : Store). Grows b.path.store s) (sym c.enter_frames.ensures.store) (grows_refl b.path.store) in
    record { known = known-kept b q grows c.enter_frames.ensures.next }

pub returns-clause-ok : goal.returns-clause-ok
unfolding builder_of
returns-clause-ok c =
    let b = c.args.self.now in
    let q = c.enter_frames.new.self in
    let grows = subst (λ (s : Store). Grows b.path.store s) (sym c.enter_frames.ensures.store) (grows_refl b.path.store) in
    path-changed b q (known-kept b q grows c.enter_frames.ensures.next)
    (path_of b.path) b.path.next grows c.enter_frames.ensures.next (same-path b.path q c.enter_frames.ensures.frames c.enter_frames.ensures.store c.enter_frames.ensures.gaps)

pub returns-clause-token : goal.returns-clause-token
returns-clause-token c =
    let b = c.args.self.now in
    let q = c.enter_frames.new.self in
    let grows = subst (λ (s : Store). Grows b.path.store s) (sym c.enter_frames.ensures.store) (grows_refl b.path.store) in
    token-kept b q _ grows
