use Rattle.std.proofs.Common.{◌≡◌, ap, sym, subst, true, false}
use Rattle.std.specs.List.{All}
use Rattle.tl_inline.specs.Inner.ItemStorage.{storage_view}
use Rattle.tl_spec.specs.Tree.Inline.{InlineVec}
use Rattle.tl_inline.proofs.Lists.{clone_is}
use Rattle.tl_inline.proofs.inline.vec.InlineVec.clone.Goals as goal

pub returns-in_ok-clone-in-Inline-clause-ok : goal.returns-in_ok-clone-in-Inline-clause-ok
returns-in_ok-clone-in-Inline-clause-ok g c =
    let at : storage_view c.self.inside.held ≡ c.args.self.now = c.self.view_is in
    clone_is g.T.Clone.is_clone c.args.self.now c.in-Inline.inline.items _ false (rw c.in-Inline.is at at) c.requires
    c.in_ok-clone-in-Inline.ensures.cases

pub returns-in_ok-clone-in-Heap-clause-ok : goal.returns-in_ok-clone-in-Heap-clause-ok
returns-in_ok-clone-in-Heap-clause-ok g c =
    let at : storage_view c.self.inside.held ≡ c.args.self.now = c.self.view_is in
    clone_is g.T.Clone.is_clone c.args.self.now c.in-Heap.heap.items _ true (rw c.in-Heap.is at at) c.requires
    c.in_ok-clone-in-Heap.ensures.cases.0

pub returns-in_err-clone-in-Inline-clause-succeeds : goal.returns-in_err-clone-in-Inline-clause-succeeds
returns-in_err-clone-in-Inline-clause-succeeds g c =
    let at : storage_view c.self.inside.held ≡ c.args.self.now = c.self.view_is in
    let items = ap (λ (w : InlineVec _). w.items) (rw c.in-Inline.is at at) in
    λ inline all. absurd (c.in_err-clone-in-Inline.ensures.cases (subst (All g.T.Clone.is_infallible) (sym items) all))
