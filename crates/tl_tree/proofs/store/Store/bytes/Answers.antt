use Rattle.std.proofs.Common.{IsTrue, List, ap, drop, length, subst, sym, take, ◌++◌, ◌∙◌, ℕ}
use Rattle.tl_tree.specs.Inner.Store.{bytes_of}
use Rattle.tl_tree.specs.Inner.Within.{span_is_within}
use Rattle.tl_tree.proofs.store.Store.bytes.Goals as goal

pub bytes_at-requires-clause-within : goal.bytes_at-requires-clause-within
bytes_at-requires-clause-within c =
    subst (λ (side : List ℕ). IsTrue (span_is_within (length c.args.self.now.page.now) (length side) c.args.span)) (sym c.deref.ensures.value) c.requires

pub returns : goal.returns
unfolding bytes_of
returns c =
    c.bytes_at.ensures
    ∙ ap (λ (side : List ℕ). take c.args.span.len (drop c.args.span.start (c.args.self.now.page.now ++ side))) c.deref.ensures.value
