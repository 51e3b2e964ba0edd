use Rattle.std.proofs.Common.{refl, sym, ap, ◌∙◌, ◌≡◌, ◌++◌, ◌∷◌, [], reverse, length-set, ℕ}
use Rattle.tl_spec.proofs.Tree.Writes.{closed-written, reverse-last}
use Rattle.tl.specs.View.{node_view}
use Rattle.tl.specs.Builder.{state_of}
use Rattle.tl.proofs.Building.{held_written, last_within, others_open}
use Rattle.tl.proofs.parser.builder.TableBuilder.close.Goals as goal

pub invariant_of-self : goal.invariant_of-self
invariant_of-self g c = record {
  in_table = others_open c.args.self.now.nodes.items _ c.args.self.now.open_tags.items c.pop.new.self.items _ (length-set c.args.self.now.nodes.items c.get_inner.result c.set_raw.new.self) c.args.self.now.in_table c.in-Some.ensures.items;
}

pub returns-in_ok-set_raw-clause-ok : goal.returns-in_ok-set_raw-clause-ok
returns-in_ok-set_raw-clause-ok g c =
    let b = c.args.self.now in
    let p : ℕ = c.get_inner.result in
    let tags : b.open_tags.items ≡ c.pop.new.self.items ++ p ∷ [] = c.in-Some.ensures.items ∙ ap (λ p. c.pop.new.self.items ++ p ∷ []) (sym c.get_inner.ensures) in
    closed-written node_view (g.S.Source.text c.args.source.now) c.args.to p (reverse c.pop.new.self.items) (state_of b) b.nodes.items c.index_mut.result.now c.set_raw.new.self refl
    (ap reverse tags ∙ reverse-last c.pop.new.self.items p) (last_within _ b.open_tags.items c.pop.new.self.items p b.in_table tags) c.index_mut.ensures.value c.in_ok-set_raw.ensures.ok

pub returns-in_ok-set_raw-clause-held : goal.returns-in_ok-set_raw-clause-held
returns-in_ok-set_raw-clause-held g c =
    let b = c.args.self.now in
    let p : ℕ = c.get_inner.result in
    let tags : b.open_tags.items ≡ c.pop.new.self.items ++ p ∷ [] = c.in-Some.ensures.items ∙ ap (λ p. c.pop.new.self.items ++ p ∷ []) (sym c.get_inner.ensures) in
    held_written g.S.Source.held b.nodes.items p c.index_mut.result.now c.set_raw.new.self (last_within _ b.open_tags.items c.pop.new.self.items p b.in_table tags) c.index_mut.ensures.value c.in_ok-set_raw.ensures.held
