use Rattle.std.proofs.Common.{◌≡◌, ◌∙◌, sym, subst}
use Rattle.std.specs.List.{IsDistinct}
use Rattle.std.specs.Map.{keys_of}
use Rattle.tl_inline.specs.Digest.{digest_of}
use Rattle.tl_inline.specs.Places.{AllowsAll, AllowsKeys, note_of}
use Rattle.tl_inline.proofs.Maps.{list_clone_is}
use Rattle.tl_inline.proofs.inline.hashmap.heap.pair_table.PairTable.clone.Goals as goal

pub invariant_of-result : goal.invariant_of-result
invariant_of-result g c =
    let is = c.self.view_is in
    let es = c.in_ok-clone.field-0.items in
    let same = list_clone_is g.K.Clone.is_clone g.V.Clone.is_clone c.args.self.now c.self.inside.pairs.items es is c.requires.keys c.requires.values
    c.in_ok-clone.ensures.cases.0 in (
      subst (λ l. IsDistinct g.K.PartialEq.eq (keys_of l)) (is ∙ sym same) c.self.invariant.0,
      subst (λ notes. AllowsAll (λ k. digest_of (g.K.Hash.hash_input k)) (note_of notes) (keys_of es)) (sym c.in_ok-copy_places.ensures)
          (subst (λ l. AllowsKeys g.K.Hash.hash_input c.self.inside.places (keys_of l)) (is ∙ sym same) c.self.invariant.1),
    )

pub returns-clause-ok : goal.returns-clause-ok
returns-clause-ok g c =
    list_clone_is g.K.Clone.is_clone g.V.Clone.is_clone c.args.self.now c.self.inside.pairs.items c.in_ok-clone.field-0.items c.self.view_is
    c.requires.keys c.requires.values c.in_ok-clone.ensures.cases.0

pub returns-clause-unique : goal.returns-clause-unique
returns-clause-unique g c =
    let same = list_clone_is g.K.Clone.is_clone g.V.Clone.is_clone c.args.self.now c.self.inside.pairs.items c.in_ok-clone.field-0.items c.self.view_is
    c.requires.keys c.requires.values c.in_ok-clone.ensures.cases.0 in
    subst (λ l. IsDistinct g.K.PartialEq.eq (keys_of l)) (c.self.view_is ∙ sym same) c.self.invariant.0
