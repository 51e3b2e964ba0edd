use Rattle.std.proofs.Common.{◌∷◌, [], ◌++◌, ◌∙◌, ap, subst, sym}
use Rattle.std.specs.Map.{keys_of}
use Rattle.std.proofs.lemmas.List.{map-append}
use Rattle.tl_spec.proofs.Tree.Pairs.{insert_new}
use Rattle.tl_inline.specs.Places.{AllowsKeys}
use Rattle.tl_inline.proofs.Maps.{distinct_inserted}
use Rattle.tl_inline.proofs.inline.hashmap.heap.pair_table.PairTable.take.Goals as goal

pub invariant_of-result : goal.invariant_of-result
invariant_of-result g c =
    let es = c.args.indexed.now.entries in
    let k = c.args.key in
    let v = c.args.value in
    let pair : g.row.K.Denot × g.row.V.Denot = (k, v) in
    let pushed = c.push_reserved.ensures.items ∙ ap (λ l. l ++ pair ∷ []) c.in-Ok-list_of.ensures.items in
    let after = pushed ∙ sym (insert_new g.K.PartialEq.eq es k v c.requires.new) in (
      distinct_inserted g.K.PartialEq.eq g.met.K.Eq.laws es c.push_reserved.new.self.items k v after c.requires.distinct,
      subst (λ l. AllowsKeys g.K.Hash.hash_input c.in-Ok.places l) (sym (ap keys_of pushed ∙ map-append (λ p. p.0) es (pair ∷ [])))
          (rw (c.as_slice.ensures, c.keys.ensures.rest) at c.in-Ok.ensures),
    )

pub returns-in-Ok-list_of-clause-ok : goal.returns-in-Ok-list_of-clause-ok
returns-in-Ok-list_of-clause-ok g c =
    c.push_reserved.ensures.items ∙ ap (λ l. l ++ (c.args.key, c.args.value) ∷ []) c.in-Ok-list_of.ensures.items
    ∙ sym (insert_new g.K.PartialEq.eq c.args.indexed.now.entries c.args.key c.args.value c.requires.new)

pub returns-in-Ok-list_of-clause-unique : goal.returns-in-Ok-list_of-clause-unique
returns-in-Ok-list_of-clause-unique g c =
    let es = c.args.indexed.now.entries in
    let k = c.args.key in
    let v = c.args.value in
    let after = c.push_reserved.ensures.items ∙ ap (λ l. l ++ (k, v) ∷ []) c.in-Ok-list_of.ensures.items ∙ sym (insert_new g.K.PartialEq.eq es k v c.requires.new) in
    distinct_inserted g.K.PartialEq.eq g.met.K.Eq.laws es c.push_reserved.new.self.items k v after c.requires.distinct
