use Rattle.std.proofs.Common.{◌≡◌, None, ◌∷◌, [], ◌++◌, ◌∙◌, length, ap, subst, sym}
use Rattle.std.specs.List.{refill}
use Rattle.std.specs.Map.{keys_of, lookup}
use Rattle.std.proofs.lemmas.List.{map-append}
use Rattle.std.proofs.lemmas.Map.Entries.{length-keys_of}
use Rattle.tl_spec.proofs.Tree.Pairs.{insert_new}
use Rattle.tl_inline.specs.Digest.{digest_of}
use Rattle.tl_inline.specs.Places.{AllowsKeys, note_of}
use Rattle.tl_inline.proofs.Maps.{distinct_inserted, replaced_of}
use Rattle.tl_inline.proofs.PlacesLemmas.{allows_key, allows_pushed, keys_replaced}
use Rattle.tl_inline.proofs.inline.hashmap.heap.pair_table.PairTable.insert.Goals as goal

pub place_by_note-requires : goal.place_by_note-requires
place_by_note-requires g c =
    let key = c.args.key in
    rw (c.as_slice.ensures.value, c.note_of_digest-was.ensures)
    (allows_key (λ k. digest_of (g.K.Hash.hash_input k)) (note_of c.self.inside.places.entries) (keys_of c.self.inside.pairs.items) (g.K.PartialEq.eq key)
    c.digest_of-digest.result (λ k h. ap digest_of (sym (g.met.K.Hash.respects_eq key k h)) ∙ sym c.digest_of-digest.ensures) c.self.invariant.1)

pub invariant_of-self : goal.invariant_of-self
invariant_of-self g c =
    let v = c.self.inside.pairs in
    let es = v.items in
    let ys = c.put_value.new.pairs in
    let index = rw c.as_slice.ensures.value at c.in-Some.ensures.index in
    let put = rw c.as_mut_slice.ensures.value at c.put_value.ensures in
    let after = replaced_of g.K.PartialEq.eq v.len es ys c.args.key c.args.value c.in-Some.i v.ok.0 index put in (
      distinct_inserted g.K.PartialEq.eq g.met.K.Eq.laws es (refill v.len es ys) c.args.key c.args.value after c.self.invariant.0,
      subst (λ l. AllowsKeys g.K.Hash.hash_input c.self.inside.places l)
          (sym (keys_replaced g.K.PartialEq.eq es c.in-Some.i (refill v.len es ys) c.args.key c.args.value index after)) c.self.invariant.1,
    )

pub returns-in-Some-clause-ok : goal.returns-in-Some-clause-ok
returns-in-Some-clause-ok g c =
    let v = c.self.inside.pairs in
    let index = rw c.as_slice.ensures.value at c.in-Some.ensures.index in
    let put = rw c.as_mut_slice.ensures.value at c.put_value.ensures in
    rw (← c.self.view_is) (replaced_of g.K.PartialEq.eq v.len v.items c.put_value.new.pairs c.args.key c.args.value c.in-Some.i v.ok.0 index put)

pub returns-in-Some-clause-unique : goal.returns-in-Some-clause-unique
returns-in-Some-clause-unique g c =
    let v = c.self.inside.pairs in
    let es = v.items in
    let ys = c.put_value.new.pairs in
    let index = rw c.as_slice.ensures.value at c.in-Some.ensures.index in
    let put = rw c.as_mut_slice.ensures.value at c.put_value.ensures in
    let after = replaced_of g.K.PartialEq.eq v.len es ys c.args.key c.args.value c.in-Some.i v.ok.0 index put in
    distinct_inserted g.K.PartialEq.eq g.met.K.Eq.laws es (refill v.len es ys) c.args.key c.args.value after c.self.invariant.0

pub invariant_of-self-in-Ok : goal.invariant_of-self-in-Ok
invariant_of-self-in-Ok g c =
    let es = c.self.inside.pairs.items in
    let k = c.args.key in
    let v = c.args.value in
    let pair : g.row.K.Denot × g.row.V.Denot = (k, v) in
    let pushed = c.push_reserved.ensures.items ∙ ap (λ l. l ++ pair ∷ []) c.in-Ok.ensures.items in
    let new : lookup (g.K.PartialEq.eq k) es ≡ None = rw c.as_slice.ensures.value at c.in_default.ensures.absent in
    let after = pushed ∙ sym (insert_new g.K.PartialEq.eq es k v new) in (
      distinct_inserted g.K.PartialEq.eq g.met.K.Eq.laws es c.push_reserved.new.self.items k v after c.self.invariant.0,
      subst (λ l. AllowsKeys g.K.Hash.hash_input c.make_room.new.places l) (sym (ap keys_of pushed ∙ map-append (λ p. p.0) es (pair ∷ [])))
          (allows_pushed (λ q. digest_of (g.K.Hash.hash_input q)) (note_of c.self.inside.places.entries) (note_of c.make_room.new.places.entries)
          (keys_of es) k (length es) (sym (length-keys_of es)) (rw (c.note_of_digest-was.ensures, c.digest_of-digest.ensures) at c.in-Ok.ensures.ok) c.self.invariant.1),
    )

pub returns-in-Ok-clause-ok : goal.returns-in-Ok-clause-ok
returns-in-Ok-clause-ok g c =
    let es = c.self.inside.pairs.items in
    let k = c.args.key in
    let v = c.args.value in
    let pushed = c.push_reserved.ensures.items ∙ ap (λ l. l ++ (k, v) ∷ []) c.in-Ok.ensures.items in
    let new : lookup (g.K.PartialEq.eq k) es ≡ None = rw c.as_slice.ensures.value at c.in_default.ensures.absent in
    rw (← c.self.view_is) (pushed ∙ sym (insert_new g.K.PartialEq.eq es k v new))

pub returns-in-Ok-clause-unique : goal.returns-in-Ok-clause-unique
returns-in-Ok-clause-unique g c =
    let es = c.self.inside.pairs.items in
    let k = c.args.key in
    let v = c.args.value in
    let pushed = c.push_reserved.ensures.items ∙ ap (λ l. l ++ (k, v) ∷ []) c.in-Ok.ensures.items in
    let new : lookup (g.K.PartialEq.eq k) es ≡ None = rw c.as_slice.ensures.value at c.in_default.ensures.absent in
    distinct_inserted g.K.PartialEq.eq g.met.K.Eq.laws es c.push_reserved.new.self.items k v (pushed ∙ sym (insert_new g.K.PartialEq.eq es k v new)) c.self.invariant.0
