use Rattle.std.proofs.Common.{◌∙◌, ap, sym, subst}
use Rattle.std.specs.Map.{keys_of}
use Rattle.tl_inline.specs.Digest.{digest_of}
use Rattle.tl_inline.specs.Places.{AllowsKey, note_of}
use Rattle.tl_inline.proofs.PlacesLemmas.{allows_key}
use Rattle.tl_inline.proofs.inline.hashmap.heap.index.place_of.Goals as goal

pub place_by_note-requires : goal.place_by_note-requires
place_by_note-requires g c =
    let key = c.args.key.now in
    let keys = keys_of c.args.pairs.now in
    subst (λ note. AllowsKey (g.K.PartialEq.eq key) note keys) (sym c.note_of_digest.ensures)
    (allows_key (λ k. digest_of (g.K.Hash.hash_input k)) (note_of c.args.places.now.entries) keys (g.K.PartialEq.eq key) c.digest_of.result
    (λ k h. ap digest_of (sym (g.met.K.Hash.respects_eq key k h)) ∙ sym c.digest_of.ensures) c.requires)
