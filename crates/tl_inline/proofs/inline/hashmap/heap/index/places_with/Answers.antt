use Rattle.std.proofs.Common.{length, refl}
use Rattle.tl_inline.specs.Digest.{digest_of}
use Rattle.tl_inline.specs.Places.{note_of}
use Rattle.tl_inline.proofs.PlacesLemmas.{allows_pushed}
use Rattle.tl_inline.proofs.inline.hashmap.heap.index.places_with.Goals as goal

pub returns : goal.returns
returns g c =
    allows_pushed (λ q. digest_of (g.K.Hash.hash_input q)) (note_of c.in_ok-places.places.entries) (note_of c.note_key.new.places.entries) c.args.keys.now
    c.args.new.now (length c.args.keys.now) refl c.in_ok-note_key.ensures c.in_ok-places.ensures
