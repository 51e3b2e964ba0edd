use Rattle.std.proofs.Common.{◌≡◌, ◌<◌, length, take, arith, subst, sym}
use Rattle.std.proofs.lemmas.List.{length-take-le}
use Rattle.tl_inline.specs.Digest.{digest_of}
use Rattle.tl_inline.specs.Places.{AllowsKeys, note_of}
use Rattle.tl_inline.proofs.PlacesLemmas.{allows_pushed, taken_one}
use Rattle.tl_inline.proofs.inline.hashmap.heap.index.places_of.Goals as goal

pub loop-at-preserved : goal.loop-at-preserved
loop-at-preserved g c =
    let keys = c.args.keys.now in
    let x = c.index-keys-at.result in
    let at = c.loop-at.at in
    let old = note_of c.loop-at.places.entries in
    let new = note_of c.note_key.new.places.entries in
    let within : at < length keys = omega arith in
    let own = λ (k : g.row.K.Denot). digest_of (g.K.Hash.hash_input k) in
    subst (λ l. AllowsKeys g.K.Hash.hash_input c.note_key.new.places l) (sym (taken_one keys at x c.index-keys-at.is within))
    (allows_pushed own old new (take at keys) x at (sym (length-take-le at keys (omega arith))) c.in_ok-note_key.ensures c.loop-at.invariant)
